-- Laws of the one spelling of a table as text: what is still due of a text while it is written, and how long it is.
pub mod Todo
pub mod Spelling
