-- Laws of a line's bytes: numbers, and the parts between marks.
pub mod Numbers
pub mod Marks
pub mod Forms
