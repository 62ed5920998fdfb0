-- Laws of the program: the memory that is lent, the state between lines, what a line does to it, and how the input falls into lines.
pub mod Buffers
pub mod States
pub mod Filling
pub mod Asking
pub mod Cutting
pub mod Steps
pub mod Reading
