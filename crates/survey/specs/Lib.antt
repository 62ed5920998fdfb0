-- What the program's turns keep.
pub mod Turns
