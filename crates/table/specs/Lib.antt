-- `Cells` has what the contracts of `table` say beside the words of `paper`; the others are laws.
pub mod Cells
pub mod Address
pub mod Rows
pub mod Segments
pub mod Close
