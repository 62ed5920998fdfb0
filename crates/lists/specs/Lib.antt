-- The general theory of lists. `Plain` has the definitions, and is to be believed; the others prove laws of them.
pub mod Plain
pub mod Tests
pub mod Orders
pub mod Every
pub mod Filters
pub mod Maps
pub mod Counting
pub mod Positions
pub mod Sorting
pub mod Halves
pub mod Digits
pub mod Parts
pub mod Searching
pub mod Choosing
pub mod Filling
