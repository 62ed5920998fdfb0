-- The top of the theory: the whole walk, the words of an index, and the theorems (Demands). specs/ has the laws that these rest on.
pub mod Together
pub mod Demands
pub mod Whole
pub mod Index
pub mod Many
pub mod Instance
