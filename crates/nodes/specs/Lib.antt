-- Laws of nodes over any words.
pub mod Ends
pub mod Nodes
pub mod Stacks
