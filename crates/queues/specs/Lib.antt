-- Laws of queues over any words.
pub mod Queues
pub mod Stacks
