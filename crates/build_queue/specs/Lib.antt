-- The laws of a queue's words that its builder rests on.
pub mod Taking
pub mod Queues
pub mod Best
pub mod Ends
pub mod Runs
pub mod Parting
pub mod Arranging
