-- The proof's parts, in the order in which they are read: words at their places and what events count; the queue and the block over either axis; the tree
-- of the low ends over lists, then over words, then by itself; groups and Meeting; the whole walk; an index; the calls; one table. The theorems that put
-- them together are in proofs/ (Demands).
pub mod Places
pub mod Events
pub mod Queue
pub mod Block
pub mod Nodes
pub mod Tree
pub mod Levels
pub mod LowEnds
pub mod Groups
pub mod Whole
pub mod Index
pub mod Calls
pub mod Many
pub mod Instance
pub mod Demands
