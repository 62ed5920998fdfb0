-- The laws of a block's words that its builder rests on.
pub mod Sides
pub mod Blocks
pub mod Cutting
pub mod Separating
pub mod Dividing
pub mod Spreading
pub mod Joining
pub mod Fronts
pub mod Straight
