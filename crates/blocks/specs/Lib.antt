-- Laws of blocks over any words.
pub mod Blocks
