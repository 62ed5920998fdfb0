pub mod Whole
pub mod Fits
pub mod Order
