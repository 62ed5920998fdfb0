-- Weighing and Decides: what decides Meeting, over any whole numbers. Determined: it is one thing, and demand 2 of the scan. The others are what the code needs.
pub mod Weighing
pub mod Decides
pub mod Bounds
pub mod Determined
pub mod Gap
pub mod Sides
