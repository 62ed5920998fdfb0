-- The notions that the builder's contracts cite, and laws.
pub mod Gathering
pub mod LevelRuns
pub mod Placing
pub mod Whole
