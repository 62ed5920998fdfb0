-- What the code keeps of a walk, and how it reads words.
pub mod State
pub mod Reads
pub mod Fold
pub mod Stack
