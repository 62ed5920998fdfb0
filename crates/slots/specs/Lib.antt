-- Laws of the search and of slots over any words.
pub mod Search
pub mod Slots
