-- `Axes` has the definitions that the contracts cite, and the laws that tie the names to `paper`'s words.
pub mod Axes
