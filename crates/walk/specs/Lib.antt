-- Answer 9 by its parts, and the whole walk from its groups.
pub mod Header
pub mod Whole
