-- What the contracts of `ordering` say beside `lists`, with their laws: `Merging` and `Tally` for a merge and its counts, `Counting` for both of them in place,
-- `InPlace` for a sort.
pub mod Merging
pub mod Tally
pub mod Counting
pub mod InPlace
