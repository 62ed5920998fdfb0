-- `Raising` has what the contracts say beside `paper`: a level made from the level under it. `InPlace` has the laws
-- of writing levels in place; `Rows`, `Counts` and `Levels` show that what is written is `levels_words` of `paper`; `RecordWords` does the same for the records, `XOrder` for the last level.
pub mod Raising
pub mod InPlace
pub mod Rows
pub mod Counts
pub mod Levels
pub mod RecordWords
pub mod XOrder
