-- Starred: the starred examples of document 01, one table and one statement.
pub mod Starred
