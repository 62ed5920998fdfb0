-- The automaton that reads a text, and that it accepts what `paper` accepts and fails where no accepted text can follow.
pub mod Machine
pub mod Complete
pub mod Sound
pub mod Decided
pub mod Tally
pub mod Passes
pub mod Far
pub mod Decision
