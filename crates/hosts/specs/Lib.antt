-- Answered: what the tests along an order make of each answer.
pub mod Answered
