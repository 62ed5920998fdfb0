-- Asking: what the walks of many windows leave in a room. Outcome: what the call gives along its order.
pub mod Asking
pub mod Outcome
