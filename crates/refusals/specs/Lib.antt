-- Orders: laws of an order's outcome, shared by the public calls.
pub mod Orders
