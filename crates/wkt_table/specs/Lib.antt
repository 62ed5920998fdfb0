-- What the public calls give along their orders, and that reading what was written gives the same coordinates.
pub mod Reading
pub mod Writing
pub mod RoundTrip
pub mod Examples
