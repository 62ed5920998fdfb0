-- Scanning: what the scan gives and promises, along its order. Building and Querying: what the builder and the query give along theirs.
pub mod Scanning
pub mod Building
pub mod Querying
