-- Scanning: the ways out of a scan, along its order.
pub mod Scanning
