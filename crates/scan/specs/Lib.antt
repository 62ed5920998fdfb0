-- Listing: what the loop lists, position by position. Promise: what a scan that is done promises its caller.
pub mod Listing
pub mod Promise
