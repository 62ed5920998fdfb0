-- Document 01. To be believed: `lists`' Plain (words of everyday use), then these, a module for each heading and in the document's order.
pub mod Limits
pub mod Descriptor
pub mod Meeting
-- (request E5: windows in one slice, of which the answers speak)
pub mod Windows
pub mod Answers
pub mod Words
pub mod Walk
pub mod Orders
pub mod Results
pub mod Hosts
pub mod Lines
pub mod Demands
-- Request E3, tables as text.
pub mod Wkt
-- Not to be believed but checked: a test of meeting, and examples that antt computes.
pub mod Corners
pub mod Rows
pub mod Examples
pub mod WktExamples
