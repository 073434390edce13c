-- Validity: each value that an answer shows is one that its field admits. Writing: pieces of an answer, one after the other.
-- Rows: what answering with a row asks. RequestRows: what the row of each request asks and says.
-- Commands: what answering a command asks, taken apart. Lengths: an answer has 1 to 64 bytes.
mod Validity
mod Writing
mod Rows
mod RequestRows
mod Commands
pub mod Lengths
