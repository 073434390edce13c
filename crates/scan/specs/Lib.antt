-- Bytes: where a byte stands in a list, and a part of a list.
pub mod Bytes
