-- Formats: the fields of each code.
pub mod Formats
