-- Printing: numbers as bytes. Parsing: bytes as numbers.
pub mod Printing
pub mod Parsing
