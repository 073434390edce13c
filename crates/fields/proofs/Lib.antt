-- Reading: where a field ends, and that it lies within its string. Naming: each name is found at its own place of its list.
-- Bounds: what a good kind and a valid value say in numbers. Plain: no comma, space or control byte is printed. Lengths: the most bytes printed.
-- RoundTrip: what is printed parses to its values, so printing is injective. Validity: what parses is valid.
-- Turns: one turn of each loop, and each case of a field. Cases: strings taken and refused, computed.
pub mod Reading
pub mod Naming
pub mod Bounds
pub mod Plain
pub mod Lengths
pub mod RoundTrip
pub mod Validity
mod Turns
mod Cases
