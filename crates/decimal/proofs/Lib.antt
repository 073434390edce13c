-- Printing: lengths and widths of what is printed. RoundTrip: what is printed parses to its number, so printing is injective.
-- Plain: no comma, space or control byte is printed. Powers: the table of powers. Taking: a power taken away several at a time.
-- Turns: one turn of each loop, and the value that is read as 32 bits. Cases: computed examples.
pub mod Printing
pub mod RoundTrip
pub mod Plain
mod Powers
mod Taking
mod Turns
mod Cases
