-- Turns: one turn of each loop. RoundTrip: what is written is read, what is read is what is written, and lengths.
-- Folding: signed numbers as numbers and back. Cases: computed examples.
mod Turns
pub mod RoundTrip
pub mod Folding
mod Cases
