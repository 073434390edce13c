-- Bits: flags as bits, and how large they get. Pieces: four bytes written one by one, and room behind what was written.
-- Told: bytes tell what they were made of. Cases: worked cases.
mod Bits
mod Pieces
pub mod Told
mod Cases
