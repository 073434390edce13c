-- Pieces: what an answer is made of, and what writing it asks. The answers themselves are 01's, in machine.
pub mod Pieces
