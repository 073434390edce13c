-- Telling: what a string asks of the drive and the buffer. What it does and answers is 01's, in machine.
pub mod Telling
