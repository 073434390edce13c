-- Passing: the running part after a cell is passed.
pub mod Passing
