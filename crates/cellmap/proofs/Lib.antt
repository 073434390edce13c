-- Counting: marking a place takes one from those that have no mark.
pub mod Counting
