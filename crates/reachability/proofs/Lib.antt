-- Searching: what a search keeps, and that it finds all. Rooting: where searches begin. MapCases: the worked maps.
pub mod Searching
mod Rooting
mod MapCases
