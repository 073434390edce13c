-- Updating: what becomes of the map with a string. UsedCells: the claim over lists of calls.
pub mod Updating
pub mod UsedCells
