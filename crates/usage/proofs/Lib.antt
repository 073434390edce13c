-- Keeping: a map that is right stays right. Changing: where a string changes the memory. UsedCells: the theorem. Named: the cell that a string names.
-- Telling: the memory after a string.
mod Keeping
mod Changing
mod UsedCells
mod Named
mod Telling
