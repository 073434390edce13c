-- Placed: the names and cells that a string asks for have a place in their lists, and a cell that it stores is sound.
-- Codes: what a string asks for, by its code.
mod Placed
mod Codes
