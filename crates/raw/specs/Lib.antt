-- Integers: which integers narrower places hold. Counts: what remains, as an integer and back, with its unit.
-- Fields: the fields of the record, by name. Cells: a cell of a code and its parameters. Writes: the three raw writes.
pub mod Integers
pub mod Counts
pub mod Fields
pub mod Cells
pub mod Writes
