-- Cells: what a sound cell says of the numbers that taking it uses. Changing: the change that a cell or a
-- millisecond makes is what `machine` defines.
mod Cells
pub mod Changing
