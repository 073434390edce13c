-- Cells: what a sound cell says of its numbers.
mod Cells
