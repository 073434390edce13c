-- Rows: all numbers of a row of kinds, as groups of seven bits. Layout: the same by a row's outline. Cells: cells, as the rows of their codes.
pub mod Rows
pub mod Layout
pub mod Cells
