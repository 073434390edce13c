-- Marks: a mark for each place, and how many places have none.
pub mod Marks
