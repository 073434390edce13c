-- Integers: the size of sums and products, and numbers that fit a width. Complement: numbers and their bits.
-- Stepping: one step of the position. Nearer: what remains after one more step. Limits: shifts that fit.
pub mod Integers
pub mod Complement
pub mod Stepping
pub mod Nearer
pub mod Limits
