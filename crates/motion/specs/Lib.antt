-- Bounds: what a sound cell keeps to, where a number must fit.
pub mod Bounds
