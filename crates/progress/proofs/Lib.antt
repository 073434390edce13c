-- Passing: going on to the next cell replaces the running part.
pub mod Passing
