-- Waiting: what a wait hands back, what remains of a delay, and which changes a wait leaves to a millisecond by value.
pub mod Waiting
