-- Delays: which state is a delay, and its milliseconds before the last. Waits: what a wait hands back, from its milliseconds. Carried: a
-- change that is carried out in place is a millisecond.
mod Delays
mod Waits
mod Carried
