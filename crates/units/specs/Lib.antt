-- What the drive's numbers are and what is done with them.
-- Limits: the greatest numbers. Bits: steps and their bits. Position: its number and one step.
-- Remaining: the steps that remain of a run. Shift: how far an indexed run goes.
pub mod Limits
pub mod Bits
pub mod Position
pub mod Remaining
pub mod Shift
