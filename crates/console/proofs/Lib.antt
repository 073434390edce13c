-- Answering: one string, its answer and its wait. Turns: one string of the input at a time. Going: what holds before each.
-- Parts: an input in parts. Examples: the inputs that 01 gives.
mod Answering
mod Turns
mod Going
mod Parts
mod Examples
