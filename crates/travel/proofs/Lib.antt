-- Outputs: the outputs, the same or one of them changed. Moves: what one step comes to. Runs: steps one after the other.
-- Turns: a turn of the loop that gives them. Cases: some travels, worked.
mod Outputs
mod Moves
mod Runs
mod Turns
mod Cases
