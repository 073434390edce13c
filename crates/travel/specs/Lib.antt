-- Travel: steps of one run as so many `Step` calls, and how many are given. Plain: what a step changes that only moves.
pub mod Travel
pub mod Plain
