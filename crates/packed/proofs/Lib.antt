-- Turns, CellTurns: one turn of each loop over a row, over cells. RoundTrip: what is written of a row is read back, and what is read is what
-- is written for its values. Outlines: a row by its kinds and by its outline. CellSteps: each way through reading a cell, and each piece of
-- writing it. CellRoundTrip: as RoundTrip, of cells. Before: cells read by the codes as they were
-- before 02's longer waits. Cases: computed examples.
mod Turns
pub mod RoundTrip
pub mod Outlines
mod CellSteps
mod CellTurns
pub mod CellRoundTrip
pub mod Before
mod Cases
