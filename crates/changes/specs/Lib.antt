-- Changes: what taking a cell and a millisecond change, and what a change makes of a state.
pub mod Changes
