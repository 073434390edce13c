-- What the contracts cite beside the definitions of 01. Results: what an operation hands back, as 01's numbers and values. Events: what an event comes
-- to, given the present cell.
pub mod Results
pub mod Events
