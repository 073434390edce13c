-- Acting: what the lower crates give, at the cells that a drive has present, as the outcome of a call. AtCell: the same of events.
pub mod Acting
pub mod AtCell
