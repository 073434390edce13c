-- What the contracts cite beside the definitions of 01. Places: the cell that an address names, if it names one.
-- Phases: what soundness asks of a program under way in a phase.
pub mod Places
pub mod Phases
