-- The step frequencies of the board, and rounding down to one of them.
-- Table: the table and its rule. Places: a frequency by its place. Rounding: the greatest not above. Cases: 01's starred cases.
pub mod Table
pub mod Places
pub mod Rounding
pub mod Cases
