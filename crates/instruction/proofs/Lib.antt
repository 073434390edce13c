-- Values: what a cell holds of a number that its kind admits.
-- Numbering: a cell from its code and its numbers. Storing: numbers that their fields admit make a sound cell.
-- Sending: a cell from its text. TextSteps: each way through reading a text, and each piece of printing it. Cases: texts taken and refused, computed.
-- Holding: the tests that a cell holds its numbers whole.
-- TestsFields: the tests of single fields, in plain comparisons. TestsRows: the tests of a whole row.
pub mod Values
pub mod Numbering
pub mod Storing
mod Holding
pub mod Sending
mod TextSteps
mod Cases
pub mod TestsFields
mod TestsRows
