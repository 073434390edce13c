-- Formula: rounding by the formula is the greatest not above. Entries: the table's rule, from one computed test.
-- Placing: places and their frequencies. Cases: 01's starred cases.
pub mod Formula
pub mod Entries
pub mod Placing
pub mod Cases
