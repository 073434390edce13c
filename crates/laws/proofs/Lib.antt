-- Tests: taking a choice and joined tests apart. Joins: joined and denied tests, as the code makes them and in another order.
-- Telling: what the arm of a `match` knows. Tables: from a computed test to the rule at each entry. Writing: writes one after the other.
pub mod Tests
pub mod Joins
pub mod Telling
pub mod Tables
pub mod Writing
