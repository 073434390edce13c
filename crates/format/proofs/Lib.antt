-- Entries: from one test over the table of formats to the rule at each code, and what its row holds.
-- Before: the table as it was before 02's longer waits, beside the present one.
pub mod Entries
pub mod Before
