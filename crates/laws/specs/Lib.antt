-- What the definitions of every layer are made of.
-- Tests: a choice, and the joins of tests. Tables: a test over each entry of a list. Text: strings as bytes. Writing: what a write into a buffer leaves.
pub mod Tests
pub mod Tables
pub mod Text
pub mod Writing
