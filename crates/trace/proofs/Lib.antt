-- Stages: what a program has still to make, at each stage of its way. Taking: what taking a cell makes of it.
-- Events: what a millisecond, a step, a report of the board and a wait make of it. Courses: what calls and whole lists of them make, and that a
-- program which is left alone ends.
pub mod Stages
pub mod Taking
pub mod Events
pub mod Courses
