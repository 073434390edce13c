-- Codes: the code of each instruction. Numbers: an instruction as the numbers of its QM answer, and back.
-- Soundness: what a cell may hold. Texts: a cell as it is sent and shown. Runs: what a run needs of an instruction.
-- Adding: what it adds to the totals of a program. Ways: where it leads beside its next.
pub mod Codes
pub mod Numbers
pub mod Soundness
pub mod Texts
pub mod Runs
pub mod Adding
pub mod Ways
