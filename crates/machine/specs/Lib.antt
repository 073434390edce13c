-- Document 01, section by section. A reader who believes these files knows what the drive does.
-- What a drive holds:  Record (the fields, changed one at a time), Soundness.
-- Strings:             Strings (which are heard), Commands (what a string asks for), Answers (the bytes that answer), Acting (what a command does).
-- Carrying out:        Starting, Taking (each code), Milliseconds, Stepping, Stopping (free run stop, emergency stop, PX), InputWords, Reports, Orders, Waiting.
-- By operation:        Calls (each call with its refusals; lists of calls and what is seen of them), Operations (the answer buffer, fresh, board order).
-- 02, Slip 1:          Images (what an image holds, written and read), MemoryImages (what images keep, as one statement), ImageCases (worked images).
-- 02, Slip 6:          LongerWaits (what cells hold, what a wait leaves of a delay, what an older gateway makes of images, as one statement).
-- What calls keep:     Invariant (sound drives, refusals, idle drives, waits, as one statement).
-- The demands:         Demand1; Demand2; Reading (the 165 requests), Demand3.
-- Bench strings:       Cases (the cases marked *).
-- Worked cases:        Worked (their form and test), WorkedCases (lists of calls and what must come, from 01 and from the manual).
pub mod Record
pub mod Soundness
pub mod Strings
pub mod Commands
pub mod Answers
pub mod Acting
pub mod Starting
pub mod Taking
pub mod Milliseconds
pub mod Stepping
pub mod Stopping
pub mod InputWords
pub mod Reports
pub mod Orders
pub mod Waiting
pub mod Calls
pub mod Operations
pub mod Images
pub mod Invariant
pub mod MemoryImages
pub mod LongerWaits
pub mod Reading
pub mod Demand3
pub mod Demand1
pub mod Demand2
pub mod Cases
pub mod Worked
pub mod WorkedCases
pub mod ImageCases
