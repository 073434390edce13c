-- Tables of cases: Starred, Worked; Computing (the definitions opened for them), Delays (a wait through a delay, for a case with long ones).
-- What soundness says: Cells (of a cell and its run), Parts (of a state, part by part), RemainingCounts (of what remains of a run or a delay),
-- Places (of the places of the memory that a drive names).
-- What keeps a state sound: Going (what events are made of), Variants (which instruction is a 69 or a 65), Taking (each code), Milliseconds (and waits), Stopping (stops and PX),
-- Reports (at-speed and halted), Stepping, Inputs. Words: an inputs word needs only the cell that was present before it.
-- What keeps a drive sound: Ranges (what a string asks for), Storing (a cell), Hearing (a string), Invariant (every call: the theorem).
-- Waits: a wait gives the least number of milliseconds. Tests: laws of tests and lists that are not particular to the drive.
-- What a drive answers: Addressing (strings at its own address and at another's), Requests (the 165, and what each is parsed as), Answering (the
-- answer to each). Members: members of lists.
-- What an answer shows: Texts (from a text to its values), Showing (the parts of the state), Interrupted (the interrupted record), Readings (equal
-- readings are readings of equal drives). WritingBack: a cell's answer sent back changes nothing. Demand: demand 3, the theorem.
-- Demand1: demand 1, the theorem. Demand2Hearing (what is heard of a WN and of other codes), Demand2Strings (what a WN leaves, and that nothing else
-- changes a cell), Demand2Rows (which WN is answered Y), Demand2Frequency (the frequency of a 21 or 22), Demand2Settings (the other strings that store),
-- Demand2: demand 2, the theorem.
-- Images: ImagePresets (the presets as a row), Images (written and read, both ways), MemoryImages (what images keep, the theorem), OlderImages
-- (what an older gateway makes of them), ImageCases (worked images). LongerWaits: 02, Slip 6, the theorem.
pub mod Computing
mod Starred
mod Delays
mod Worked
pub mod Tests
pub mod Cells
pub mod Parts
pub mod RemainingCounts
pub mod Places
pub mod Going
pub mod Variants
mod Taking
pub mod Milliseconds
pub mod Stopping
pub mod Reports
pub mod Stepping
pub mod Inputs
pub mod Words
pub mod Ranges
pub mod Storing
pub mod Hearing
pub mod Waits
pub mod Invariant
mod Members
pub mod Addressing
mod Requests
pub mod Answering
mod Texts
pub mod Showing
mod Interrupted
pub mod Readings
pub mod WritingBack
pub mod Demand
mod Demand1
pub mod Demand2Hearing
mod Demand2Strings
mod Demand2Rows
mod Demand2Frequency
mod Demand2Settings
pub mod Demand2
mod ImagePresets
mod Images
mod MemoryImages
mod OlderImages
mod LongerWaits
mod ImageCases
