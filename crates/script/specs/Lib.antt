-- Words: text in parts. Numbers: a word as a number. Hex: a word as bytes. Writes: the K lines. Calls: a line as a call.
pub mod Words
pub mod Numbers
pub mod Hex
pub mod Writes
pub mod Calls
