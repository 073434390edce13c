-- Texts: pieces of text gathered one after the other. WideNumbers: the digits of a wide number, and the sign of an i64. Cases: computed examples.
pub mod Texts
mod WideNumbers
mod Cases
