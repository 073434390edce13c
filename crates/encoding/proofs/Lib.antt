-- Places: numbers read back among bytes. Turns: one word of a list after the other, and each word of a list that is not refused.
-- Cases: worked heads and refusals.
pub mod Places
pub mod Turns
mod Cases
