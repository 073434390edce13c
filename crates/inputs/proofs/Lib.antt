-- Bits: the bits of a word, stored one by one.
mod Bits
