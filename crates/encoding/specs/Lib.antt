-- Numbers: little-endian numbers among bytes. Words: the word at the front of a list, its size and room. Refusing: which lists are refused, and by which number.
pub mod Numbers
pub mod Words
pub mod Refusing
