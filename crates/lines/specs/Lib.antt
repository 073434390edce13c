-- Gathering: bytes put behind each other. Strings: the strings of the console's input.
pub mod Gathering
pub mod Strings
