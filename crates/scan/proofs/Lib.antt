-- Searching: one step of the search for a byte, and its end.
mod Searching
