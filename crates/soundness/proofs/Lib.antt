-- Comparisons: single numbers, in the plain comparisons that the code makes. Pass: the pass over the memory, and the cells that the state names.
mod Comparisons
mod Pass
