-- Taken: the ways through taking an indexed run and a 69.
mod Taken
