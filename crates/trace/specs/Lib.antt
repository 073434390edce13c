-- Course: a program that is left to run, and what is made of it.
pub mod Course
