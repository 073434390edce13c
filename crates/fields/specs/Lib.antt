-- Reader: one field after another. Names: the lists of names. Kinds: one field of each kind. Rows: all fields of a string.
pub mod Reader
pub mod Names
pub mod Kinds
pub mod Rows
