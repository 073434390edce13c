-- Fields: what a string asks for, by the fields that belong to its code.
pub mod Fields
