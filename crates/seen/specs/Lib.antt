-- Bytes: what is seen of a call, as bytes.
pub mod Bytes
