-- Pieces: pieces gathered one after the other. Lending: a part of a buffer that is lent. Fronts: the front that a line keeps of a piece. Cutting: a
-- string cut at 64 bytes, and its end.
pub mod Pieces
pub mod Lending
mod Fronts
mod Cutting
