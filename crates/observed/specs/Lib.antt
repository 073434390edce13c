-- What is seen of a drive, as the form of scripts writes it. Orders: the order to the board, and the end of a wait. Outputs: the outputs.
-- Nets: net steps. Shown: bytes. Sums: the weighted sum of bytes.
pub mod Orders
pub mod Outputs
pub mod Nets
pub mod Shown
pub mod Sums
