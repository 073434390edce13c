-- Cases: raw writes to a fresh drive, computed.
mod Cases
