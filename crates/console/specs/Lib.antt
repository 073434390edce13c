-- Console: the console program of 01. Serving: what its functions hand back. Examples: exchanges that 01 gives.
pub mod Console
pub mod Serving
pub mod Examples
