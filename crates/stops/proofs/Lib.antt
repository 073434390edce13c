-- Braking: the steps of a 05 after its stop fit.
mod Braking
