-- Walk: what following the next addresses adds up to. Results: the numbers of the refusals. Room: that sums fit.
-- Figures: the claim that a run makes these totals. TotalsCases: worked totals.
pub mod Walk
pub mod Results
pub mod Room
pub mod Figures
pub mod TotalsCases
