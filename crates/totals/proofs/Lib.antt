-- Fitting: that what sound cells add stays within the sums' limits. Walking: each way through one turn. Turning: a turn as the code makes it.
-- Following: what a program has to make that is followed to its end, and the theorem that a run makes it. TotalsCases: worked totals.
mod Fitting
mod Walking
mod Turning
mod Following
mod TotalsCases
