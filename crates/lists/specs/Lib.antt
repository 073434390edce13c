-- Listing: the words of a list, the calls that they stand for, and what is seen of each.  Performing: a list carried out
-- whole. Giving: what each word's function promises. WholeLists: calls written as a list come to what they come to one by one, the theorem.
pub mod Listing
pub mod Performing
pub mod Giving
pub mod WholeLists
