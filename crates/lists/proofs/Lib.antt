-- Words: the word in front of a list, then those behind it. Lists: calls one after another. Small, Strings: what each word comes to. Turns: the words
-- of a list, carried out one after another. Performances: what is handed back of a whole list. Cases: worked lists.
-- WholeLists: calls written as a list come to what they come to one by one, the theorem.
mod Words
mod Lists
mod Small
mod Strings
mod Turns
mod Performances
mod Cases
mod WholeLists
