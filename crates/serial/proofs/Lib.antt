-- Ends: a string that ends in byte 13 is not empty. Codes: the codes that the checks look for, as one number each.
-- Carried: what a command does and answers, by the cell that was read for it. Sound: what a sound drive says of that cell, and of what an
-- answer shows. Told: what a string leaves and answers, by whether it is heard.
mod Ends
mod Codes
mod Carried
mod Sound
mod Told
