-- The greatest numbers that an instruction names and that a rest and a loop count reach.
-- Assumes nothing.
use Rattle.std.specs.Prelude.{ℕ}

-- 01: "n is ±nnn within 8,388,607 each way"; of the 05: "nnn", "0 to 8,388,607"
abbrev pub step_limit : ℕ
step_limit = 8388607

-- 02: "Code 65 takes 0 to 8,388,607 milliseconds", in place of 01's "0 to 65,535"
abbrev pub delay_limit : ℕ
delay_limit = 8388607

-- 01: "65 nnn (0 to 65,535)". By this an older gateway judges an image
abbrev pub delay_limit_before : ℕ
delay_limit_before = 65535

-- 01: "61 nnn (1 to 65,535)"; "a loop count is at most 65,535". 02: "loop counts stay at 65,535"
abbrev pub loop_limit : ℕ
loop_limit = 65535

-- 01: "a rest is within 33,554,428 either way"
abbrev pub remaining_limit : ℕ
remaining_limit = 33554428
