-- 01, "Bench strings and near misses": "Console program: strings from standard input, each given to one drive of address 00, then a wait of
-- 1,000; of a longer string the first 64 bytes and the 13 are given, and bytes after the last 13 are dropped."
-- Assumes nothing.
use Rattle.std.specs.Prelude.{ℕ, Bool, true, false, List, [], ◌∷◌, ◌++◌, replicate, eqb}
use Rattle.machine.specs.Record.{fresh}
use Rattle.machine.specs.Calls.{apply, next}
use Rattle.machine.specs.Calls.Call.{SendString, Wait}
use Rattle.machine.specs.declared.Machine.{Machine}
use Rattle.lines.specs.Strings.{given}

-- the buffer that is lent for an answer
unfoldable pub lent : List ℕ
lent = replicate 64 0

-- what is answered to a string
unfoldable pub answer_to : List ℕ → Machine → List ℕ
answer_to s m = (apply (SendString s lent) m).answer

-- "each given to one drive of address 00, then a wait of 1,000"
unfoldable pub after_string : List ℕ → Machine → Machine
after_string s m = next (Wait 1000) (next (SendString s lent) m)

-- where the console stands: the drive, the bytes since the last 13, and what is written
pub record Standing : Type 0 where
  pub machine : Machine
  pub held : List ℕ
  pub written : List ℕ

abbrev pub standing : Machine → List ℕ → List ℕ → Standing
standing m h w = record { machine = m; held = h; written = w }

-- one byte of input; the flag says that it is a 13
unfoldable pub byte_taken : Bool → ℕ → Standing → Standing
-- "of a longer string the first 64 bytes and the 13 are given"
byte_taken true b c =
    standing (after_string (given c.held) c.machine) [] (c.written ++ answer_to (given c.held) c.machine)
byte_taken false b c = standing c.machine (c.held ++ (b ∷ [])) c.written

-- "strings from standard input"
unfoldable pub console : List ℕ → Standing → Standing
console [] c = c
console (b ∷ bs) c = console bs (byte_taken (eqb b 13) b c)

-- where the program stands after an input: at first the drive is fresh, and nothing is held or written
unfoldable pub standing_after : List ℕ → Standing
standing_after input = console input (standing (fresh (record { 0 = 0 })) [] [])

-- what the program writes for an input: "bytes after the last 13 are dropped", since nothing is made of what is held
unfoldable pub output_of : List ℕ → List ℕ
output_of input = (standing_after input).written
