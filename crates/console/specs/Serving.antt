-- What the console's functions are given and hand back.
-- Assumes nothing.
use Rattle.std.specs.Prelude.{ℕ, ◌+◌, ◌≤◌, ◌≡◌, List, [], ◌++◌, length, take}
use Rattle.laws.specs.Writing.{Put}
use Rattle.machine.specs.declared.Machine.{Machine}
use Rattle.console.specs.Console.{answer_to, after_string, Standing, standing, standing_after, output_of}
use Rattle.console.specs.declared.Exchange.{Exchange}
use Rattle.console.specs.declared.server.Server.{Server}

-- where a console at work stands: the drive, and the bytes kept of the string under way
abbrev pub at_work : Server → Standing
at_work r = standing r.drive.machine (take r.held r.string) []

-- after the string s, given to m: the answer is put into the output l at the place w, the place after it is e, and no string is under way
pub record Answers (s : List ℕ) (m : Machine) (l : List ℕ) (w : ℕ) (r : Server) (e : ℕ) : Type 0 where
  pub machine : r.drive.machine ≡ after_string s m
  pub put : Put l r.out (answer_to s m) w e
  pub within : e ≤ w + 64
  pub ended : r.held ≡ 0

-- from where the console stood to the standing c: the drive, the bytes kept of the string under way, and w bytes of answers, which are at the
-- front of the output
pub record Serves (c : Standing) (r : Server) (w : ℕ) : Type 0 where
  pub machine : r.drive.machine ≡ c.machine
  pub held : take r.held r.string ≡ take 64 c.held
  pub written : take w r.out ≡ c.written
  pub count : w ≡ length c.written

-- the program is where an input has brought it: the drive, and the bytes kept of the string under way
pub record Reached (input : List ℕ) (r : Server) : Type 0 where
  pub machine : r.drive.machine ≡ (standing_after input).machine
  pub held : take r.held r.string ≡ take 64 (standing_after input).held

-- some input has brought it there
pub record Reachable (r : Server) : Type 0 where
  pub input : List ℕ
  pub reached : Reached input r

-- after a part b of the input, whatever came before it: the program is where both have brought it, and the answers, at the front of its output,
-- are what the output of both has beyond the output of what came before
pub record Exchanges (before : Server) (b : List ℕ) (r : Server) (e : Exchange) : Type 0 where
  pub reached : (input : List ℕ) → Reached input before → Reached (input ++ b) r
  pub written : (input : List ℕ) → Reached input before → output_of (input ++ b) ≡ output_of input ++ take e.written r.out
  pub fits : e.written ≤ length r.out
  pub read : e.read ≡ length b
