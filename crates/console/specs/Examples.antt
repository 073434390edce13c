-- 01, "Bench strings and near misses": what the console writes for some inputs.
-- Assumes nothing.
use Rattle.std.specs.Prelude.{◌≡◌}
use Rattle.laws.specs.Text.{bytes}
use Rattle.console.specs.Console.{output_of}

pub record Examples : Type 0 where
  -- "Input `00QA`, `00WN,228,65,0400,000`, `00QM,228`, each with byte 13, writes exactly `00QA,+0`, `00Y`, `00QM,228,65,400,000`, each with
  -- byte 13"
  pub exchange : output_of (bytes "00QA\r00WN,228,65,0400,000\r00QM,228\r") ≡ bytes "00QA,+0\r00Y\r00QM,228,65,400,000\r"
  -- "bytes after the last 13 are dropped"
  pub dropped : output_of (bytes "00QA\r00QA") ≡ bytes "00QA,+0\r"
  -- "then a wait of 1,000": a delay of 999 ends with its last millisecond, and one of 1,000 is not over, so that the next string is not heard
  pub ended : output_of (bytes "00WN,100,65,999,000\r00PS,100\r00QA\r") ≡ bytes "00Y\r00Y\r00QA,+0\r"
  pub busy : output_of (bytes "00WN,100,65,1000,000\r00PS,100\r00QA\r") ≡ bytes "00Y\r00Y\r"
