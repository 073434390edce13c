-- A list of calls carried out whole: the drive after all of them, and what is seen at the front of the buffer; or a refusal, the drive as it came and
-- the buffer untouched.
-- Assumes nothing.
use Rattle.std.specs.Prelude.{ℕ, List, length, Result, Ok, Err}
use Rattle.laws.specs.Tests.{choose}
use Rattle.machine.specs.Soundness.{sound}
use Rattle.machine.specs.Calls.{after}
use Rattle.machine.specs.Operations.{filled}
use Rattle.machine.specs.declared.Machine.{Machine}
use Rattle.encoding.specs.Refusing.{number_of, refusal_of}
use Rattle.encoding.specs.declared.Refusal.{Refusal}
use Rattle.encoding.specs.declared.Refusal.TheVariants.{Unsound}
use Rattle.lists.specs.Listing.{words_of, calls_of, bytes_of}

-- a refusal or 0, how many bytes are seen, the whole buffer afterwards, and the next drive
pub record Performance : Type 0 where
  pub refusal : ℕ
  pub count : ℕ
  pub buffer : List ℕ
  pub machine : Machine

abbrev pub refused_whole : Refusal → List ℕ → Machine → Performance
refused_whole r buffer m = record { refusal = number_of r; count = 0; buffer = buffer; machine = m }

abbrev pub carried_out : List ℕ → List ℕ → Machine → Performance
carried_out list buffer m =
    record {
      refusal = 0;
      count = length (bytes_of (words_of list) m);
      buffer = filled (bytes_of (words_of list) m) buffer;
      machine = after (calls_of (words_of list) m) m;
    }

-- what is wrong with a list, or carrying it out
unfoldable pub checked_whole : Result (Unit {0}) Refusal → List ℕ → List ℕ → Machine → Performance
checked_whole (Ok u) list buffer m = carried_out list buffer m
checked_whole (Err r) list buffer m = refused_whole r buffer m

-- 01: "2, drive unsound", before all else; then what is wrong with the list
unfoldable pub performed : List ℕ → List ℕ → Machine → Performance
performed list buffer m =
    choose (sound m) (checked_whole (refusal_of (length buffer) list) list buffer m) (refused_whole Unsound buffer m)

-- what the program hands back, with the buffer and the drive as they are then
unfoldable pub performed_as : Result ℕ Refusal → List ℕ → Machine → Performance
performed_as (Ok n) buffer m = record { refusal = 0; count = n; buffer = buffer; machine = m }
performed_as (Err r) buffer m = refused_whole r buffer m
