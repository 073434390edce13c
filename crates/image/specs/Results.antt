-- What the two operations hand back, as 02's numbers and values.
-- Assumes nothing.
use Rattle.std.specs.Prelude.{ℕ, Option, Some, None, Result, Ok, Err, eqb}
use Rattle.laws.specs.Tests.{choose}
use Rattle.machine.specs.Record.{fresh}
use Rattle.machine.specs.Operations.{Made}
use Rattle.machine.specs.Operations.Made.{NotMade as not_made, Drive as drive}
use Rattle.machine.specs.Images.{not_loaded}
use Rattle.drive.specs.declared.Drive.{Drive}
use Rattle.image.specs.declared.results.Refusal.{Refusal}
use Rattle.image.specs.declared.results.Refusal.TheVariants.{Unsound, ShortBuffer, NotAnImage}
use Rattle.image.specs.declared.results.Refused.{Refused}

-- 01: "2, unsound drive"; 02: "9, image buffer too short for the image"; "10, .. bytes that the writer makes for no drive"
unfoldable pub number_of : Refusal → ℕ
number_of Unsound = 2
number_of ShortBuffer = 9
number_of NotAnImage = 10

-- the refusal of a number
unfoldable pub refusal_of : ℕ → Refusal
refusal_of k = choose (eqb k 10) NotAnImage (choose (eqb k 9) ShortBuffer Unsound)

-- an image's length, or the refusal's number
unfoldable pub written_as : Result ℕ Refusal → Result ℕ ℕ
written_as (Ok n) = Ok n
written_as (Err r) = Err (number_of r)

-- the drive read, or the refusal's number
unfoldable pub loaded_as : Result Drive Refused → Made
loaded_as (Ok d) = drive d.machine
loaded_as (Err r) = not_made (number_of r.refusal)

-- the drive read; or the refusal, and beside it a drive of an address that no sound one has, so that every operation refuses it
unfoldable pub handed : Made → Result Drive Refused
handed (drive m) = Ok (record { machine = m })
handed (not_made k) = Err (record { refusal = refusal_of k; drive = record { machine = fresh (record { 0 = 255 }) } })

-- the drive of bytes that are an image
unfoldable pub made_of : Option Drive → Made
made_of (Some d) = drive d.machine
made_of None = not_loaded
