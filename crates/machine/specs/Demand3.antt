-- Demand 3, the customer's strongest, as one statement over lists of calls.
-- Assumes nothing.
use Rattle.std.specs.Prelude.{ℕ, ◌≤◌, ◌<◌, ◌≡◌, true, ◌↔◌, ◌≢◌, List, [], ◌∷◌, map}
use Rattle.laws.specs.Tables.{every}
use Rattle.machine.specs.Record.{fresh, idle}
use Rattle.machine.specs.Calls.{Call, proper, after, seen}
use Rattle.machine.specs.Operations.Made.{Drive}
use Rattle.machine.specs.Images.{loaded_of}
use Rattle.machine.specs.Reading.{reading, sent_back}
use Rattle.machine.specs.declared.Machine.{Machine}

-- how a drive begins: "made fresh", with an address of 0 to 47; or read from an image: 02, Slip 1, "a loaded one counts as fresh"
pub data Begun : Machine → Type 0 where
  made : (address : ℕ) → address ≤ 47 → Begun (fresh (record { 0 = address }))
  loaded : (image : List ℕ) (m : Machine) → loaded_of image ≡ Drive m → Begun m

-- "Two drives are each made fresh, and each is put through a list of its own .. refused calls included. Whatever addresses and whatever lists these
-- are, if both drives are idle afterwards"
pub record Reached (m : Machine) : Type 0 where
  pub start : Machine
  pub begun : Begun start
  pub calls : List Call
  pub bytes : every proper calls ≡ true
  pub made : after calls start ≡ m
  pub rests : idle m.state ≡ true

-- "they answer, step and set outputs alike for every further list of these calls given to both"
abbrev pub Alike : Machine → Machine → Type 0
Alike m n = (zs : List Call) → every proper zs ≡ true → seen zs m ≡ seen zs n

-- cells by their place, each with the buffer that comes with it: "in any order and as often as one likes"
pub data Places : List (ℕ × List ℕ) → Type 0 where
  none : Places []
  more : {k : ℕ} {b : List ℕ} {ws : List (ℕ × List ℕ)} → k < 131 → Places ws → Places ((k, b) ∷ ws)

pub record Demand3 : Type 0 where
  -- ".. exactly when they give the same bytes to the 165 requests of the full reading"
  pub exactly : (m n : Machine) → Reached m → Reached n → (reading m ≡ reading n) ↔ Alike m n
  -- "unequal readings leave at least one" list that tells the two apart
  pub apart :
      (m n : Machine) → Reached m → Reached n → reading m ≢ reading n →
      (zs : List Call) × ((every proper zs ≡ true) × (seen zs m ≢ seen zs n))
  -- "Whichever of its 131 cell answers are sent straight back to it ..: it then does in every further list what it would have done without them"
  pub returned :
      (m : Machine) → Reached m → (ws : List (ℕ × List ℕ)) → Places ws → Alike (after (map (sent_back m) ws) m) m
