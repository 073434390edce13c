-- A turn of the loop that gives the steps of a run: the step only moves, or it is the last.
-- Assumes nothing.
use Prim.Native.Nat.{ℕ, ◌+◌, ◌<◌, ◌≤◌}
use native.Mathlib.Omega.{arith}
use mathlib.Core.Path.{◌≡◌, refl, sym, subst, ◌∙◌}
use mathlib.Core.Bool.{Bool, true, false, not, ◌||◌}
use mathlib.Core.List.{List}
use Rattle.laws.specs.Tests.{either}
use Rattle.laws.proofs.Joins.{or_as}
use Rattle.units.specs.Position.{stepped_of}
use Rattle.units.specs.declared.position.Position.{Position}
use Rattle.instruction.specs.Runs.{profile_of}
use Rattle.instruction.specs.declared.Cell.{Cell}
use Rattle.instruction.specs.declared.run.Profile.{Profile}
use Rattle.machine.specs.Record.{moving}
use Rattle.machine.specs.Milliseconds.{present}
use Rattle.machine.specs.Stepping.{backward_in, runs_backward, step_at, step}
use Rattle.machine.specs.Invariant.{Kept}
use Rattle.machine.specs.declared.Remaining.{Remaining}
use Rattle.machine.specs.declared.State.{State}
use Rattle.travel.specs.declared.Travelled.{Travelled}
use Rattle.travel.specs.Plain.{meets, is_last, lessened, placed}
use Rattle.travel.specs.Travel.{Travels}
use Rattle.travel.proofs.Moves.{onward, goes_on_lem, rests, plain_step, last_step}
use Rattle.travel.proofs.Runs.{drive, Going, going_start, going_step, handed-over, handed-spent}

-- what is handed back, whatever the memory with the present cell
abbrev pub Handed : State → Cell → ℕ → Travelled → Type 0
Handed s c limit r = (cells : List Cell) → Kept (drive cells s) → present cells s ≡ c → Travels limit (drive cells s) r

-- after n steps that only moved, at d
pub record Turning (s : State) (c : Cell) (limit : ℕ) (d : State) (n : ℕ) : Type 0 where
  pub within : n ≤ limit
  pub fits : limit < 4294967296
  pub going : (cells : List Cell) → Kept (drive cells s) → present cells s ≡ c → Going cells limit s d n

-- before the first, at the position and the rest that the state has
pub turning-start : (s : State) (c : Cell) (limit : ℕ) → limit < 4294967296 → Turning s c limit (placed s s.position s.running.remaining) 0
unfolding placed
turning-start s c limit f = record { within = omega arith; fits = f; going = λ cells k e. going_start limit k }

-- no run is under way: none is given
pub none-handed : (s : State) (c : Cell) (limit : ℕ) → moving s ≡ false → Handed s c limit (record { given = 0; state = s })
none-handed s c limit t cells k e = handed-over (going_start limit k) (rests s s t)

-- the limit is given
pub spent-handed :
    {s : State} {c : Cell} {limit : ℕ} {d r : State} {n : ℕ} → Turning s c limit d n → limit ≤ n → r ≡ d →
    Handed s c limit (record { given = limit; state = r })
spent-handed {s} {c} {limit} {d} {r} {n} w h e cells k q =
    let z : n ≡ limit = omega (arith, w.within, h) in
    let t : Travels limit (drive cells s) (record { given = n; state = r }) = rw e (handed-spent (w.going cells k q) h) in
    subst (λ (i : ℕ). Travels limit (drive cells s) (record { given = i; state = r })) z t

-- ---- a turn

-- the step that a turn looks at, from p with r left: where it leads, and whether it is the last
pub record Seen (s : State) (c : Cell) (p : Position) (r : Remaining) (to : Position) (last : Bool) : Type 0 where
  pub leads : to ≡ onward (placed s p r) c
  pub ends : last ≡ either (meets s.cam to) (is_last r)

pub looked :
    (s : State) (c : Cell) (p : Position) (r : Remaining) {f : Profile} {back : Bool} {to : Position} {m l : Bool} →
    f ≡ profile_of c.instruction → back ≡ backward_in s.running.phase f r → to ≡ stepped_of p (not back) →
    m ≡ meets s.cam to → l ≡ is_last r → Seen s c p r to (m || l)
unfolding runs_backward placed
looked s c p r a b t x y = record { leads = rw (b, a) at t; ends = or_as x y }

module _
    {s : State} {c : Cell} {limit : ℕ} {p : Position} {r : Remaining} {n : ℕ} (w : Turning s c limit (placed s p r) n) (t : moving s ≡ true)
    (h : n < limit) {to : Position} {last : Bool} (v : Seen s c p r to last)
  where
    tested : last ≡ either (meets s.cam (onward (placed s p r) c)) (is_last r)
    tested = rw v.leads at v.ends

    stepped : (cells : List Cell) → Kept (drive cells s) → present cells s ≡ c → Going cells limit s (step_at (placed s p r) c) (n + 1)
    unfolding step present placed
    stepped cells k e = rw e at (going_step (w.going cells k e) h (goes_on_lem s p r t))

    pub plain_turn : {less : Remaining} → less ≡ lessened r → last ≡ false → Turning s c limit (placed s to less) (n + 1)
    unfolding placed
    plain_turn {less} q u =
        let e : step_at (placed s p r) c ≡ placed s to less =
        plain_step (placed s p r) c (sym tested ∙ u) ∙ (λ i. placed s (sym v.leads i) (sym q i)) in
        record { within = omega arith; fits = w.fits; going = λ cells k g. rw e at (stepped cells k g) }

    pub last_turn : {here next : State} → here ≡ placed s p r → next ≡ step_at here c → last ≡ true → Handed s c limit (record { given = n + 1; state = next })
    unfolding placed
    last_turn a b u cells k g =
        rw (b, a) (handed-over (stepped cells k g) (last_step s (placed s p r) c refl k.outputs (sym tested ∙ u)))
