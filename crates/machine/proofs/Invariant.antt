-- The invariant: whatever calls a drive gets, a fresh one stays sound.
-- Assumes nothing.
use Prim.Native.Nat.{ℕ, ◌+◌, ◌≤◌}
use mathlib.Core.Path.{◌≡◌, refl, ap, ◌∙◌, subst}
use mathlib.Core.Bool.{true}
use mathlib.Core.List.{List, [], ◌∷◌}
use mathlib.Core.Logic.{◌≢◌}
use lib.Dec.{ltb}
use lib.ListN.{length, replicate, length-append}
use borrow.Author.Tests.{le-leb, eqb-true, not-true}
use Rattle.laws.specs.Tests.{choose, both, either}
use Rattle.laws.specs.Tables.{every}
use Rattle.laws.proofs.Tests.{both_left, both_right, both_true, choose-by}
use Rattle.fields.specs.Kinds.{valid}
use Rattle.fields.specs.Rows.{all_valid}
use Rattle.instruction.specs.Codes.{code_of}
use Rattle.format.specs.Formats.{fields_of, fields_in}
use Rattle.instruction.specs.Numbers.{numbers_with}
use Rattle.instruction.specs.Soundness.{canonical, cell_sound}
use Rattle.machine.specs.Record.{null_cell, fresh, idle, moving, at_rest}
use Rattle.machine.specs.Soundness.{presets_sound, position_sound, cam_sound, fault_sound, suspended_sound, is_nothing, is_waiting, resting_sound, running_sound, state_sound, sound}
use Rattle.machine.specs.Reports.{takes_at_speed, takes_halted}
use Rattle.machine.specs.Calls.{Call, Outcome, refused, act, apply, next, after}
use Rattle.machine.specs.Calls.Call.{SendString, SetInputs, Millisecond, Step, AtSpeed, Halted, Wait}
use Rattle.machine.specs.Images.{fresh_with}
use Rattle.machine.specs.declared.Remaining.{Remaining}
use Rattle.machine.specs.declared.Remaining.TheVariants.{Nothing, Counted, Timed}
use Rattle.machine.specs.declared.Phase.{Phase}
use Rattle.machine.specs.declared.Phase.TheVariants.{Waiting, Delay, Run, Braking, Slowing, EmergencySlowing, BackOff}
use Rattle.machine.specs.declared.Machine.{Machine}
use Rattle.machine.proofs.Tests.{clash, second, third}
use Rattle.machine.proofs.Parts.{parts-state, state-parts, idle-resting, Whole, state-whole}
use Rattle.machine.proofs.Milliseconds.{millisecond-sound, wait-sound}
use Rattle.machine.proofs.Stepping.{step-sound}
use Rattle.machine.proofs.Inputs.{word_sound}
use Rattle.machine.proofs.Reports.{speed-sound, halted-sound}
use Rattle.machine.proofs.Hearing.{told-sound}
use Rattle.machine.proofs.Waits.{wait-least}
use Rattle.machine.proofs.Images.{filled-state, memory, memory-sound, Restores, loaded-restores}
use Rattle.machine.specs.Invariant.{Kept, Invariant}

-- sound, with lists of their full lengths
pub record Good (m : Machine) : Type 0 where
  pub cells : every cell_sound m.cells ≡ true
  pub count : length m.cells ≡ 131
  pub inputs : length m.state.inputs ≡ 11
  pub outputs : length m.state.outputs ≡ 14
  pub state : state_sound m.cells m.state ≡ true

pub good-sound : (m : Machine) → Good m → sound m ≡ true
unfolding sound
good-sound m g = both_true g.cells g.state

good-whole : (m : Machine) → Good m → Whole m
good-whole m g =
    record {
      memory = record { sound = g.cells; count = g.count };
      parts = state-parts m.cells m.state g.inputs g.outputs g.state;
    }

whole-good : (m : Machine) → Whole m → Good m
whole-good m w =
    record {
      cells = w.memory.sound;
      count = w.memory.count;
      inputs = w.parts.inputs;
      outputs = w.parts.outputs;
      state = parts-state w.parts;
    }

-- 02: "a loaded one counts as fresh": it is sound
pub restored-good : (s : List ℕ) (m : Machine) → Restores s m → Good m
unfolding fresh_with
restored-good s m r =
    subst Good r.filled
    (record {
      cells = memory-sound r.cells r.cells_sound;
      count = length-append r.cells (replicate 3 null_cell) ∙ ap (λ (k : ℕ). k + 3) r.count;
      inputs = refl;
      outputs = refl;
      state = filled-state r.presets (memory r.cells) r.presets_sound;
    })

-- 01: "A fresh drive takes its address (0 to 47)"
pub good-fresh : (a : ℕ) → a ≤ 47 → Good (fresh (record { 0 = a }))
unfolding fresh every cell_sound all_valid fields_of fields_in code_of numbers_with canonical valid both either choose
good-fresh a h =
    record {
      cells = refl;
      count = refl;
      inputs = refl;
      outputs = refl;
      state = unfold state_sound presets_sound position_sound cam_sound fault_sound suspended_sound running_sound resting_sound is_nothing in
          both_true (both_true (le-leb a 47 h) refl) refl;
    }

-- ---- calls

abbrev Handed : Outcome → Type 0
Handed o = Whole o.machine

act-sound : (c : Call) (m : Machine) → Whole m → Handed (act c m)
unfolding act
act-sound (SendString b buffer) m w = choose-by Handed (ltb (length buffer) 64) (λ t. w) (λ t. told-sound b m w)
act-sound (SetInputs k) m w = choose-by Handed (ltb 2047 k) (λ t. w) (λ t. state-whole m w (word_sound w.memory k w.parts))
act-sound Millisecond m w = state-whole m w (millisecond-sound w.memory w.parts)
act-sound Step m w = choose-by Handed (moving m.state) (λ t. state-whole m w (step-sound w.memory w.parts t)) (λ t. w)
act-sound AtSpeed m w =
    choose-by Handed (takes_at_speed m.cells m.state) (λ t. state-whole m w (speed-sound w.parts t)) (λ t. w)
act-sound Halted m w = choose-by Handed (takes_halted m.state) (λ t. state-whole m w (halted-sound w.memory w.parts)) (λ t. w)
act-sound (Wait n) m w = choose-by Handed _ (λ t. state-whole m w (wait-sound w.memory n w.parts)) (λ t. w)

pub good-next : (c : Call) (m : Machine) → Good m → Good (next c m)
unfolding next apply
good-next c m g = whole-good _ (choose-by Handed (sound m) (λ t. act-sound c m (good-whole m g)) (λ t. good-whole m g))

pub good-after : (cs : List Call) (m : Machine) → Good m → Good (after cs m)
unfolding after
good-after [] m g = g
good-after (c ∷ cs) m g = good-after cs (next c m) (good-next c m g)

-- a call of a sound drive leaves a sound one
pub sound-next :
    (c : Call) (m : Machine) → length m.cells ≡ 131 → length m.state.inputs ≡ 11 → length m.state.outputs ≡ 14 →
    sound m ≡ true → sound (next c m) ≡ true
unfolding sound
sound-next c m n i o t =
    good-sound (next c m)
    (good-next c m (record { cells = both_left _ _ t; count = n; inputs = i; outputs = o; state = both_right _ _ t }))

-- ---- refusals

-- what is refused hands back its number, and the drive as it came
abbrev Same : Machine → Outcome → Type 0
Same m o = o.refusal ≢ 0 → o ≡ refused o.refusal m

act-same : (c : Call) (m : Machine) → Same m (act c m)
unfolding act
act-same (SendString b buffer) m = choose-by (Same m) (ltb (length buffer) 64) (λ t n. refl) (λ t n. absurd (n refl))
act-same (SetInputs k) m = choose-by (Same m) (ltb 2047 k) (λ t n. refl) (λ t n. absurd (n refl))
act-same Millisecond m = λ n. absurd (n refl)
act-same Step m = choose-by (Same m) (moving m.state) (λ t n. absurd (n refl)) (λ t n. refl)
act-same AtSpeed m = choose-by (Same m) (takes_at_speed m.cells m.state) (λ t n. absurd (n refl)) (λ t n. refl)
act-same Halted m = choose-by (Same m) (takes_halted m.state) (λ t n. absurd (n refl)) (λ t n. refl)
act-same (Wait n) m = choose-by (Same m) _ (λ t k. absurd (k refl)) (λ t k. refl)

-- 01: "Every refusal hands back its number, the drive as it came, and untouched buffers"
pub refused-whole : (c : Call) (m : Machine) → (apply c m).refusal ≢ 0 → apply c m ≡ refused (apply c m).refusal m
unfolding apply
refused-whole c m = choose-by (Same m) (sound m) (λ t. act-same c m) (λ t n. refl)

-- ---- idle

waiting-is : (p : Phase) → is_waiting p ≡ true → p ≡ Waiting
waiting-is Waiting t = refl
waiting-is Delay t = clash t
waiting-is Run t = clash t
waiting-is Braking t = clash t
waiting-is Slowing t = clash t
waiting-is EmergencySlowing t = clash t
waiting-is BackOff t = clash t

pub nothing_is : (r : Remaining) → is_nothing r ≡ true → r ≡ Nothing
unfolding is_nothing
nothing_is Nothing t = refl
nothing_is (Counted n) t = clash t
nothing_is (Timed n) t = clash t

-- 01: "Idle, these five are zero"
pub idle-rests : (m : Machine) → Good m → idle m.state ≡ true → m.state.running ≡ at_rest
unfolding idle resting_sound
idle-rests m g t =
    let u = idle-resting (good-whole m g).parts t in
    let cell = eqb-true m.state.running.cell.0 0 t in
    let phase = waiting-is m.state.running.phase (both_left _ _ u) in
    let remaining = nothing_is m.state.running.remaining (second _ _ _ u) in
    let loops = eqb-true m.state.running.loops 0 (third _ _ _ _ u) in
    let speed = not-true m.state.running.at_speed (both_right _ _ (both_right _ _ (both_right _ _ u))) in
    λ i. record { cell = record { 0 = cell i }; phase = phase i; remaining = remaining i; loops = loops i; at_speed = speed i }

-- ---- the statement

pub good-kept : (m : Machine) → Good m → Kept m
good-kept m g = record { cells = g.count; inputs = g.inputs; outputs = g.outputs; sound = good-sound m g }

pub kept-good : (m : Machine) → Kept m → Good m
unfolding sound
kept-good m k =
    record {
      cells = both_left _ _ k.sound;
      count = k.cells;
      inputs = k.inputs;
      outputs = k.outputs;
      state = both_right _ _ k.sound;
    }

pub invariant : Invariant
invariant =
    record {
      begins = λ a h. good-kept _ (good-fresh a h);
      loads = λ s m e. good-kept m (restored-good s m (loaded-restores s m e));
      goes = λ c m k. good-kept _ (good-next c m (kept-good m k));
      refuses = λ c m n. ap (λ (o : Outcome). o.machine) (refused-whole c m n);
      rests = λ m k. idle-rests m (kept-good m k);
      waits = wait-least;
    }
