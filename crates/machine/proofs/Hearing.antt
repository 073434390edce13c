-- A string keeps a drive sound.
-- Assumes nothing.
use Prim.Native.Nat.{ℕ}
use mathlib.Core.Path.{◌≡◌}
use mathlib.Core.Bool.{Bool, true, false}
use mathlib.Core.List.{List}
use lib.Dec.{ltb}
use lib.ListN.{length}
use borrow.Author.Tests.{le-leb}
use Rattle.laws.proofs.Tests.{both_left, both_right, both_true, choose-by}
use Rattle.machine.specs.Soundness.{presets_sound}
use Rattle.machine.specs.Milliseconds.{present}
use Rattle.machine.specs.Stopping.{free_run_stop, emergency_stop}
use Rattle.machine.specs.Commands.{code_in, command_of}
use Rattle.machine.specs.Acting.{preset_set, named, acted_at, cells_after, named_cell, machine_after}
use Rattle.machine.specs.Strings.{Heard, body_of, header_of, free, to_every, admitted, judged, allowed, carried_out, unanswered, told_in, told_by, told}
use Rattle.machine.specs.declared.Presets.{Presets}
use Rattle.machine.specs.declared.Machine.{Machine}
use Rattle.machine.specs.declared.State.{State}
use Rattle.machine.specs.declared.commands.Header.{Header}
use Rattle.machine.specs.declared.commands.PresetValue.{PresetValue}
use Rattle.machine.specs.declared.commands.PresetValue.TheVariants as preset
use Rattle.machine.specs.declared.commands.Command.{Command}
use Rattle.machine.specs.declared.commands.Command.TheVariants.{Store, SetPreset, Start, EmergencyStop, FreeRunStop, SetPosition, SetOutput, SetCam, AskPosition, AskPreset, AskInput, AskOutput, AskCell, AskCam, AskFault, AskSuspended, Wrong}
use Rattle.machine.proofs.Tests.{either_first, second}
use Rattle.machine.proofs.Parts.{presets-sound, position-sound, cam-sound, Whole, state-whole}
use Rattle.machine.proofs.Going.{started-sound}
use Rattle.machine.proofs.Taking.{output-sound}
use Rattle.machine.proofs.Stopping.{stop-sound, emergency-sound}
use Rattle.machine.proofs.Storing.{stored-sound}
use Rattle.machine.proofs.Ranges.{Within, Fine, command-fine}

-- 01: "AD address" (0 to 47); "IN 0 to 3"
preset-sound : (p : Presets) (v : PresetValue) → presets_sound p ≡ true → Within v → presets_sound (preset_set p v) ≡ true
unfolding presets_sound preset_set Within
preset-sound p (preset.Address a) t w = both_true (le-leb a.0 47 w) (both_right _ _ t)
preset-sound p (preset.Current v) t w = both_true (both_left _ _ t) (le-leb v 3 w)
preset-sound p (preset.Resolution r) t w = t
preset-sound p (preset.Interlock on) t w = t
preset-sound p (preset.Absolute on) t w = t

module _ (m : Machine) (w : Whole m) where
  -- 01: "(7) carried out"
  after-sound : (h : Header) (k : Command) → Fine h.code k → free m.state h ≡ true → Whole (machine_after k m)
  unfolding machine_after named_cell named acted_at cells_after Fine free emergency_stop free_run_stop present
  after-sound h (Store a c) f t = stored-sound m w a c f.0 f.1.0 (either_first _ _ t f.1.1)
  after-sound h (SetPreset v) f t = state-whole m w (presets-sound w.parts _ (preset-sound _ v w.parts.presets f))
  after-sound h (Start a) f t = state-whole m w (started-sound w.parts a f)
  after-sound h EmergencyStop f t = state-whole m w (emergency-sound w.memory w.parts)
  after-sound h FreeRunStop f t = state-whole m w (stop-sound w.memory w.parts)
  after-sound h (SetPosition b) f t = state-whole m w (position-sound w.parts _ f)
  after-sound h (SetOutput o v) f t = state-whole m w (output-sound w.parts o v)
  after-sound h (SetCam v b) f t = state-whole m w (cam-sound w.parts _ f)
  after-sound h AskPosition f t = w
  after-sound h (AskPreset k) f t = w
  after-sound h (AskInput k) f t = w
  after-sound h (AskOutput k) f t = w
  after-sound h (AskCell a) f t = w
  after-sound h AskCam f t = w
  after-sound h AskFault f t = w
  after-sound h AskSuspended f t = w
  after-sound h Wrong f t = w

-- what holds of a command and of N holds of what is allowed
pub allowed-by : (P : Command → Type 0) (k : Command) (s : State) → P k → P Wrong → P (allowed k s)
unfolding allowed
allowed-by P k s p w = choose-by P _ (λ t. w) (λ t. p)

-- 01: "(5) .. wrong fields or range: `AAN`"
judged-fine : (b : List ℕ) → Fine (header_of (body_of b)).code (judged b (body_of b))
unfolding judged command_of header_of Fine
judged-fine b = choose-by (Fine (code_in (body_of b))) (ltb 64 (length b)) (λ u. tt) (λ u. command-fine _ (body_of b))

-- "Address 99 is never answered."
unanswered-sound : (b : Bool) (h : Heard) → Whole h.machine → Whole (unanswered b h).machine
unfolding unanswered
unanswered-sound true h w = w
unanswered-sound false h w = w

pub told-in-sound : (h : Header) (k : Command) (m : Machine) → Fine h.code k → Whole m → Whole (told_in h k m).machine
unfolding told_in admitted carried_out Fine
told-in-sound h k m f w =
    choose-by (λ (x : Heard). Whole x.machine) _
    (λ t. unanswered-sound (to_every h) _
    (after-sound m w h (allowed k m.state) (allowed-by (Fine h.code) k m.state f tt) (second _ _ _ t)))
    (λ t. w)

pub told-by-sound : (k : Command) (b : List ℕ) (m : Machine) → Fine (header_of (body_of b)).code k → Whole m → Whole (told_by k b m).machine
unfolding told_by
told-by-sound k b m f w =
    choose-by (λ (x : Heard). Whole x.machine) _ (λ t. told-in-sound (header_of (body_of b)) k m f w) (λ t. w)

pub told-sound : (b : List ℕ) (m : Machine) → Whole m → Whole (told b m).machine
unfolding told
told-sound b m w = told-by-sound (judged b (body_of b)) b m (judged-fine b) w
