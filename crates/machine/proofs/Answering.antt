-- What a good idle drive answers to each request of the full reading.
-- Assumes nothing.
use Prim.Native.Nat.{ℕ, ◌+◌, ◌≤◌}
use Prim.Native.String.{String}
use mathlib.Core.Path.{◌≡◌, refl, ap, ◌∙◌}
use mathlib.Core.Bool.{true, false}
use mathlib.Core.List.{List, [], ◌∷◌, map, Memᴰ}
use lib.ListN.{length, replicate}
use lib.Dec.{ltb}
use borrow.Author.Tests.{leb-true}
use Rattle.laws.specs.Tests.{choose, both}
use Rattle.laws.proofs.Tests.{both_left, choose-true, choose-false}
use Rattle.machine.specs.Record.{cell_at, idle}
use Rattle.machine.specs.Soundness.{presets_sound, state_sound}
use Rattle.machine.specs.Commands.{command_of}
use Rattle.machine.specs.Answers.{preset_text, position_text, input_text, output_text, memory_text, cam_text, fault_text, suspended_text, answer_of, answer_at}
use Rattle.machine.specs.Acting.{named, acted_at, cells_after, named_cell, machine_after}
use Rattle.machine.specs.Strings.{heard, is_start, allowed, carried_out, told}
use Rattle.machine.specs.Calls.{Call, Outcome, Seen, answered, act, apply, next, look, seen}
use Rattle.machine.specs.Calls.Call.{SendString}
use Rattle.machine.specs.Reading.{Request, requests, request_text, ask, reading}
use Rattle.machine.specs.Reading.Request.{Cell, Preset, Position, Output, Input, Cam, Fault, Suspended}
use Rattle.machine.specs.declared.Machine.{Machine}
use Rattle.machine.proofs.Invariant.{Good, good-sound}
use Rattle.machine.proofs.Addressing.{own, own_address, string, addressed_to, digits-front, told-own}
use Rattle.machine.proofs.Requests.{command_for, requests-parsed, sendable, requests-sendable}
use Rattle.machine.proofs.Members.{map_at, every-member}

-- the code and the fields of the answer to a request
unfoldable pub code_for : Request → String
code_for (Cell k) = "QM"
code_for (Preset k) = "QS"
code_for Position = "QA"
code_for (Output k) = "QO"
code_for (Input k) = "QI"
code_for Cam = "QC"
code_for Fault = "QE"
code_for Suspended = "QR"

unfoldable pub text_for : Request → Machine → List ℕ
text_for (Cell k) m = memory_text (record { 0 = 100 + k }) (cell_at m.cells (record { 0 = 100 + k }))
text_for (Preset k) m = preset_text k m.state
text_for Position m = position_text m.state
text_for (Output k) m = output_text k m.state
text_for (Input k) m = input_text k m.state
text_for Cam m = cam_text m.state.cam
text_for Fault m = fault_text m.state
text_for Suspended m = suspended_text m.state.suspended

unfoldable pub answer_to : Request → Machine → List ℕ
answer_to r m = answer_of (own_address m) (code_for r) (text_for r m)

-- asking changes nothing, with any input on or off
carried-ask : (r : Request) (m : Machine) → carried_out (allowed (command_for r) m.state) (own_address m) m ≡ heard (answer_to r m) m
unfolding command_for allowed is_start both choose carried_out answer_at machine_after named_cell named acted_at cells_after answer_to code_for text_for
carried-ask (Cell k) m = refl
carried-ask (Preset k) m = refl
carried-ask Position m = refl
carried-ask (Output k) m = refl
carried-ask (Input k) m = refl
carried-ask Cam m = refl
carried-ask Fault m = refl
carried-ask Suspended m = refl

pub own-small : (m : Machine) → Good m → own m ≤ 47
unfolding state_sound presets_sound
own-small m g = leb-true _ _ (both_left _ _ (both_left _ _ g.state))

-- a string with a buffer that is long enough
pub apply-string :
    (b buffer : List ℕ) (m : Machine) → Good m → ltb (length buffer) 64 ≡ false → apply (SendString b buffer) m ≡ answered (told b m)
unfolding apply act
apply-string b buffer m g l = choose-true _ _ _ (good-sound m g) ∙ choose-false _ _ _ l

pub ask-is : (aa : ℕ) (r : Request) → ask aa r ≡ SendString (string (addressed_to aa (request_text r))) (replicate 64 0)
unfolding ask
ask-is aa r = ap (λ (s : List ℕ). SendString s (replicate 64 0)) (digits-front aa (string (request_text r)))

pub apply-ask :
    (r : Request) (m : Machine) → Memᴰ r requests → Good m → idle m.state ≡ true →
    apply (ask (own m) r) m ≡ answered (heard (answer_to r m) m)
unfolding sendable
apply-ask r m q g i =
    let aa = own m in
    let parsed = map_at (λ (r : Request). command_of (addressed_to aa (request_text r))) command_for q (requests-parsed _ _) in
    let short = leb-true _ _ (both_left _ _ (every-member sendable q requests-sendable)) in
    ap (λ (c : Call). apply c m) (ask-is aa r)
    ∙ apply-string _ _ m g refl
    ∙ ap answered
    (told-own (request_text r) m (own-small m g) i short ∙ ap (λ c. carried_out (allowed c m.state) (own_address m) m) parsed
    ∙ carried-ask r m)

-- asking changes nothing, and is answered
pub look-ask : (r : Request) (m : Machine) → Memᴰ r requests → Good m → idle m.state ≡ true → (look (ask (own m) r) m).answer ≡ answer_to r m
unfolding look
look-ask r m q g i = ap (λ (o : Outcome). o.answer) (apply-ask r m q g i)

next-ask : (r : Request) (m : Machine) → Memᴰ r requests → Good m → idle m.state ≡ true → next (ask (own m) r) m ≡ m
unfolding next
next-ask r m q g i = ap (λ (o : Outcome). o.machine) (apply-ask r m q g i)

abbrev pub answers : List Seen → List (List ℕ)
answers l = map (λ (s : Seen). s.answer) l

answers-asks :
    (l : List Request) (m : Machine) → ((r : Request) → Memᴰ r l → Memᴰ r requests) → Good m → idle m.state ≡ true →
    answers (seen (map (ask (own m)) l) m) ≡ map (λ (r : Request). answer_to r m) l
unfolding seen
answers-asks [] m q g i = refl
answers-asks (r ∷ l) m q g i =
    let here = q r (Memᴰ.head refl) in
    rw (look-ask r m here g i, next-ask r m here g i)
    (ap (λ (x : List (List ℕ)). answer_to r m ∷ x) (answers-asks l m (λ r p. q r (Memᴰ.tail p)) g i))

pub reading-is : (m : Machine) → Good m → idle m.state ≡ true → reading m ≡ map (λ (r : Request). answer_to r m) requests
unfolding reading
reading-is m g i = answers-asks requests m (λ r p. p) g i
