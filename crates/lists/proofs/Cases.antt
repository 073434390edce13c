-- Worked cases, by computation: the words of some lists, the calls that they stand for, and what is seen of them.
-- Assumes nothing.
use mathlib.Core.Path.{◌≡◌, refl}
use mathlib.Core.List.{[], ◌∷◌}
use Rattle.laws.specs.Tests.{choose}
use Rattle.machine.specs.Calls.Call.{SendString, SetInputs, Millisecond as millisecond, Step as step, AtSpeed as at_speed, Halted as halted, Wait as wait}
use Rattle.machine.specs.Record.{fresh}
use Rattle.machine.specs.declared.Machine.{Machine}
use Rattle.machine.proofs.Computing.{computing}
use Rattle.travel.specs.Travel.{alike, goes_on, given_from, travelled, step_calls}
use Rattle.encoding.specs.Numbers.{pair_at, number_at, number_bytes}
use Rattle.encoding.specs.Words.{head_with, head_of, size_of}
use Rattle.seen.specs.Bytes.{bits_of, signal_bits, parts_of, parts_bytes, shown_bytes, end_number, ending_bytes, call_bytes}
use Rattle.lists.specs.Listing.{string_of, word_of, words_from, words_of, word_calls, word_next, word_seen, calls_of, bytes_of}
use Rattle.lists.specs.Listing.Word.{Called, Order, Travel}

reading : Unit {0}
unfolding words_of words_from word_of string_of head_of head_with size_of pair_at number_at choose
reading = tt

-- all nine words: a string of two bytes with a buffer of three, inputs, M, P, A, H, a wait, B and a travel
nine_words :
    words_of
    (83 ∷ 3 ∷ 2 ∷ 0 ∷ 81 ∷ 83 ∷ 73 ∷ 1 ∷ 2 ∷ 77 ∷ 80 ∷ 65 ∷ 72 ∷ 87 ∷ 3 ∷ 1 ∷ 0 ∷ 0 ∷ 66 ∷ 71 ∷ 5 ∷ 0 ∷ 1 ∷ 0 ∷ [])
    ≡ Called (SendString (81 ∷ 83 ∷ []) (0 ∷ 0 ∷ 0 ∷ [])) ∷ Called (SetInputs 513) ∷ Called millisecond ∷ Called step ∷ Called at_speed ∷ Called halted
    ∷ Called (wait 259) ∷ Order ∷ Travel 65541 ∷ []
unfolding reading
nine_words = refl

-- a string's text is no word: M, P and H in it are passed over
text-no-word : words_of (77 ∷ 83 ∷ 0 ∷ 3 ∷ 0 ∷ 77 ∷ 80 ∷ 72 ∷ 80 ∷ []) ≡ Called millisecond ∷ Called (SendString (77 ∷ 80 ∷ 72 ∷ []) []) ∷ Called step ∷ []
unfolding reading
text-no-word = refl

no_words : words_of [] ≡ []
unfolding reading
no_words = refl

-- ---- on a fresh drive of address 00

abbrev new : Machine
new = fresh (record { 0 = 0 })

carrying : Unit {0}
unfolding computing reading alike goes_on given_from travelled step_calls word_calls word_next word_seen calls_of bytes_of call_bytes shown_bytes parts_bytes parts_of signal_bits bits_of number_bytes ending_bytes end_number
carrying = tt

-- M and B are one call; of the order is seen a stand with IN 1, and no output
calls_seen : calls_of (words_of (77 ∷ 66 ∷ [])) new ≡ millisecond ∷ []
unfolding carrying
calls_seen = refl

bytes-seen : bytes_of (words_of (77 ∷ 66 ∷ [])) new ≡ 0 ∷ 0 ∷ 0 ∷ 1 ∷ 0 ∷ 0 ∷ 0 ∷ 0 ∷ 0 ∷ 0 ∷ 0 ∷ 0 ∷ 0 ∷ 0 ∷ 0 ∷ 0 ∷ 0 ∷ 0 ∷ []
unfolding carrying
bytes-seen = refl

-- refused each as it would be alone: a string without a buffer, an inputs word above 2,047, a step, at-speed and halted with no run, a wait of nothing; then a travel
-- of no step
refusals-seen :
    bytes_of (words_of (83 ∷ 0 ∷ 0 ∷ 0 ∷ 73 ∷ 0 ∷ 8 ∷ 80 ∷ 65 ∷ 72 ∷ 87 ∷ 0 ∷ 0 ∷ 0 ∷ 0 ∷ 71 ∷ 9 ∷ 0 ∷ 0 ∷ 0 ∷ [])) new
    ≡ 3 ∷ 0 ∷ 4 ∷ 5 ∷ 6 ∷ 6 ∷ 8 ∷ 0 ∷ 0 ∷ 0 ∷ 0 ∷ 0 ∷ 0 ∷ 0 ∷ 0 ∷ 0 ∷ 0 ∷ []
unfolding carrying
refusals-seen = refl
