-- Computed examples: each line of the table, each complaint in its order, what is put into text and numbers.
-- Assumes nothing.
use Rattle.std.proofs.Common.{◌≡◌, ℕ, ◌-◌, ◌^◌, List, [], ◌∷◌, ◌++◌, map, replicate, refl}
use Prim.Native.String.{String}
use Rattle.std.specs.Prelude.{Result, Ok, Err}
use Rattle.laws.specs.Tests.{choose, both, either}
use Rattle.laws.specs.Text.{bytes}
use Rattle.scan.specs.Bytes.{index_after}
use Rattle.decimal.specs.Parsing.{value_from}
use Rattle.fields.specs.Names.{pair_of, listed, list_of, place_from}
use Rattle.fields.specs.Kinds.{name_of, parse_field}
use Rattle.format.specs.Formats.{fields_in, fields_of, known_in, known}
use Rattle.script.specs.Words.{in_first, parts_from, parts_of, same_bytes, place_of}
use Rattle.script.specs.Numbers.{unsigned_of, positive, negative, integer_of}
use Rattle.script.specs.Hex as hex
use Rattle.script.specs.Writes as writes
use Rattle.script.specs.Calls as calls
use Rattle.script.specs.Calls.{call_of, text_after, numbers_after}
use Rattle.script.specs.declared.call.Event.TheVariants.{Inputs, Millisecond, Step, AtSpeed, Halted}
use Rattle.script.specs.declared.call.Look.TheVariants.{Order, Rounding, Reading, Totals, Used, Record, Image}
use Rattle.script.specs.declared.call.Write.TheVariants.{Field, Output, Cell}
use Rattle.script.specs.declared.call.Complaint.{Complaint}
use Rattle.script.specs.declared.call.Complaint.TheVariants.{NotACall, MissingOrExtraWord, NotANumber}
use Rattle.script.specs.declared.call.Complaint.TheVariants.{NumberTooLarge, NotHex, NotImageHex, UnknownName}
use Rattle.script.specs.declared.call.Call.{Call}
use Rattle.script.specs.declared.call.Call.TheVariants.{Comment, Fresh, Tell, Happens, Wait, Looks, Writes, Save, Load}

-- every definition that a line goes through
computing : Unit {0}
unfolding
    choose both either bytes index_after value_from pair_of listed list_of place_from name_of parse_field fields_in fields_of known_in known
    in_first parts_from parts_of same_bytes place_of unsigned_of positive negative integer_of hex.nibble_of hex.pair_of hex.byte_before hex.bytes_of
    hex.is_hex hex.is_none hex.is_sized hex.decoded_of hex.text_of writes.field_names writes.signed_places writes.one_of writes.is_signed
    writes.with_value writes.field_of writes.with_output writes.named_output writes.output_of writes.value_or0 writes.address_of writes.is_cell
    writes.is_integer writes.integer_before writes.are_integers writes.integers_of writes.code_of writes.field_count writes.takes_count writes.cell_of
    writes.filled writes.cell_numbers writes.named_field writes.write_of writes.numbers_of calls.form_in calls.form_of calls.word_count
    calls.on_number calls.buffer_of calls.on_buffer calls.string_with calls.string_of calls.save_of calls.load_with calls.load_of
    calls.formed calls.counted calls.is_comment calls.first_letter calls.of_letter calls.call_of calls.formed_text calls.counted_text calls.text_after calls.numbers_after
computing = tt

-- a line, and the call that must come
record Case : Type 0 where
  line : String
  call : Result Call Complaint

abbrev gives : String → Call → Case
gives s z = record { line = s; call = Ok z }

abbrev wrong : String → Complaint → Case
wrong s c = record { line = s; call = Err c }

-- a line of each letter
abbrev letters : List Case
letters =
    gives "F 47" (Fresh 47) ∷ gives "S 303051410d 64 0" (Tell 5 64 0) ∷ gives "S - 256 255" (Tell 0 256 255) ∷
    gives "I 2048" (Happens (Inputs 2048)) ∷ gives "M" (Happens Millisecond) ∷ gives "P" (Happens Step) ∷
    gives "A" (Happens AtSpeed) ∷ gives "H" (Happens Halted) ∷ gives "W 1000001" (Wait 1000001) ∷ gives "B" (Looks Order) ∷
    gives "R 4800" (Looks (Rounding 4800)) ∷ gives "Q" (Looks Reading) ∷ gives "O 0 255" (Save 0 255) ∷ gives "O 2048 0" (Save 2048 0) ∷
    gives "L 000102" (Load 3) ∷ gives "L -" (Load 0) ∷ gives "T 100" (Looks (Totals 100)) ∷
    gives "T 4294967295" (Looks (Totals 4294967295)) ∷ gives "U" (Looks Used) ∷ gives "V" (Looks Record) ∷
    gives "X" (Looks Image) ∷ gives "# 01" Comment ∷ gives "#" Comment ∷
    []

-- raw writes: fields with and without a sign, an output, cells, one of a code that there is not
abbrev raw_writes : List Case
raw_writes =
    gives "K ad 48" (Writes (Field 0 48)) ∷ gives "K pos -1" (Writes (Field 5 (2 ^ 64 - 1))) ∷
    gives "K campos +5" (Writes (Field 8 5)) ∷ gives "K recrest 7" (Writes (Field 12 7)) ∷
    gives "K rest -0" (Writes (Field 16 0)) ∷ gives "K mark 1" (Writes (Field 18 1)) ∷
    gives "K out CU 1" (Writes (Output 13 1)) ∷ gives "K c100 65 8388608 0" (Writes (Cell 0)) ∷
    gives "K c230 69 0" (Writes (Cell 130)) ∷ gives "K c101 99 1 2 3 4 5 6 7" (Writes (Cell 1)) ∷
    gives "K c102 4294967295 1" (Writes (Cell 2)) ∷
    []

-- an empty line, two spaces, a longer or an unknown letter; too few or too many words, before what they say
abbrev wrong_words : List Case
wrong_words =
    wrong "" NotACall ∷ wrong " M" NotACall ∷ wrong "m" NotACall ∷ wrong "u" NotACall ∷ wrong "v" NotACall ∷ wrong "x" NotACall ∷
    wrong "MM" NotACall ∷ wrong "Y 1 2" NotACall ∷
    wrong "M " MissingOrExtraWord ∷ wrong "F" MissingOrExtraWord ∷ wrong "F a b" MissingOrExtraWord ∷
    wrong "S 30 64" MissingOrExtraWord ∷ wrong "O 64" MissingOrExtraWord ∷ wrong "O 64 0 0" MissingOrExtraWord ∷
    wrong "L" MissingOrExtraWord ∷ wrong "L 00 01" MissingOrExtraWord ∷ wrong "T" MissingOrExtraWord ∷
    wrong "T 100 0" MissingOrExtraWord ∷ wrong "U " MissingOrExtraWord ∷ wrong "U 100" MissingOrExtraWord ∷
    wrong "V " MissingOrExtraWord ∷ wrong "V 0" MissingOrExtraWord ∷ wrong "X " MissingOrExtraWord ∷ wrong "X 1 2" MissingOrExtraWord ∷
    wrong "K ad" MissingOrExtraWord ∷ wrong "K out CU" MissingOrExtraWord ∷
    wrong "K c100 65 0" MissingOrExtraWord ∷ wrong "K c100 65" MissingOrExtraWord ∷ wrong "K c100 65 a" NotANumber ∷
    []

-- "Numbers are decimal, unsigned unless said, at most 4294967295"
abbrev wrong_numbers : List Case
wrong_numbers =
    gives "F 4294967295" (Fresh 4294967295) ∷ wrong "F 4294967296" NotANumber ∷ gives "F 00000000007" (Fresh 7) ∷
    wrong "F -1" NotANumber ∷ wrong "F " NotANumber ∷ wrong "W 1a" NotANumber ∷ wrong "T -1" NotANumber ∷ wrong "T " NotANumber ∷
    wrong "K ad +1" NotANumber ∷
    wrong "K pos --1" NotANumber ∷ wrong "K pos -4294967296" NotANumber ∷
    []

-- the first word of a string that is wrong is complained of
abbrev wrong_strings : List Case
wrong_strings =
    wrong "S 3 a b" NotHex ∷ wrong "S 3G 64 0" NotHex ∷ wrong "S 3A 64 0" NotHex ∷ wrong "S  64 0" NotHex ∷
    wrong "S 30 a 256" NotANumber ∷ wrong "S 30 64 b" NotANumber ∷ wrong "S 30 257 0" NumberTooLarge ∷
    wrong "S 30 64 256" NumberTooLarge ∷
    []

-- the same of a buffer for an image, and an image
abbrev wrong_images : List Case
wrong_images =
    wrong "O a b" NotANumber ∷ wrong "O -1 0" NotANumber ∷ wrong "O 2049 b" NotANumber ∷ wrong "O 2049 0" NumberTooLarge ∷
    wrong "O 2048 256" NumberTooLarge ∷ wrong "L 0" NotImageHex ∷ wrong "L 0A" NotImageHex ∷ wrong "L " NotImageHex ∷
    []

-- names that are none, before what follows them
abbrev wrong_names : List Case
wrong_names =
    wrong "K" UnknownName ∷ wrong "K x" UnknownName ∷ wrong "K AD 1" UnknownName ∷ wrong "K c099 60 0" UnknownName ∷
    wrong "K c231 60 0" UnknownName ∷ wrong "K c1000 60 0" UnknownName ∷ wrong "K out BS x" UnknownName ∷
    wrong "K out X x" UnknownName ∷ wrong "K out CU x" NotANumber ∷
    []

cases : List Case
cases = letters ++ raw_writes ++ wrong_words ++ wrong_numbers ++ wrong_strings ++ wrong_images ++ wrong_names

-- of each line comes its call
calls-come : map (λ (c : Case). call_of (bytes c.line)) cases ≡ map (λ (c : Case). c.call) cases
unfolding computing cases
calls-come = refl

-- the bytes of a string or an image, up to a wrong digit; nothing of another line or one that has too few words
texts :
    map (λ (s : String). text_after (bytes s) (9 ∷ 9 ∷ 9 ∷ []))
    ("S 30af 64 0" ∷ "S 30 x y" ∷ "S 30xx41 64 0" ∷ "S 303 64 0" ∷ "S - 64 0" ∷ "S 30 64" ∷ "M" ∷ "L 30af" ∷ "L 30xx" ∷ "L" ∷ "O 2 0" ∷ "T 30" ∷
    "U" ∷ "V" ∷ "X" ∷ [])
    ≡ (48 ∷ 175 ∷ 9 ∷ []) ∷ (48 ∷ 9 ∷ 9 ∷ []) ∷ (48 ∷ 9 ∷ 9 ∷ []) ∷ (9 ∷ 9 ∷ 9 ∷ []) ∷ (9 ∷ 9 ∷ 9 ∷ []) ∷ (9 ∷ 9 ∷ 9 ∷ []) ∷
    (9 ∷ 9 ∷ 9 ∷ []) ∷ (48 ∷ 175 ∷ 9 ∷ []) ∷ (48 ∷ 9 ∷ 9 ∷ []) ∷ (9 ∷ 9 ∷ 9 ∷ []) ∷ (9 ∷ 9 ∷ 9 ∷ []) ∷ (9 ∷ 9 ∷ 9 ∷ []) ∷
    (9 ∷ 9 ∷ 9 ∷ []) ∷ (9 ∷ 9 ∷ 9 ∷ []) ∷ (9 ∷ 9 ∷ 9 ∷ []) ∷ []
unfolding computing
texts = refl

-- "A string has at most 256 bytes, an image at most 2048"
longest :
    map (λ (n : ℕ). call_of (bytes "S " ++ replicate n 48 ++ bytes " 0 0")) (512 ∷ 514 ∷ [])
    ++ map (λ (n : ℕ). call_of (bytes "L " ++ replicate n 48)) (4096 ∷ 4098 ∷ [])
    ≡ Ok (Tell 256 0 0) ∷ Err NotHex ∷ Ok (Load 2048) ∷ Err NotImageHex ∷ []
unfolding computing
longest = refl

-- the numbers of a cell, seven at most, up to a word that is none; nothing of any other line
numbers :
    map (λ (s : String). numbers_after (bytes s) (replicate 7 9))
    ("K c100 65 -1 0" ∷ "K c100 65 8388608 0" ∷ "K c100 99 1 2 3 4 5 6 7 8" ∷ "K c100 65 x 1" ∷ "K c100 65" ∷ "K ad 1" ∷
    "# K c100 65 1 0" ∷ [])
    ≡ (65 ∷ (2 ^ 64 - 1) ∷ 0 ∷ 9 ∷ 9 ∷ 9 ∷ 9 ∷ []) ∷ (65 ∷ 8388608 ∷ 0 ∷ 9 ∷ 9 ∷ 9 ∷ 9 ∷ []) ∷
    (99 ∷ 1 ∷ 2 ∷ 3 ∷ 4 ∷ 5 ∷ 6 ∷ []) ∷ (65 ∷ 9 ∷ 9 ∷ 9 ∷ 9 ∷ 9 ∷ 9 ∷ []) ∷
    replicate 7 9 ∷ replicate 7 9 ∷ replicate 7 9 ∷ []
unfolding computing
numbers = refl
