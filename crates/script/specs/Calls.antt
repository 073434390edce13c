-- docs/SCRIPTS.md, "A script": a line as a call. Text and numbers are what the bytes of a string or an image, and a cell's numbers are put into.
-- Assumes nothing.
use Rattle.std.specs.Prelude.{ℕ, Bool, List, [], ◌∷◌, length, ◌==◌, nat_le, slice_index, slice_index_or, Option, Some, None, Result, Ok, Err}
use Prim.Native.String.{String}
use Rattle.laws.specs.Tests.{choose}
use Rattle.laws.specs.Text.{bytes}
use Rattle.script.specs.Words.{words_of}
use Rattle.script.specs.Numbers.{unsigned_of}
use Rattle.script.specs.Hex.{decoded_of, text_of}
use Rattle.script.specs.Writes.{write_of, numbers_of}
use Rattle.script.specs.declared.parse.Buffer.{Buffer}
use Rattle.script.specs.declared.call.Event.TheVariants.{Inputs, Millisecond, Step, AtSpeed, Halted}
use Rattle.script.specs.declared.call.Look.TheVariants.{Order, Rounding, Reading, Totals, Used, Record, Image}
use Rattle.script.specs.declared.call.Complaint.{Complaint}
use Rattle.script.specs.declared.call.Complaint.TheVariants.{NotACall, MissingOrExtraWord, NotANumber, NumberTooLarge, NotHex, NotImageHex}
use Rattle.script.specs.declared.call.Call.{Call}
use Rattle.script.specs.declared.call.Call.TheVariants.{Comment, Fresh, Tell, Happens, Wait, Looks, Save, Load}

-- what follows a line's letter: nothing, a number, a string with its buffer, a buffer for an image, or an image; or no line begins so
pub data Form : Type 0 where
  Alone : Call → Form
  WithNumber : (ℕ → Call) → Form
  WithString : Form
  WithBuffer : Form
  WithImage : Form
  NoForm : Form

pub record Line : Type 0 where
  pub letter : ℕ
  pub form : Form

abbrev pub letter_of : String → ℕ
letter_of s = slice_index (bytes s) 0

abbrev pub line : String → Form → Line
line s f = record { letter = letter_of s; form = f }

-- the table of lines, without `K` and `#`
abbrev pub lines : List Line
lines =
    line "F" (WithNumber Fresh) ∷
    line "S" WithString ∷
    line "I" (WithNumber (λ w. Happens (Inputs w))) ∷
    line "M" (Alone (Happens Millisecond)) ∷
    line "P" (Alone (Happens Step)) ∷
    line "A" (Alone (Happens AtSpeed)) ∷
    line "H" (Alone (Happens Halted)) ∷
    line "W" (WithNumber Wait) ∷
    line "B" (Alone (Looks Order)) ∷
    line "R" (WithNumber (λ f. Looks (Rounding f))) ∷
    line "Q" (Alone (Looks Reading)) ∷
    line "O" WithBuffer ∷
    line "L" WithImage ∷
    line "T" (WithNumber (λ c. Looks (Totals c))) ∷
    line "U" (Alone (Looks Used)) ∷
    line "V" (Alone (Looks Record)) ∷
    line "X" (Alone (Looks Image)) ∷
    []

unfoldable pub form_in : List Line → ℕ → Form
form_in [] letter = NoForm
form_in (l ∷ ls) letter = choose (letter == l.letter) l.form (form_in ls letter)

unfoldable pub form_of : ℕ → Form
form_of letter = form_in lines letter

-- how many words a line has, its letter among them
unfoldable pub word_count : Form → ℕ
word_count (Alone call) = 1
word_count (WithNumber call) = 2
word_count WithString = 4
word_count WithBuffer = 3
word_count WithImage = 2
word_count NoForm = 0

unfoldable pub on_number : (ℕ → Call) → Option ℕ → Result Call Complaint
on_number call (Some v) = Ok (call v)
on_number call None = Err NotANumber

-- "a buffer of n bytes .., each of value b": the first word that is wrong is complained of
unfoldable pub buffer_of : ℕ → Option ℕ → Option ℕ → Result Buffer Complaint
buffer_of most None fill = Err NotANumber
buffer_of most (Some size) None = Err NotANumber
buffer_of most (Some size) (Some fill) =
    choose (nat_le size most) (choose (nat_le fill 255) (Ok (record { size = size; fill = fill })) (Err NumberTooLarge)) (Err NumberTooLarge)

unfoldable pub on_buffer : (ℕ → ℕ → Call) → Result Buffer Complaint → Result Call Complaint
on_buffer call (Ok b) = Ok (call b.size b.fill)
on_buffer call (Err complaint) = Err complaint

-- "`S hex n b`": "an answer buffer of n bytes (0 to 256)"
unfoldable pub string_with : Option ℕ → Result Buffer Complaint → Result Call Complaint
string_with None b = Err NotHex
string_with (Some n) b = on_buffer (Tell n) b

unfoldable pub string_of : List (List ℕ) → Result Call Complaint
string_of words =
    string_with (decoded_of 256 (slice_index_or words 1 [])) (buffer_of 256 (unsigned_of (slice_index_or words 2 [])) (unsigned_of (slice_index_or words 3 [])))

-- "`O n b`": "a buffer of n bytes (0 to 2048)"
unfoldable pub save_of : List (List ℕ) → Result Call Complaint
save_of words = on_buffer Save (buffer_of 2048 (unsigned_of (slice_index_or words 1 [])) (unsigned_of (slice_index_or words 2 [])))

-- "`L hex`"
unfoldable pub load_with : Option ℕ → Result Call Complaint
load_with None = Err NotImageHex
load_with (Some n) = Ok (Load n)

unfoldable pub load_of : List (List ℕ) → Result Call Complaint
load_of words = load_with (decoded_of 2048 (slice_index_or words 1 []))

-- the call of a form alone, and of one with a number; of any other form that of Q, and of R
unfoldable pub alone_call : Form → Call
alone_call (Alone call) = call
alone_call (WithNumber call) = Looks Reading
alone_call WithString = Looks Reading
alone_call WithBuffer = Looks Reading
alone_call WithImage = Looks Reading
alone_call NoForm = Looks Reading

unfoldable pub number_call : Form → ℕ → Call
number_call (Alone call) v = Looks (Rounding v)
number_call (WithNumber call) v = call v
number_call WithString v = Looks (Rounding v)
number_call WithBuffer v = Looks (Rounding v)
number_call WithImage v = Looks (Rounding v)
number_call NoForm v = Looks (Rounding v)

-- the call of a line that has as many words as its form asks
unfoldable pub formed : Form → List (List ℕ) → Result Call Complaint
formed (Alone call) words = Ok call
formed (WithNumber call) words = on_number call (unsigned_of (slice_index_or words 1 []))
formed WithString words = string_of words
formed WithBuffer words = save_of words
formed WithImage words = load_of words
formed NoForm words = Err NotACall

unfoldable pub counted : Form → List (List ℕ) → Result Call Complaint
counted form words =
    choose (word_count form == 0) (Err NotACall)
    (choose (length words == word_count form) (formed form words) (Err MissingOrExtraWord))

-- "`# ..`": also without a space behind it
unfoldable pub is_comment : List ℕ → Bool
is_comment line = slice_index line 0 == 35

-- the letter that a line's first word is; 0 where it is longer or empty
unfoldable pub first_letter : List (List ℕ) → ℕ
first_letter words = choose (length (slice_index_or words 0 []) == 1) (slice_index (slice_index_or words 0 []) 0) 0

unfoldable pub of_letter : ℕ → List (List ℕ) → Result Call Complaint
of_letter letter words = choose (letter == (letter_of "K")) (write_of words) (counted (form_of letter) words)

-- the call of a line, or what is wrong with it
unfoldable pub call_of : List ℕ → Result Call Complaint
call_of line = choose (is_comment line) (Ok Comment) (of_letter (first_letter (words_of line)) (words_of line))

-- ---- text and numbers after a line

unfoldable pub formed_text : Form → List (List ℕ) → List ℕ → List ℕ
formed_text (Alone call) words text = text
formed_text (WithNumber call) words text = text
formed_text WithString words text = text_of 256 (slice_index_or words 1 []) text
formed_text WithBuffer words text = text
formed_text WithImage words text = text_of 2048 (slice_index_or words 1 []) text
formed_text NoForm words text = text

-- a line with too few or too many words leaves the text alone
unfoldable pub counted_text : Form → List (List ℕ) → List ℕ → List ℕ
counted_text form words text = choose (length words == word_count form) (formed_text form words text) text

-- the text after a line
unfoldable pub text_after : List ℕ → List ℕ → List ℕ
text_after line text = choose (is_comment line) text (counted_text (form_of (first_letter (words_of line))) (words_of line) text)

-- the numbers after a line
unfoldable pub numbers_after : List ℕ → List ℕ → List ℕ
numbers_after line numbers =
    choose (is_comment line) numbers
    (choose (first_letter (words_of line) == (letter_of "K")) (numbers_of (words_of line) numbers) numbers)
