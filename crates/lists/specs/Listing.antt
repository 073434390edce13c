-- The words of a list: the calls that they stand for, the drive after each, and what is seen of it.
-- Assumes nothing.
use Rattle.std.specs.Prelude.{ℕ, zero, suc, ◌-◌, List, [], ◌∷◌, ◌++◌, take, drop, replicate}
use Rattle.machine.specs.Calls.{Call, look, after, shown}
use Rattle.machine.specs.Calls.Call.{SendString, SetInputs, Millisecond as millisecond, Step as step, AtSpeed as at_speed, Halted as halted, Wait as wait}
use Rattle.machine.specs.declared.Machine.{Machine}
use Rattle.travel.specs.Travel.{step_calls, travelled}
use Rattle.encoding.specs.Numbers.{number_bytes}
use Rattle.encoding.specs.Words.{head_of, size_of}
use Rattle.encoding.specs.declared.Head.{Head}
use Rattle.encoding.specs.declared.Head.TheVariants as head
use Rattle.seen.specs.Bytes.{shown_bytes, call_bytes}

-- a word: a call of 01's lists, the order that is asked for, or steps of one run; a byte that begins no word is nothing
pub data Word : Type 0 where
  Nothing : Word
  Called : Call → Word
  Order : Word
  Travel : ℕ → Word

-- a string's own answer buffer has the length that is given, and zeros in it
unfoldable pub string_of : ℕ → ℕ → List ℕ → Word
string_of room length bytes = Called (SendString (take length (drop 4 bytes)) (replicate room 0))

-- the words that need no more of a drive than its state and the cells that it is at
unfoldable pub small_word : Head → Word
small_word head.NoWord = Nothing
small_word (head.Text room length) = Nothing
small_word (head.Inputs w) = Called (SetInputs w)
small_word head.Millisecond = Called millisecond
small_word head.Step = Called step
small_word head.AtSpeed = Called at_speed
small_word head.Halted = Called halted
small_word (head.Wait n) = Nothing
small_word head.Order = Order
small_word (head.Travel n) = Travel n

-- the words that need the whole of it
unfoldable pub whole_word : Head → List ℕ → Word
whole_word head.NoWord l = Nothing
whole_word (head.Text room length) l = string_of room length l
whole_word (head.Inputs w) l = Nothing
whole_word head.Millisecond l = Nothing
whole_word head.Step l = Nothing
whole_word head.AtSpeed l = Nothing
whole_word head.Halted l = Nothing
whole_word (head.Wait n) l = Called (wait n)
whole_word head.Order l = Nothing
whole_word (head.Travel n) l = Nothing

-- the word at the front of a list, which begins so
unfoldable pub word_of : Head → List ℕ → Word
word_of head.NoWord l = Nothing
word_of (head.Text room length) l = string_of room length l
word_of (head.Inputs w) l = Called (SetInputs w)
word_of head.Millisecond l = Called millisecond
word_of head.Step l = Called step
word_of head.AtSpeed l = Called at_speed
word_of head.Halted l = Called halted
word_of (head.Wait n) l = Called (wait n)
word_of head.Order l = Order
word_of (head.Travel n) l = Travel n

-- the words of a list of which the first so many bytes are passed over
unfoldable pub words_from : ℕ → List ℕ → List Word
words_from skip [] = []
words_from (suc skip) (b ∷ l) = words_from skip l
words_from zero (b ∷ l) = word_of (head_of (b ∷ l)) (b ∷ l) ∷ words_from (size_of (head_of (b ∷ l)) - 1) l

unfoldable pub words_of : List ℕ → List Word
words_of l = words_from 0 l

-- ---- what a word comes to

-- the calls that a word stands for: a travel is so many `Step` calls
unfoldable pub word_calls : Word → Machine → List Call
word_calls Nothing m = []
word_calls (Called c) m = c ∷ []
word_calls Order m = []
word_calls (Travel n) m = step_calls (travelled n m)

unfoldable pub word_next : Word → Machine → Machine
word_next w m = after (word_calls w m) m

unfoldable pub word_seen : Word → Machine → List ℕ
word_seen Nothing m = []
word_seen (Called c) m = call_bytes c (look c m)
word_seen Order m = 0 ∷ shown_bytes (shown m)
word_seen (Travel n) m = 0 ∷ number_bytes (travelled n m)

-- ---- whole lists

-- the calls of a list, each word taken on the drive that the ones before it left
unfoldable pub calls_of : List Word → Machine → List Call
calls_of [] m = []
calls_of (w ∷ ws) m = word_calls w m ++ calls_of ws (word_next w m)

unfoldable pub bytes_of : List Word → Machine → List ℕ
bytes_of [] m = []
bytes_of (w ∷ ws) m = word_seen w m ++ bytes_of ws (word_next w m)
