-- Invariant: what is left of the word is in hex as the whole is, and what is left to be put into the text makes the text of the whole.
-- Assumes nothing.
use Rattle.std.proofs.Common.{◌≡◌, ◌*◌, drop}
use lib.Seq.{sets}
use Rattle.script.specs.Hex.{bytes_of, is_hex}
use Rattle.script.proofs.hex.decode.Given as goal

abbrev pub invariant-loop-i : goal.invariant-loop-i
invariant-loop-i l =
    (is_hex l.word ≡ is_hex (drop (l.i * 2) l.word)) × (sets l.initial.text 0 (bytes_of l.word) ≡ sets l.text l.i (bytes_of (drop (l.i * 2) l.word)))
