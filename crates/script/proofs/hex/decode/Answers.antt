-- `hex::decode` meets its contract: two digits more at each turn.
-- Assumes nothing.
use Rattle.std.proofs.Common.{◌≡◌, ℕ, suc, ◌+◌, ◌*◌, false, List, [], ◌∷◌, length, drop, set, sym, ap, ◌∙◌, arith}
use Rattle.std.specs.Prelude.{Some, None}
use lib.Seq.{sets, drop-length}
use Rattle.laws.specs.Tests.{both}
use Rattle.laws.specs.Text.{bytes}
use Rattle.script.specs.Hex.{byte_before, bytes_of, is_hex, is_none}
use Rattle.script.proofs.Naming.{same_as}
use Rattle.script.proofs.Turns.{pair_at, hex-turn, bytes-turn}
use Rattle.script.proofs.Decoding.{size_none, size-large, size-odd, size-right, decoded-none, decoded-size, decoded-digit, decoded-hex}
use Rattle.script.proofs.hex.decode.Goals as goal

drop_all : (word : List ℕ) (j : ℕ) → j ≡ length word → drop j word ≡ []
drop_all word j e = rw (e, drop-length word)

pub returns-then-same : goal.returns-then-same
unfolding is_none bytes
returns-then-same c =
    let a = c.args in
    let same = c.same in
    let word = a.word.now in
    let text = a.text.now in
    let test = same_as same.result word (bytes "-") same.ensures.0 same.ensures.1 in
    let both = decoded-none a.most word text (sym test ∙ c.if-same.true) in
    record { value = both.0; text = both.1 }

pub returns-then-n-eq0 : goal.returns-then-n-eq0
unfolding is_none bytes
returns-then-n-eq0 c =
    let a = c.args in
    let same = c.same in
    let if1 = c.if-same in
    let word = a.word.now in
    let text = a.text.now in
    let test = same_as same.result word (bytes "-") same.ensures.0 same.ensures.1 in
    let both = decoded-size a.most word text (sym test ∙ if1.false) (size_none a.most word c.if-n-eq0.true) in
    record { value = both.0; text = both.1 }

pub returns-then-most-n : goal.returns-then-most-n
unfolding is_none bytes
returns-then-most-n c =
    let a = c.args in
    let same = c.same in
    let if1 = c.if-same in
    let word = a.word.now in
    let text = a.text.now in
    let test = same_as same.result word (bytes "-") same.ensures.0 same.ensures.1 in
    let both = decoded-size a.most word text (sym test ∙ if1.false) (size-large a.most word c.if-most-n.true) in
    record { value = both.0; text = both.1 }

pub returns-then-n-word : goal.returns-then-n-word
unfolding is_none bytes
returns-then-n-word c =
    let a = c.args in
    let same = c.same in
    let if1 = c.if-same in
    let word = a.word.now in
    let text = a.text.now in
    let test = same_as same.result word (bytes "-") same.ensures.0 same.ensures.1 in
    let both = decoded-size a.most word text (sym test ∙ if1.false) (size-odd a.most word c.if-n-word.true) in
    record { value = both.0; text = both.1 }

pub returns-in_err-byte : goal.returns-in_err-byte
unfolding is_none is_hex bytes_of byte_before both bytes
returns-in_err-byte c =
    let a = c.args in
    let same = c.same in
    let l = c.loop-i in
    let word = a.word.now in
    let text = a.text.now in
    let test = same_as same.result word (bytes "-") same.ensures.0 same.ensures.1 in
    let sized = size-right a.most word c.if-n-eq0.false c.if-most-n.false c.if-n-word.false in
    let wrong : pair_at word (l.i * 2) ≡ None = sym c.pair.ensures ∙ c.in_err-byte.was in
    let last : is_hex (drop (l.i * 2) word) ≡ false = hex-turn word (l.i * 2) (omega arith) ∙ (simp wrong) in
    let none : bytes_of (drop (l.i * 2) word) ≡ [] = bytes-turn word (l.i * 2) (omega arith) ∙ (simp wrong) in
    let d = decoded-digit a.most word text (sym test ∙ c.if-same.false) sized (l.invariant.0 ∙ last) in
    record { value = c.from_residual.ensures ∙ d.0; text = ap (λ (p : List ℕ). sets l.text l.i p) (sym none) ∙ sym l.invariant.1 ∙ d.1 }

pub loop-i-preserved : goal.loop-i-preserved
unfolding is_hex bytes_of byte_before both
loop-i-preserved c =
    let l = c.loop-i in
    let word = c.args.word.now in
    let byte = c.in_ok-byte.byte in
    let right : pair_at word (l.i * 2) ≡ Some byte = sym c.pair.ensures ∙ c.in_ok-byte.was in
    let next : l.i * 2 + 2 ≡ (l.i + 1) * 2 = omega arith in
    let hex : is_hex (drop (l.i * 2) word) ≡ is_hex (drop (l.i * 2 + 2) word) = hex-turn word (l.i * 2) (omega arith) ∙ (simp right) in
    let more : bytes_of (drop (l.i * 2) word) ≡ byte ∷ bytes_of (drop (l.i * 2 + 2) word) =
    bytes-turn word (l.i * 2) (omega arith) ∙ (simp right) in
    let place : suc l.i ≡ l.i + 1 = omega arith in (
      l.invariant.0 ∙ hex ∙ ap (λ (j : ℕ). is_hex (drop j word)) next,
      l.invariant.1
          ∙ ap (λ (p : List ℕ). sets l.text l.i p) more
          ∙ ap (λ (j : ℕ). sets (set l.text l.i byte) j (bytes_of (drop (l.i * 2 + 2) word))) place
          ∙ ap (λ (j : ℕ). sets (set l.text l.i byte) (l.i + 1) (bytes_of (drop j word))) next,
    )

pub returns : goal.returns
unfolding is_none is_hex bytes_of bytes
returns c =
    let a = c.args in
    let same = c.same in
    let if1 = c.if-same in
    let if2 = c.if-n-eq0 in
    let if3 = c.if-most-n in
    let if4 = c.if-n-word in
    let l = c.loop-i in
    let word = a.word.now in
    let text = a.text.now in
    let test = same_as same.result word (bytes "-") same.ensures.0 same.ensures.1 in
    let sized = size-right a.most word if2.false if3.false if4.false in
    let all : drop (l.i * 2) word ≡ [] = drop_all word (l.i * 2) (omega arith) in
    let d = decoded-hex a.most word text (sym test ∙ if1.false) sized (l.invariant.0 ∙ ap is_hex all) in
    record { value = d.0; text = ap (λ (x : List ℕ). sets l.text l.i (bytes_of x)) (sym all) ∙ sym l.invariant.1 ∙ d.1 }
