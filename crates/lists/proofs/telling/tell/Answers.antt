-- `telling::tell` meets its contract: a string, a wait, and of the other words nothing.
-- Assumes nothing.
use Rattle.std.proofs.Common.{refl, sym, ap}
use Rattle.encoding.specs.declared.Head.{Head}
use Rattle.lists.specs.Listing.{whole_word}
use Rattle.lists.proofs.Small.{carries-as, unseen}
use Rattle.lists.proofs.Strings.{text-carried}
use Rattle.lists.proofs.telling.tell.Goals as goal

pub returns-in-NoWord-clause-carries : goal.returns-in-NoWord-clause-carries
unfolding whole_word
returns-in-NoWord-clause-carries c = (unseen (λ (h : Head). whole_word h c.args.word.now) c.in-NoWord.is refl).0

pub returns-in-Text-clause-carries : goal.returns-in-Text-clause-carries
returns-in-Text-clause-carries c = text-carried _ c.in-Text.is c.requires.word_len c.tell_string.ensures.carries

pub returns-in-Inputs-clause-carries : goal.returns-in-Inputs-clause-carries
unfolding whole_word
returns-in-Inputs-clause-carries c = (unseen (λ (h : Head). whole_word h c.args.word.now) c.in-Inputs.is refl).0

pub returns-in-Millisecond-clause-carries : goal.returns-in-Millisecond-clause-carries
unfolding whole_word
returns-in-Millisecond-clause-carries c = (unseen (λ (h : Head). whole_word h c.args.word.now) c.in-Millisecond.is refl).0

pub returns-in-Step-clause-carries : goal.returns-in-Step-clause-carries
unfolding whole_word
returns-in-Step-clause-carries c = (unseen (λ (h : Head). whole_word h c.args.word.now) c.in-Step.is refl).0

pub returns-in-AtSpeed-clause-carries : goal.returns-in-AtSpeed-clause-carries
unfolding whole_word
returns-in-AtSpeed-clause-carries c = (unseen (λ (h : Head). whole_word h c.args.word.now) c.in-AtSpeed.is refl).0

pub returns-in-Halted-clause-carries : goal.returns-in-Halted-clause-carries
unfolding whole_word
returns-in-Halted-clause-carries c = (unseen (λ (h : Head). whole_word h c.args.word.now) c.in-Halted.is refl).0

pub returns-in-Wait-clause-carries : goal.returns-in-Wait-clause-carries
unfolding whole_word
returns-in-Wait-clause-carries c =
    carries-as (sym (ap (λ (h : Head). whole_word h c.args.word.now) c.in-Wait.is)) c.tell_wait.ensures.carries

pub returns-in-Order-clause-carries : goal.returns-in-Order-clause-carries
unfolding whole_word
returns-in-Order-clause-carries c = (unseen (λ (h : Head). whole_word h c.args.word.now) c.in-Order.is refl).0

pub returns-in-Travel-clause-carries : goal.returns-in-Travel-clause-carries
unfolding whole_word
returns-in-Travel-clause-carries c = (unseen (λ (h : Head). whole_word h c.args.word.now) c.in-Travel.is refl).0
