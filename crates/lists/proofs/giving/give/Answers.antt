-- `giving::give` meets its contract: each arm is a word; a string and a wait are nothing here.
-- Assumes nothing.
use Rattle.std.proofs.Common.{refl, sym, ap, ◌∙◌, arith}
use Rattle.machine.specs.Calls.Call.{SetInputs, Millisecond, Step, AtSpeed, Halted}
use Rattle.operations.specs.Results.{acted_on}
use Rattle.operations.proofs.AtCell.{stepped-as, at-speed-as, halted-as, worded-as}
use Rattle.encoding.specs.Numbers.{number_bytes}
use Rattle.encoding.specs.Words.{room_of}
use Rattle.seen.specs.Bytes.{parts_bytes, shown_bytes, call_bytes}
use Rattle.lists.specs.Listing.{small_word}
use Rattle.lists.proofs.Small.{carries-as, unseen, tick-acted, event-carried, order-carried}
use Rattle.lists.proofs.giving.give.Goals as goal

pub returns-in-NoWord-clause-carries : goal.returns-in-NoWord-clause-carries
unfolding small_word
returns-in-NoWord-clause-carries c = λ cells k p h. (unseen small_word c.in-NoWord.is refl).0

pub returns-in-Text-clause-carries : goal.returns-in-Text-clause-carries
unfolding small_word
returns-in-Text-clause-carries c = λ cells k p h. (unseen small_word c.in-Text.is refl).0

pub returns-in-Inputs-clause-carries : goal.returns-in-Inputs-clause-carries
unfolding small_word call_bytes
returns-in-Inputs-clause-carries c = λ cells k p h.
    carries-as (sym (ap small_word c.in-Inputs.is))
    (event-carried k (SetInputs _) _ refl (ap (acted_on _) c.inputs.ensures ∙ worded-as _ p _) c.tell.ensures.state_value c.tell.ensures.bytes)

pub returns-in-Millisecond-clause-carries : goal.returns-in-Millisecond-clause-carries
unfolding small_word call_bytes
returns-in-Millisecond-clause-carries c = λ cells k p h.
    carries-as (sym (ap small_word c.in-Millisecond.is))
    (event-carried k Millisecond _ refl (tick-acted cells _ p h c.millisecond.ensures) c.tell-in-Millisecond.ensures.state_value c.tell-in-Millisecond.ensures.bytes)

pub returns-in-Step-clause-carries : goal.returns-in-Step-clause-carries
unfolding small_word call_bytes
returns-in-Step-clause-carries c = λ cells k p h.
    carries-as (sym (ap small_word c.in-Step.is))
    (event-carried k Step _ refl (ap (acted_on _) c.step.ensures ∙ stepped-as _ p) c.tell-in-Step.ensures.state_value c.tell-in-Step.ensures.bytes)

pub returns-in-AtSpeed-clause-carries : goal.returns-in-AtSpeed-clause-carries
unfolding small_word call_bytes
returns-in-AtSpeed-clause-carries c = λ cells k p h.
    carries-as (sym (ap small_word c.in-AtSpeed.is))
    (event-carried k AtSpeed _ refl (ap (acted_on _) c.at_speed.ensures ∙ at-speed-as _ p) c.tell-in-AtSpeed.ensures.state_value c.tell-in-AtSpeed.ensures.bytes)

pub returns-in-Halted-clause-carries : goal.returns-in-Halted-clause-carries
unfolding small_word call_bytes
returns-in-Halted-clause-carries c = λ cells k p h.
    carries-as (sym (ap small_word c.in-Halted.is))
    (event-carried k Halted _ refl (ap (acted_on _) c.halted.ensures ∙ halted-as _ p) c.tell-in-Halted.ensures.state_value c.tell-in-Halted.ensures.bytes)

pub returns-in-Wait-clause-carries : goal.returns-in-Wait-clause-carries
unfolding small_word
returns-in-Wait-clause-carries c = λ cells k p h. (unseen small_word c.in-Wait.is refl).0

pub returns-in-Order-clause-carries : goal.returns-in-Order-clause-carries
unfolding small_word
returns-in-Order-clause-carries c = λ cells k p h. carries-as (sym (ap small_word c.in-Order.is)) (order-carried k p refl c.tell_order.ensures)

pub returns-in-Order-clause-room : goal.returns-in-Order-clause-room
unfolding shown_bytes parts_bytes number_bytes room_of
returns-in-Order-clause-room c = omega (arith, c.tell_order.ensures.next, ap room_of c.in-Order.is)

pub returns-in-Travel-clause-carries : goal.returns-in-Travel-clause-carries
unfolding small_word
returns-in-Travel-clause-carries c = λ cells k p h. carries-as (sym (ap small_word c.in-Travel.is)) (c.tell_travel.ensures.carries cells k p)
