-- `put_answer` meets its contract: each arm is a clause of the definition.
-- Assumes nothing.
use mathlib.Core.Logic.{inl, inr}
use Rattle.machine.specs.Answers.{answer_at}
use Rattle.replies.proofs.Commands.{preset-asked, input-asked, output-asked, cell-asked}
use Rattle.replies.proofs.Commands.{put-told}
use Rattle.replies.proofs.put_answer.Goals as goal

pub put_preset-requires : goal.put_preset-requires
unfolding answer_at
put_preset-requires c = preset-asked _ c.requires c.in-AskPreset.is

pub put_input-requires : goal.put_input-requires
unfolding answer_at
put_input-requires c = input-asked _ c.requires c.in-AskInput.is

pub put_output-requires : goal.put_output-requires
unfolding answer_at
put_output-requires c = output-asked _ c.requires c.in-AskOutput.is

pub put_memory-requires : goal.put_memory-requires
unfolding answer_at
put_memory-requires c = cell-asked _ c.requires c.in-AskCell.is

pub returns-in-AskPosition : goal.returns-in-AskPosition
unfolding answer_at
returns-in-AskPosition c = put-told _ _ _ c.in-AskPosition.is c.put_position.ensures

pub returns-in-AskPreset : goal.returns-in-AskPreset
unfolding answer_at
returns-in-AskPreset c = put-told _ _ _ c.in-AskPreset.is c.put_preset.ensures

pub returns-in-AskInput : goal.returns-in-AskInput
unfolding answer_at
returns-in-AskInput c = put-told _ _ _ c.in-AskInput.is c.put_input.ensures

pub returns-in-AskOutput : goal.returns-in-AskOutput
unfolding answer_at
returns-in-AskOutput c = put-told _ _ _ c.in-AskOutput.is c.put_output.ensures

pub returns-in-AskCell : goal.returns-in-AskCell
unfolding answer_at
returns-in-AskCell c = put-told _ _ _ c.in-AskCell.is c.put_memory.ensures

pub returns-in-AskCam : goal.returns-in-AskCam
unfolding answer_at
returns-in-AskCam c = put-told _ _ _ c.in-AskCam.is c.put_cam.ensures

pub returns-in-AskFault : goal.returns-in-AskFault
unfolding answer_at
returns-in-AskFault c = put-told _ _ _ c.in-AskFault.is c.put_fault.ensures

pub returns-in-AskSuspended : goal.returns-in-AskSuspended
unfolding answer_at
returns-in-AskSuspended c = put-told _ _ _ c.in-AskSuspended.is c.put_suspended.ensures

pub returns-in-Wrong : goal.returns-in-Wrong
unfolding answer_at
returns-in-Wrong c = put-told _ _ _ c.in-Wrong.is c.put_rejected.ensures

pub returns-in-Store : goal.returns-in-Store
unfolding answer_at
returns-in-Store c =
    let done = c.put_accepted.ensures in
    elim c.in-Store.is [
      | inl w ↦ put-told _ _ _ w.2 done
      | inr (inl w) ↦ put-told _ _ _ w.1 done
      | inr (inr (inl w)) ↦ put-told _ _ _ w.1 done
      | inr (inr (inr (inl w))) ↦ put-told _ _ _ w done
      | inr (inr (inr (inr (inl w)))) ↦ put-told _ _ _ w done
      | inr (inr (inr (inr (inr (inl w))))) ↦ put-told _ _ _ w.1 done
      | inr (inr (inr (inr (inr (inr (inl w)))))) ↦ put-told _ _ _ w.2 done
      | inr (inr (inr (inr (inr (inr (inr w)))))) ↦ put-told _ _ _ w.2 done
    ]
