-- `put_preset` meets its contract: a row of a name and the value of that preset.
-- Assumes nothing.
use Rattle.replies.proofs.RequestRows.{preset-ready, preset-put}
use Rattle.replies.proofs.requests.put_preset.Goals as goal

pub put_row-requires : goal.put_row-requires
put_row-requires c = preset-ready _ _ _ c.args.state _ _ c.requires.0 c.preset_kind-kind.ensures
    c.preset_value-value.ensures c.requires.1.0 c.requires.1.1

pub returns : goal.returns
returns c = preset-put _ _ _ c.args.state _ c.preset_kind-kind.ensures c.preset_value-value.ensures
    c.put_row.ensures
