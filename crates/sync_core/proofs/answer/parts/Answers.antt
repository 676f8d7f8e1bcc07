use Rattle.std.proofs.Common.{map}
use Rattle.range_split.specs.Parts.{can_cut_at}
use Rattle.sync_core.proofs.Parts.{adds_nothing}
use Rattle.sync_core.proofs.Telling.{some_cause}
use Rattle.sync_core.proofs.answer.parts.Goals as goal

pub returns-in-Err-Refused : goal.returns-in-Err-Refused
returns-in-Err-Refused g c =
    adds_nothing (map g.R.Row.value c.args.snapshot.now) c.args.area.now c.args.points c.args.turn.now c.requires.points
    (some_cause (can_cut_at c.args.area.now c.args.points) _ _ (rw c.in-Err-Refused.field-0-is at c.in-Err-Refused.ensures.answer))
