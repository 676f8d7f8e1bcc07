use Rattle.std.proofs.Common.{◌-◌, length, map, vec_len}
use Rattle.std.specs.Prelude.{option_map}
use Rattle.std.specs.Option.{option_copied}
use Rattle.willow_area.specs.AreaBox.{area_box}
use Rattle.sync_pair.specs.Meeting.{meeting}
use Rattle.sync_pair.proofs.Exchanging.{SoFar}
use Rattle.sync_pair.proofs.meet.meet_rows.Given as goal

abbrev pub invariant-turns : goal.invariant-turns
invariant-turns g l =
    SoFar l.fn.version (meeting l.fn.version (map g.R.Row.value l.left) (map g.R.Row.value l.right) (option_map area_box (option_copied l.fn.area))) (map (λ turn. turn.items) l.turns.items)
    l.caller.side l.answerer.side (map g.R.Row.value l.caller.got.items) (map g.R.Row.value l.answerer.got.items)

abbrev pub decreases-turns : goal.decreases-turns
decreases-turns g l = length (meeting l.fn.version (map g.R.Row.value l.left) (map g.R.Row.value l.right) (option_map area_box (option_copied l.fn.area))) - vec_len l.turns
