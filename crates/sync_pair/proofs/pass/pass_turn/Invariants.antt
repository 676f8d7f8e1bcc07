use Rattle.std.proofs.Common.{◌≡◌, [], map}
use Rattle.sync_core.specs.Runs.{left_to_say}
use Rattle.sync_pair.specs.Passing.{CanPass, turn_end}
use Rattle.sync_pair.proofs.pass.pass_turn.Given as goal

abbrev pub invariant-loop-from : goal.invariant-loop-from
invariant-loop-from g l = record {
  end : turn_end l.from.side l.to.side l.bytes.items (map g.R.Row.value l.to.got.items) ≡ turn_end l.fn.from.side l.fn.to.side [] (map g.R.Row.value l.fn.to.got.items);
  can : CanPass l.from.side l.to.side;
  got : l.from.got ≡ l.fn.from.got;
}

abbrev pub decreases-loop-from : goal.decreases-loop-from
decreases-loop-from g l = left_to_say l.from.side.doing
