use Rattle.std.proofs.Common.{◌≡◌, ◌+◌, ◌++◌, length}
use Rattle.ns_cell.specs.Passes.{IsLater, IsPassOf}
use Rattle.row_intake.specs.Tallies.{IsSum}
use Rattle.sync_link.proofs.TakenRows.{HasTaken}
use Rattle.sync_link.proofs.run.intake.take_rows.Given as goal

abbrev pub invariant-loop-judged : goal.invariant-loop-judged
invariant-loop-judged g l = record {
  can : (goal.iterator-loop-judged g).can_next l.judged-iterator;
  ends : (goal.iterator-loop-judged g).is_finite l.judged-iterator;
  all : l.yielded ++ l.judged-iterator.rest.items ≡ l.initial.judged-iterator.rest.items;
  pass : IsPassOf l.cell l.pass;
  later : IsLater l.initial.pass l.pass;
  sums : IsSum l.tally;
  count : l.tally.rows ≡ l.initial.tally.rows + length l.yielded;
  taken : HasTaken g.S.Verify.rules l.cell.namespace l.yielded l.initial.pass l.initial.tally l.pass l.tally;
}
