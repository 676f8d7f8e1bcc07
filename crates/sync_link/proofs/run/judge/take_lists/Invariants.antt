use Rattle.std.proofs.Common.{◌≡◌, ◌+◌, length}
use Rattle.ns_cell.specs.Passes.{IsLater, IsPassOf}
use Rattle.row_intake.specs.Tallies.{IsSum}
use Rattle.sync_link.proofs.Judged.{HasJudged}
use Rattle.sync_link.proofs.run.judge.take_lists.Given as goal

abbrev pub invariant-judging : goal.invariant-judging
invariant-judging g l = record {
  pass : IsPassOf l.cell l.pass;
  namespace : g.C.Checker.judged_in l.checker ≡ g.C.Checker.judged_in l.fn.checker;
  later : IsLater l.fn.pass l.pass;
  sums : IsSum l.tally;
  count : l.tally.rows + length l.waiting.rows.items ≡ l.initial.tally.rows + length l.fn.lists.rows.items;
  judged : HasJudged g.S.Verify.rules l.cell.namespace l.fn.lists.rows.items l.initial.pass l.initial.tally l.waiting.rows.items l.pass l.tally;
}

abbrev pub decreases-judging : goal.decreases-judging
decreases-judging g l = length l.waiting.counts.items
