use Rattle.std.proofs.Common.{List, [], ◌++◌, ◌+◌, length, refl, sym, ap, ◌∙◌, subst, arith, append-nil, length-append}
use Rattle.std.proofs.lemmas.List.{length-drop}
use Rattle.sync_link.proofs.Offered.{later_self, later_trans}
use Rattle.sync_link.proofs.TakenRows.{takes_err}
use Rattle.cap_codec.specs.Rows.{RawValue}
use Rattle.sync_link.proofs.Judged.{HasJudged, judges_all, judges_fails, judges_grown, judges_on, judges_self}
use Rattle.sync_link.proofs.run.judge.take_lists.Goals as goal

pub judging-init : goal.judging-init
judging-init g c = record {
  pass = c.requires.pass;
  namespace = refl;
  later = later_self c.args.pass.now;
  sums = c.requires.sums;
  count = ap (λ (l : List RawValue). c.args.tally.now.rows + length l) c.new-waiting.ensures.rows;
  judged =
      subst (λ (l : List RawValue). HasJudged g.S.Verify.rules c.args.cell.now.namespace c.args.lists.rows.items c.args.pass.now c.args.tally.now l c.args.pass.now c.args.tally.now) (sym c.new-waiting.ensures.rows)
      (judges_self g.S.Verify.rules c.args.cell.now.namespace c.args.lists.rows.items c.args.pass.now c.args.tally.now);
}

pub take_rows-requires-clause-few : goal.take_rows-requires-clause-few
take_rows-requires-clause-few g c κs within =
    omega (arith, c.judging.invariant.count, c.requires.few, ap length c.in_ok-list.ensures.front, length-append c.in_ok-list.list.items c.take_first.new.self.rows.items)

pub judging-smaller : goal.judging-smaller
judging-smaller g c =
    let first = c.in-Some.ensures.first in
    omega (arith, ap length first.1, ap length c.in_ok-list.ensures.counts, length-drop 1 c.judging.waiting.counts.items)

pub judging-preserved : goal.judging-preserved
judging-preserved g c =
    let now = c.judging in
    let i = now.invariant in
    let list = c.in_ok-list.list.items in
    let rest = c.take_first.new.self.rows.items in
    let whole = c.in_ok-list.ensures.front in
    record {
      pass = c.in_ok-take_rows.ensures.pass;
      namespace = c.in_ok-take_rows.ensures.namespace ∙ i.namespace;
      later = later_trans c.args.pass.now now.pass c.take_rows.new.pass i.later c.in_ok-take_rows.ensures.later;
      sums = c.in_ok-take_rows.ensures.counts.1;
      count = omega (arith, c.in_ok-take_rows.ensures.counts.0, i.count, ap length whole, length-append list rest);
      judged = judges_on g.S.Verify.rules c.args.cell.now.namespace c.args.lists.rows.items c.args.pass.now c.args.tally.now now.waiting.rows.items now.pass now.tally i.judged list rest whole c.take_rows.new.pass c.take_rows.new.tally c.in_ok-take_rows.ensures.takes;
    }

-- ---- memory is wanting for a list, or behind some of its rows

pub returns-in_err-list-clause-takes : goal.returns-in_err-list-clause-takes
returns-in_err-list-clause-takes g c start before t =
    let rules = g.S.Verify.rules in
    let n = c.args.cell.now.namespace in
    let now = c.judging in
    let rows = c.args.lists.rows.items in
    takes_err rules n start (before ++ rows) now.pass now.tally _ c.from_residual.result c.from_residual.ensures.1
    (judges_grown rules n rows c.args.pass.now c.args.tally.now now.waiting.rows.items now.pass now.tally now.invariant.judged start before t)

pub returns-in_err-take_rows-clause-takes : goal.returns-in_err-take_rows-clause-takes
returns-in_err-take_rows-clause-takes g c start before t =
    let rules = g.S.Verify.rules in
    let n = c.args.cell.now.namespace in
    let now = c.judging in
    let rows = c.args.lists.rows.items in
    let list = c.in_ok-list.list.items in
    let rest = c.take_first.new.self.rows.items in
    let whole = c.in_ok-list.ensures.front in
    takes_err rules n start (before ++ rows) c.take_rows.new.pass c.take_rows.new.tally _ c.from_residual-in_err-take_rows.result c.from_residual-in_err-take_rows.ensures.1
    (judges_fails rules n rows c.args.pass.now c.args.tally.now now.waiting.rows.items now.pass now.tally now.invariant.judged list rest whole c.take_rows.new.pass c.take_rows.new.tally c.in_err-take_rows.ensures.takes start before t)

pub returns-in_err-take_rows-clause-later : goal.returns-in_err-take_rows-clause-later
returns-in_err-take_rows-clause-later g c = later_trans c.args.pass.now c.judging.pass c.take_rows.new.pass c.judging.invariant.later c.in_err-take_rows.ensures.later

-- ---- the rest

pub returns-in_err-take_rows-2-clause-takes : goal.returns-in_err-take_rows-2-clause-takes
returns-in_err-take_rows-2-clause-takes g c start before t =
    let rules = g.S.Verify.rules in
    let n = c.args.cell.now.namespace in
    let now = c.judging in
    let rows = c.args.lists.rows.items in
    let rest = c.into_rows-rest.result.items in
    takes_err rules n start (before ++ rows) c.take_rows-2.new.pass c.take_rows-2.new.tally _ c.from_residual-in_err-take_rows-2.result c.from_residual-in_err-take_rows-2.ensures.1
    (judges_fails rules n rows c.args.pass.now c.args.tally.now now.waiting.rows.items now.pass now.tally now.invariant.judged rest [] (sym c.into_rows-rest.ensures ∙ sym (append-nil rest)) c.take_rows-2.new.pass c.take_rows-2.new.tally c.in_err-take_rows-2.ensures.takes start before t)

pub take_rows-requires-2-clause-few : goal.take_rows-requires-2-clause-few
take_rows-requires-2-clause-few g c κs within = omega (arith, c.judging.invariant.count, c.requires.few, ap length c.into_rows-rest.ensures)

pub returns-clause-counts : goal.returns-clause-counts
returns-clause-counts g c = omega (arith, c.in_ok-take_rows-2.ensures.counts.0, c.judging.invariant.count, ap length c.into_rows-rest.ensures)

pub returns-clause-takes : goal.returns-clause-takes
returns-clause-takes g c start before t =
    let rules = g.S.Verify.rules in
    let n = c.args.cell.now.namespace in
    let now = c.judging in
    let rows = c.args.lists.rows.items in
    let rest = c.into_rows-rest.result.items in
    judges_all rules n rows c.args.pass.now c.args.tally.now rest now.pass now.tally
    (subst (λ (l : List RawValue). HasJudged rules n rows c.args.pass.now c.args.tally.now l now.pass now.tally) (sym c.into_rows-rest.ensures) now.invariant.judged)
    c.take_rows-2.new.pass c.take_rows-2.new.tally c.in_ok-take_rows-2.ensures.takes start before t
