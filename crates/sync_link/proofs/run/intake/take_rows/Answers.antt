use Rattle.std.proofs.Common.{◌≡◌, ℕ, [], ◌∷◌, ◌++◌, List, map, Result, refl, sym, ap, ◌∙◌, arith, append_assoc, append-nil, length-append}
use Rattle.mc_cap.specs.declared.refusal.RowRefusal.{RowRefusal}
use Rattle.auth_entry.specs.Authorised.{AuthorisedValue, verdict}
use Rattle.log_rule.proofs.Prefixes.{empty_from_length}
use Rattle.sync_link.proofs.Offered.{grown_on, later_self, later_trans}
use Rattle.sync_link.proofs.TakenRows.{HasTaken, middle_of, none_taken, one_taken, taken_fails, takes_err}
use Rattle.sync_link.proofs.run.intake.take_rows.Goals as goal

pub returns-in_err-verdicts-clause-takes : goal.returns-in_err-verdicts-clause-takes
returns-in_err-verdicts-clause-takes g c start before t =
    let rules = g.S.Verify.rules in
    let n = c.args.cell.now.namespace in
    let pass = c.args.pass.now in
    takes_err rules n start (before ++ c.args.rows.items) pass c.args.tally.now _ c.from_residual.result c.from_residual.ensures.1 (grown_on rules n start before c.args.rows.items pass pass t.has_grown (later_self pass) refl)

pub loop-judged-init : goal.loop-judged-init
loop-judged-init g c = record {
  can = tt;
  ends = tt;
  all = refl;
  pass = c.requires.pass;
  later = later_self c.args.pass.now;
  sums = c.requires.sums;
  count = omega arith;
  taken = none_taken g.S.Verify.rules c.args.cell.now.namespace c.args.pass.now c.args.tally.now;
}

pub take_row-requires-clause-judged : goal.take_row-requires-clause-judged
take_row-requires-clause-judged g c κs within =
    let rules = g.S.Verify.rules in
    let n = c.args.cell.now.namespace in
    let into : c.into_iter-judged-iterator.result.rest.items ≡ c.in_ok-verdicts.verdicts.items = c.into_iter-judged-iterator.ensures.into_iter_gives.0 in
    let given : c.into_iter-judged-iterator.result.rest.items ≡ map (verdict rules n) c.args.rows.items = into ∙ c.in_ok-verdicts.ensures.verdicts ∙ ap (λ (m : List ℕ). map (verdict rules m) c.args.rows.items) c.requires.namespace in
    let whole : c.loop-judged.yielded ++ c.in-Some.judged ∷ c.next.new.self.rest.items ≡ map (verdict rules n) c.args.rows.items =
    ap (λ (l : List (Result AuthorisedValue RowRefusal)). c.loop-judged.yielded ++ l) (sym c.in-Some.ensures.steps.0) ∙ c.loop-judged.invariant.all ∙ given in
    let m = middle_of (verdict rules n) c.args.rows.items c.loop-judged.yielded c.in-Some.judged c.next.new.self.rest.items whole in
    (m.middle, m.middle_is)

pub loop-judged-preserved : goal.loop-judged-preserved
loop-judged-preserved g c =
    let rules = g.S.Verify.rules in
    let n = c.args.cell.now.namespace in
    let i = c.loop-judged.invariant in
    record {
      can = tt;
      ends = tt;
      all =
          append_assoc c.loop-judged.yielded (c.in-Some.judged ∷ []) c.next.new.self.rest.items
          ∙ ap (λ (l : List (Result AuthorisedValue RowRefusal)). c.loop-judged.yielded ++ l) (sym c.in-Some.ensures.steps.0)
          ∙ i.all;
      pass = c.in_ok-take_row.ensures.pass;
      later = later_trans c.args.pass.now c.loop-judged.pass c.take_row.new.pass i.later c.in_ok-take_row.ensures.later;
      sums = c.in_ok-take_row.ensures.counts.1;
      count = omega (arith, c.in_ok-take_row.ensures.counts.0, i.count, length-append c.loop-judged.yielded (c.in-Some.judged ∷ []));
      taken = one_taken rules n c.loop-judged.yielded c.in-Some.judged c.args.pass.now c.loop-judged.pass c.take_row.new.pass c.args.tally.now c.loop-judged.tally c.take_row.new.tally i.taken c.in_ok-take_row.ensures.takes;
    }

pub returns-in_err-take_row-clause-takes : goal.returns-in_err-take_row-clause-takes
returns-in_err-take_row-clause-takes g c start before t =
    let rules = g.S.Verify.rules in
    let n = c.args.cell.now.namespace in
    let into : c.into_iter-judged-iterator.result.rest.items ≡ c.in_ok-verdicts.verdicts.items = c.into_iter-judged-iterator.ensures.into_iter_gives.0 in
    let given : c.into_iter-judged-iterator.result.rest.items ≡ map (verdict rules n) c.args.rows.items = into ∙ c.in_ok-verdicts.ensures.verdicts ∙ ap (λ (m : List ℕ). map (verdict rules m) c.args.rows.items) c.requires.namespace in
    let whole : c.loop-judged.yielded ++ c.in-Some.judged ∷ c.next.new.self.rest.items ≡ map (verdict rules n) c.args.rows.items =
    ap (λ (l : List (Result AuthorisedValue RowRefusal)). c.loop-judged.yielded ++ l) (sym c.in-Some.ensures.steps.0) ∙ c.loop-judged.invariant.all ∙ given in
    takes_err rules n start (before ++ c.args.rows.items) c.take_row.new.pass c.take_row.new.tally _ c.from_residual-in_err-take_row.result c.from_residual-in_err-take_row.ensures.1
    (taken_fails rules n c.loop-judged.yielded c.next.new.self.rest.items c.in-Some.judged c.args.pass.now c.loop-judged.pass c.take_row.new.pass c.args.tally.now c.loop-judged.tally c.args.rows.items c.loop-judged.invariant.taken whole c.in_err-take_row.ensures.takes start before t)

pub returns-clause-takes : goal.returns-clause-takes
unfolding HasTaken
returns-clause-takes g c start before t =
    let rules = g.S.Verify.rules in
    let n = c.args.cell.now.namespace in
    let into : c.into_iter-judged-iterator.result.rest.items ≡ c.in_ok-verdicts.verdicts.items = c.into_iter-judged-iterator.ensures.into_iter_gives.0 in
    let given : c.into_iter-judged-iterator.result.rest.items ≡ map (verdict rules n) c.args.rows.items = into ∙ c.in_ok-verdicts.ensures.verdicts ∙ ap (λ (m : List ℕ). map (verdict rules m) c.args.rows.items) c.requires.namespace in
    let none : c.loop-judged.judged-iterator.rest.items ≡ [] = empty_from_length c.loop-judged.judged-iterator.rest.items (omega (arith, c.in-None.ensures.steps.0)) in
    let all : c.loop-judged.yielded ≡ map (verdict rules n) c.args.rows.items =
    sym (append-nil c.loop-judged.yielded) ∙ ap (λ (l : List (Result AuthorisedValue RowRefusal)). c.loop-judged.yielded ++ l) (sym none) ∙ c.loop-judged.invariant.all ∙ given in
    c.loop-judged.invariant.taken start before c.args.rows.items all t

pub returns-in_err-verdicts-clause-later : goal.returns-in_err-verdicts-clause-later
returns-in_err-verdicts-clause-later g c = later_self c.args.pass.now

pub returns-in_err-take_row-clause-later : goal.returns-in_err-take_row-clause-later
returns-in_err-take_row-clause-later g c = later_trans c.args.pass.now c.loop-judged.pass c.take_row.new.pass c.loop-judged.invariant.later c.in_err-take_row.ensures.later
