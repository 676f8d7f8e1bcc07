use Rattle.std.proofs.Common.{◌∙◌, ℕ, List, [], Ok, arith, subst}
use Rattle.std.proofs.lemmas.Result.{err_from_is_err_and}
use Rattle.peer_rows.specs.Join.{StopsInput}
use Rattle.peer_rows.specs.Joining.{JoinsOn}
use Rattle.peer_rows.proofs.Coming.{few_all}
use Rattle.peer_rows.proofs.UnderWay.{join_ends, join_goes_on, last_ends, settling_counts}
use Rattle.peer_rows.proofs.joining.take_input.Goals as goal

pub go_on-requires : goal.go_on-requires
go_on-requires g c =
    let so_far = c.steps.invariant in
    (c.type_bounds.sync-R, (g.I.Source.facts c.args.input.now, rw so_far.checks so_far.under_way))

pub returns-in_err-go_on-clause-takes : goal.returns-in_err-go_on-clause-takes
returns-in_err-go_on-clause-takes g c =
    let so_far = c.steps.invariant in
    let i = g.I.Source.facts c.args.input.now in
    let p = err_from_is_err_and c.from_residual.result c.from_residual.ensures.1 in
    rw (p.1, p.2) (subst (λ (m : List ℕ). StopsInput m [] i (g.I.Source.facts c.go_on.new.input) c.in_err-go_on.field-0.0) so_far.checks (c.in_err-go_on.ensures.joins i (rw so_far.checks so_far.under_way)))

pub settle-requires : goal.settle-requires
settle-requires g c =
    let so_far = c.steps.invariant in
    let i = g.I.Source.facts c.args.input.now in
    let n = g.C.Checker.judged_in c.steps.checker in
    let last = join_ends n i (g.I.Source.facts c.go_on.new.input) c.go_on.new.reading c.go_on.new.keeping _ c.if-not-branch.true (c.in_ok-go_on.ensures.joins i (rw so_far.checks so_far.under_way)) in
    (n, last.rows, last.holds, omega (arith, few_all i (g.I.Source.facts c.go_on.new.input) last.rows last.all))

pub returns-then-not-branch-clause-takes : goal.returns-then-not-branch-clause-takes
returns-then-not-branch-clause-takes g c =
    let so_far = c.steps.invariant in
    let i = g.I.Source.facts c.args.input.now in
    let i' = g.I.Source.facts c.go_on.new.input in
    let n = g.C.Checker.judged_in c.args.checker.now in
    let last = join_ends n i i' c.go_on.new.reading c.go_on.new.keeping _ c.if-not-branch.true (subst (λ (m : List ℕ). JoinsOn m i i' c.go_on.new.reading c.go_on.new.keeping (Ok c.in_ok-go_on.field-0)) so_far.checks (c.in_ok-go_on.ensures.joins i (rw so_far.checks so_far.under_way))) in
    last_ends n i i' c.go_on.new.keeping last c.settle.new.self c.settle.result (c.settle.ensures n last.rows last.holds)

pub returns-then-not-branch-clause-faults : goal.returns-then-not-branch-clause-faults
returns-then-not-branch-clause-faults g c =
    let so_far = c.steps.invariant in
    let i = g.I.Source.facts c.args.input.now in
    let i' = g.I.Source.facts c.go_on.new.input in
    let n = g.C.Checker.judged_in c.args.checker.now in
    let last = join_ends n i i' c.go_on.new.reading c.go_on.new.keeping _ c.if-not-branch.true (subst (λ (m : List ℕ). JoinsOn m i i' c.go_on.new.reading c.go_on.new.keeping (Ok c.in_ok-go_on.field-0)) so_far.checks (c.in_ok-go_on.ensures.joins i (rw so_far.checks so_far.under_way))) in
    settling_counts n last.rows c.settle.new.self i.faults i'.faults c.settle.result (c.settle.ensures n last.rows last.holds) (c.in_ok-go_on.ensures.faults ∙ so_far.no_fault)

pub steps-preserved : goal.steps-preserved
steps-preserved g c =
    let so_far = c.steps.invariant in
    let i = g.I.Source.facts c.args.input.now in
    let i' = g.I.Source.facts c.go_on.new.input in
    let n = g.C.Checker.judged_in c.args.checker.now in
    record {
      under_way = join_goes_on n i i' c.go_on.new.reading c.go_on.new.keeping _ c.if-not-branch.false (subst (λ (m : List ℕ). JoinsOn m i i' c.go_on.new.reading c.go_on.new.keeping (Ok c.in_ok-go_on.field-0)) so_far.checks (c.in_ok-go_on.ensures.joins i (rw so_far.checks so_far.under_way)));
      checks = c.go_on.ensures.namespace ∙ so_far.checks;
      no_fault = c.in_ok-go_on.ensures.faults ∙ so_far.no_fault;
      ends = omega (arith, so_far.ends, c.go_on.ensures.ends);
    }
