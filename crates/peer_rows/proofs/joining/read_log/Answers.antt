use Rattle.std.proofs.Common.{[], ℕ, List, sym, subst}
use Rattle.std.proofs.lemmas.Result.{err_from_is_err_and}
use Rattle.peer_rows.specs.Join.{StopsInput}
use Rattle.peer_rows.specs.Joining.{IsUnderWay}
use Rattle.peer_rows.specs.Reading.{IsLogRead}
use Rattle.peer_rows.specs.Stored.{IsWholeLog}
use Rattle.peer_rows.specs.declared.log.Log.{Log}
use Rattle.peer_rows.proofs.Coming.{none_come}
use Rattle.peer_rows.proofs.Held.{whole_holds}
use Rattle.peer_rows.proofs.ReadLog.{start_whole}
use Rattle.peer_rows.proofs.joining.read_log.Goals as goal

pub take_input-requires : goal.take_input-requires
take_input-requires g c =
    let n = c.args.namespace.now in
    let i = g.I.Source.facts c.args.input.now in
    let reading = c.in_ok-reading.reading in
    let keeping = c.new-keeping.result in
    let whole = subst (λ (log : Log). IsWholeLog n [] log) (sym c.new-keeping.ensures.log) (start_whole n c.new.result c.new.ensures.kept c.new.ensures.counts) in (
      c.type_bounds.sync-R,
      subst (λ (m : List ℕ). IsUnderWay m i i reading keeping) (sym c.in_ok-checker.ensures)
          (record {
            rows = [];
            come = none_come i reading c.in_ok-reading.ensures.stream c.in_ok-reading.ensures.room c.in_ok-reading.ensures.all;
            holds = whole_holds n [] keeping whole c.new-keeping.ensures.none;
          }),
    )

pub returns-in_err-take_input-clause-logs : goal.returns-in_err-take_input-clause-logs
returns-in_err-take_input-clause-logs g c =
    let p = err_from_is_err_and c.from_residual-in_err-take_input.result c.from_residual-in_err-take_input.ensures.1 in
    rw (p.1, p.2) (subst (λ (n : List ℕ). StopsInput n [] (g.I.Source.facts c.args.input.now) (g.I.Source.facts c.take_input.new.input) c.in_err-take_input.field-0.0) c.in_ok-checker.ensures c.in_err-take_input.ensures.takes)

pub returns-clause-logs : goal.returns-clause-logs
returns-clause-logs g c =
    subst (λ (n : List ℕ). IsLogRead n [] (g.I.Source.facts c.args.input.now) (g.I.Source.facts c.take_input.new.input) c.take_input.new.keeping.log) c.in_ok-checker.ensures c.in_ok-take_input.ensures.takes
