use Rattle.std.proofs.lemmas.Result.{err_from_is_err_and}
use Rattle.peer_rows.proofs.Gathered.{gathering_unpaid}
use Rattle.peer_rows.proofs.gathering.gather.Goals as goal

pub returns-in_err-rows-clause-gathers : goal.returns-in_err-rows-clause-gathers
returns-in_err-rows-clause-gathers g c = λ begun rows h.
    let p = err_from_is_err_and c.from_residual.result c.from_residual.ensures.1 in
    rw (p.1, p.2) (c.in_err-rows.ensures.gathers begun rows h)

pub returns-in_err-judged-clause-gathers : goal.returns-in_err-judged-clause-gathers
returns-in_err-judged-clause-gathers g c = λ begun rows h.
    let p = err_from_is_err_and c.from_residual-in_err-judged.result c.from_residual-in_err-judged.ensures.1 in
    rw (p.1, p.2) (gathering_unpaid begun (g.I.Source.facts c.args.input.now) (g.I.Source.facts c.gather_rows.new.input) c.args.reading.now rows c.args.room h c.gather_rows.ensures.somewhat)

pub returns-clause-gathers : goal.returns-clause-gathers
returns-clause-gathers g c = λ begun rows h. (c.in_ok-rows.rows.items, c.in_ok-judged.ensures.verdicts, c.in_ok-rows.ensures.gathers begun rows h)
