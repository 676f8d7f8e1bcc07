use Rattle.std.proofs.Common.{Option, Ok, ◌++◌, subst}
use Rattle.std.specs.Global.{Vec}
use Rattle.std.proofs.lemmas.Result.{err_from_is_err_and}
use Rattle.cap_codec.specs.Rows.{RawValue}
use Rattle.peer_rows.specs.Coming.{AreAll, ComesNext, HaveCome}
use Rattle.peer_rows.proofs.ReadLog.{few_more, few_taken, fits_all, has_read_on, judging_stops, log_read, taking_stops}
use Rattle.peer_rows.proofs.Waiting.{judged_longer}
use Rattle.peer_rows.proofs.reading.Reading.next.Goals as goal

pub rows-requires : goal.rows-requires
rows-requires g c = let r = c.requires.read in (r.2, r.3.seen, r.3.come)

pub returns-in_err-rows-clause-reads : goal.returns-in_err-rows-clause-reads
returns-in_err-rows-clause-reads g c = λ n had begun h.
    let p = err_from_is_err_and c.from_residual.result c.from_residual.ensures.1 in
    rw (p.1, p.2) (c.in_err-rows.ensures.comes begun h.seen h.come n had (fits_all n had begun (g.I.Source.facts c.args.input.now) c.args.self.now c.args.intake.now h))

pub judge-requires-clause-few : goal.judge-requires-clause-few
judge-requires-clause-few g c κs within =
    let r = c.requires.read in
    (r.0, r.1 ++ r.3.seen, r.3.taken_in, few_taken r.0 r.1 r.2 (g.I.Source.facts c.args.input.now) c.args.self.now c.args.intake.now r.3)

pub returns-in_err-judge-clause-reads : goal.returns-in_err-judge-clause-reads
returns-in_err-judge-clause-reads g c = λ n had begun h.
    let i = g.I.Source.facts c.args.input.now in
    let i' = g.I.Source.facts c.rows.new.input in
    let all : AreAll begun i' h.seen = subst (λ (o : Option (Vec RawValue)). ComesNext begun i' c.rows.new.self h.seen (Ok o)) c.in_default.is (c.in_ok-rows.ensures.comes begun h.seen h.come) in
    let p = err_from_is_err_and c.from_residual-in_err-judge.result c.from_residual-in_err-judge.ensures.1 in
    rw (p.1, p.2) (judging_stops n had begun i c.args.self.now c.args.intake.now h i' all c.judge.new.self c.args.intake.now.log c.in_err-judge.field-0.0
    (c.in_err-judge.ensures.judges n (had ++ h.seen) h.taken_in))

pub returns-in_default-clause-reads : goal.returns-in_default-clause-reads
returns-in_default-clause-reads g c = λ n had begun h.
    let i = g.I.Source.facts c.args.input.now in
    let i' = g.I.Source.facts c.rows.new.input in
    let all : AreAll begun i' h.seen = subst (λ (o : Option (Vec RawValue)). ComesNext begun i' c.rows.new.self h.seen (Ok o)) c.in_default.is (c.in_ok-rows.ensures.comes begun h.seen h.come) in
    log_read n had begun i c.args.self.now c.args.intake.now h i' all c.judge.new.self (c.in_ok-judge.ensures.judges n (had ++ h.seen) h.taken_in)

pub returns-in_default-clause-longer : goal.returns-in_default-clause-longer
returns-in_default-clause-longer g c =
    let r = c.requires.read in
    let rows = r.1 ++ r.3.seen in
    judged_longer r.0 rows c.args.intake.now c.judge.new.self r.3.taken_in (c.in_ok-judge.ensures.judges r.0 rows r.3.taken_in)

pub take_in-requires-clause-few : goal.take_in-requires-clause-few
take_in-requires-clause-few g c κs within =
    let r = c.requires.read in
    let i = g.I.Source.facts c.args.input.now in
    let i' = g.I.Source.facts c.rows.new.input in
    let come : HaveCome r.2 i' c.rows.new.self (r.3.seen ++ c.in-Some.rows.items) = subst (λ (o : Option (Vec RawValue)). ComesNext r.2 i' c.rows.new.self r.3.seen (Ok o)) c.in-Some.is (c.in_ok-rows.ensures.comes r.2 r.3.seen r.3.come) in
    (r.0, r.1 ++ r.3.seen, r.3.taken_in, few_more r.0 r.1 r.2 i c.args.self.now c.args.intake.now r.3 i' c.rows.new.self c.in-Some.rows.items come)

pub returns-in_err-take_in-clause-reads : goal.returns-in_err-take_in-clause-reads
returns-in_err-take_in-clause-reads g c = λ n had begun h.
    let i = g.I.Source.facts c.args.input.now in
    let i' = g.I.Source.facts c.rows.new.input in
    let come : HaveCome begun i' c.rows.new.self (h.seen ++ c.in-Some.rows.items) = subst (λ (o : Option (Vec RawValue)). ComesNext begun i' c.rows.new.self h.seen (Ok o)) c.in-Some.is (c.in_ok-rows.ensures.comes begun h.seen h.come) in
    let p = err_from_is_err_and c.from_residual-in_err-take_in.result c.from_residual-in_err-take_in.ensures.1 in
    rw (p.1, p.2) (taking_stops n had begun i c.args.self.now c.args.intake.now h i' c.rows.new.self c.in-Some.rows.items come c.take_in.new.self c.args.intake.now.log c.in_err-take_in.field-0.0 (c.in_err-take_in.ensures.takes n (had ++ h.seen) h.taken_in))

pub returns-clause-reads : goal.returns-clause-reads
returns-clause-reads g c = λ n had begun h.
    let i = g.I.Source.facts c.args.input.now in
    let i' = g.I.Source.facts c.rows.new.input in
    let come : HaveCome begun i' c.rows.new.self (h.seen ++ c.in-Some.rows.items) = subst (λ (o : Option (Vec RawValue)). ComesNext begun i' c.rows.new.self h.seen (Ok o)) c.in-Some.is (c.in_ok-rows.ensures.comes begun h.seen h.come) in
    has_read_on n had begun i c.args.self.now c.args.intake.now h i' c.rows.new.self c.in-Some.rows.items come c.take_in.new.self c.args.intake.now.log (c.in_ok-take_in.ensures.takes n (had ++ h.seen) h.taken_in)
