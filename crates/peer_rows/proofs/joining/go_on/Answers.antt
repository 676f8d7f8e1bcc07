use Rattle.std.proofs.Common.{◌≡◌, Bool, Ok, Err, length, sym, ap, subst, arith}
use Rattle.std.specs.Prelude.{Result}
use Rattle.std.proofs.lemmas.Result.{err_from_is_err_and}
use Rattle.peer_stage.specs.declared.outcome.Stop.{Stop}
use Rattle.peer_stage.specs.declared.outcome.Stop.TheVariants as stop
use Rattle.peer_rows.specs.Gathering.{GathersJudged}
use Rattle.peer_rows.specs.Joining.{JoinsOn}
use Rattle.peer_rows.specs.Keeping.{KeepsAll}
use Rattle.peer_rows.specs.declared.gathering.Gathered.{Gathered}
use Rattle.peer_rows.proofs.Coming.{few_come}
use Rattle.peer_rows.proofs.Held.{held_fit, kept_holds}
use Rattle.peer_rows.proofs.UnderWay.{HasRoomBehind, fit_alone, gathering_stops, joins_so, none_gathered, settling_counts, settling_stops, settling_stops_beside}
use Rattle.peer_rows.proofs.joining.go_on.Goals as goal

pub room_behind-requires : goal.room_behind-requires
room_behind-requires g c = c.requires.1.holds.fits

pub settle_and_gather-settled-requires-clause-held : goal.settle_and_gather-settled-requires-clause-held
settle_and_gather-settled-requires-clause-held g c κs within =
    let u = c.requires.1 in
    (g.C.Checker.judged_in c.args.checker.now, u.rows, u.holds, omega (arith, few_come c.requires.0 (g.I.Source.facts c.args.input.now) c.args.reading.now u.rows u.come))

pub settle_and_gather-settled-requires-clause-come : goal.settle_and_gather-settled-requires-clause-come
settle_and_gather-settled-requires-clause-come g c κs within = (c.requires.0, c.requires.1.rows, c.requires.1.come)

pub returns-in_err-settle-clause-joins : goal.returns-in_err-settle-clause-joins
returns-in_err-settle-clause-joins g c = λ begun u.
    let n = g.C.Checker.judged_in c.args.checker.now in
    let i = g.I.Source.facts c.args.input.now in
    let p = err_from_is_err_and c.from_residual-in_err-settle.result c.from_residual-in_err-settle.ensures.1 in
    rw (p.1, p.2) (settling_stops n begun i i c.args.reading.now u.rows u.come c.settle.new.self c.in_err-settle.field-0.0 (c.in_err-settle.ensures n u.rows u.holds))

pub returns-then-has_failed-clause-joins : goal.returns-then-has_failed-clause-joins
returns-then-has_failed-clause-joins g c = λ begun u.
    let n = g.C.Checker.judged_in c.args.checker.now in
    let i' = g.I.Source.facts c.settle_and_gather-settled.new.input in
    let reading' = c.settle_and_gather-settled.new.reading in
    let room = c.in-Some.room in
    let fits : HasRoomBehind n u.rows room = λ more few. held_fit n u.rows c.args.keeping.now u.holds more (omega (arith, few, c.in-Some.ensures)) in
    let came = c.settle_and_gather-settled.ensures.gathers begun u.rows u.come in
    let failed : c.settle_and_gather-settled.result.1 ≡ Err stop.ReadFault = c.has_failed.ensures.0 c.if-has_failed.true in
    gathering_stops n begun i' reading' u.rows room fits stop.ReadFault (subst (λ (r : Result Gathered Stop). GathersJudged begun i' reading' u.rows room n r) failed came)

pub returns-in_err-settled-clause-joins : goal.returns-in_err-settled-clause-joins
returns-in_err-settled-clause-joins g c = λ begun u.
    let n = g.C.Checker.judged_in c.args.checker.now in
    let i = g.I.Source.facts c.args.input.now in
    let i' = g.I.Source.facts c.settle_and_gather-settled.new.input in
    let room = c.in-Some.room in
    let fits : HasRoomBehind n u.rows room = λ more few. held_fit n u.rows c.args.keeping.now u.holds more (omega (arith, few, c.in-Some.ensures)) in
    let p = err_from_is_err_and c.from_residual.result c.from_residual.ensures.1 in
    rw (p.1, p.2) (settling_stops_beside n begun i i' c.args.reading.now u.rows u.come c.settle_and_gather-settled.new.keeping c.in_err-settled.field-0.0 (fit_alone n u.rows room fits) c.settle_and_gather-settled.ensures.somewhat
    (subst (λ (r : Result (Unit {0}) Stop). KeepsAll n u.rows c.settle_and_gather-settled.new.keeping r) c.in_err-settled.was (c.settle_and_gather-settled.ensures.keeps n u.rows u.holds)))

pub returns-in_err-settled-clause-faults : goal.returns-in_err-settled-clause-faults
returns-in_err-settled-clause-faults g c =
    let u = c.requires.1 in
    let begun = c.requires.0 in
    let n = g.C.Checker.judged_in c.args.checker.now in
    let i' = g.I.Source.facts c.settle_and_gather-settled.new.input in
    let reading' = c.settle_and_gather-settled.new.reading in
    let room = c.in-Some.room in
    let fits : HasRoomBehind n u.rows room = λ more few. held_fit n u.rows c.args.keeping.now u.holds more (omega (arith, few, c.in-Some.ensures)) in
    let came = c.settle_and_gather-settled.ensures.gathers begun u.rows u.come in
    let before = (g.I.Source.facts c.args.input.now).faults in
    let same = none_gathered n begun i' reading' u.rows room before i'.faults fits c.settle_and_gather-settled.result.1 c.has_failed.result c.has_failed.ensures.1 c.if-has_failed.false came c.settle_and_gather-settled.ensures.faults in
    let p = err_from_is_err_and c.from_residual.result c.from_residual.ensures.1 in
    rw (p.1, p.2) (settling_counts n u.rows c.settle_and_gather-settled.new.keeping before i'.faults (Err c.in_err-settled.field-0.0) (subst (λ (r : Result (Unit {0}) Stop). KeepsAll n u.rows c.settle_and_gather-settled.new.keeping r) c.in_err-settled.was (c.settle_and_gather-settled.ensures.keeps n u.rows u.holds)) same)

pub returns-in_err-came-clause-joins : goal.returns-in_err-came-clause-joins
returns-in_err-came-clause-joins g c = λ begun u.
    let n = g.C.Checker.judged_in c.args.checker.now in
    let i' = g.I.Source.facts c.settle_and_gather-settled.new.input in
    let reading' = c.settle_and_gather-settled.new.reading in
    let room = c.in-Some.room in
    let fits : HasRoomBehind n u.rows room = λ more few. held_fit n u.rows c.args.keeping.now u.holds more (omega (arith, few, c.in-Some.ensures)) in
    let came = c.settle_and_gather-settled.ensures.gathers begun u.rows u.come in
    let p = err_from_is_err_and c.from_residual-in_err-came.result c.from_residual-in_err-came.ensures.1 in
    rw (p.1, p.2) (gathering_stops n begun i' reading' u.rows room fits c.in_err-came.field-0.0 (subst (λ (r : Result Gathered Stop). GathersJudged begun i' reading' u.rows room n r) c.in_err-came.was came))

pub returns-in-Some-clause-joins : goal.returns-in-Some-clause-joins
returns-in-Some-clause-joins g c = λ begun u.
    let n = g.C.Checker.judged_in c.args.checker.now in
    let i' = g.I.Source.facts c.settle_and_gather-settled.new.input in
    let reading' = c.settle_and_gather-settled.new.reading in
    let room = c.in-Some.room in
    let fits : HasRoomBehind n u.rows room = λ more few. held_fit n u.rows c.args.keeping.now u.holds more (omega (arith, few, c.in-Some.ensures)) in
    let came = c.settle_and_gather-settled.ensures.gathers begun u.rows u.come in
    let kept = subst (λ (r : Result (Unit {0}) Stop). KeepsAll n u.rows c.settle_and_gather-settled.new.keeping r) c.in_ok-settled.was (c.settle_and_gather-settled.ensures.keeps n u.rows u.holds) in
    subst (λ (b : Bool). JoinsOn n begun i' reading' c.hold.new.self (Ok b)) (sym c.hold.ensures.goes_on)
    (joins_so n begun i' reading' u.rows room fits c.settle_and_gather-settled.new.keeping c.hold.new.self c.in_ok-came.field-0 kept c.hold.ensures.log c.hold.ensures.held (subst (λ (r : Result Gathered Stop). GathersJudged begun i' reading' u.rows room n r) c.in_ok-came.was came))

pub settle-requires : goal.settle-requires
settle-requires g c =
    let u = c.requires.1 in
    (g.C.Checker.judged_in c.args.checker.now, u.rows, u.holds, omega (arith, few_come c.requires.0 (g.I.Source.facts c.args.input.now) c.args.reading.now u.rows u.come))

pub returns-in_err-came-2-clause-joins : goal.returns-in_err-came-2-clause-joins
returns-in_err-came-2-clause-joins g c = λ begun u.
    let n = g.C.Checker.judged_in c.args.checker.now in
    let kept = c.in_ok-settle.ensures n u.rows u.holds in
    let fits : HasRoomBehind n u.rows c.room.result = λ more few. held_fit n u.rows c.settle.new.self (kept_holds n u.rows c.settle.new.self kept) more (omega (arith, few, c.room.ensures, ap length kept.none_held)) in
    let p = err_from_is_err_and c.from_residual-in_err-came-2.result c.from_residual-in_err-came-2.ensures.1 in
    rw (p.1, p.2) (gathering_stops n begun (g.I.Source.facts c.gather.new.input) c.gather.new.reading u.rows c.room.result fits c.in_err-came-2.field-0.0 (c.in_err-came-2.ensures.gathers begun u.rows u.come))

pub returns-clause-joins : goal.returns-clause-joins
returns-clause-joins g c = λ begun u.
    let n = g.C.Checker.judged_in c.args.checker.now in
    let i' = g.I.Source.facts c.gather.new.input in
    let kept = c.in_ok-settle.ensures n u.rows u.holds in
    let fits : HasRoomBehind n u.rows c.room.result = λ more few. held_fit n u.rows c.settle.new.self (kept_holds n u.rows c.settle.new.self kept) more (omega (arith, few, c.room.ensures, ap length kept.none_held)) in
    subst (λ (b : Bool). JoinsOn n begun i' c.gather.new.reading c.hold-2.new.self (Ok b)) (sym c.hold-2.ensures.goes_on)
    (joins_so n begun i' c.gather.new.reading u.rows c.room.result fits c.settle.new.self c.hold-2.new.self c.in_ok-came-2.came kept c.hold-2.ensures.log c.hold-2.ensures.held (c.in_ok-came-2.ensures.gathers begun u.rows u.come))
