use Rattle.std.proofs.Common.{◌≡◌, ◌++◌, List, All, sym, ap, subst, arith}
use Rattle.spelling.proofs.Lists.{are_bytes}
use Rattle.cap_codec.specs.Rows.{RawValue, IsRaw}
use Rattle.session_rules.specs.Reading.{More, ending_of}
use Rattle.sync_follow.specs.Hearing.{stand_by, stand_in}
use Rattle.sync_follow.specs.UnderWay.{now_of}
use Rattle.sync_follow.proofs.Courses.{goes_on, unheard, unkept}
use Rattle.sync_follow.proofs.Shared.{hears_alone, tally_as, grown_as, reads_in}
use Rattle.sync_follow.proofs.piece.take_piece.Goals as goal

pub returns-in-None-clause-goes_on : goal.returns-in-None-clause-goes_on
returns-in-None-clause-goes_on g c start before link is few u given =
    let course = c.args.course.now in
    let more : ending_of (stand_by course.ear.place.due course.ear.place.count course.ear.at course.ear.held.items) ≡ More = ap (λ d. ending_of (stand_by d course.ear.place.count course.ear.at course.ear.held.items)) c.requires.due in
    unheard start (now_of course c.args.pass.now before) u link c.args.piece.now given (are_bytes c.args.piece.now c.type_inv.piece) c.requires.some few more

pub returns-in-Err-clause-goes_on : goal.returns-in-Err-clause-goes_on
returns-in-Err-clause-goes_on g c start before link is few u given =
    let course = c.args.course.now in
    let more : ending_of (stand_by course.ear.place.due course.ear.place.count course.ear.at course.ear.held.items) ≡ More = ap (λ d. ending_of (stand_by d course.ear.place.count course.ear.at course.ear.held.items)) c.requires.due in
    unheard start (now_of course c.args.pass.now before) u link c.args.piece.now given (are_bytes c.args.piece.now c.type_inv.piece) c.requires.some few more

pub take_rows-requires-clause-few : goal.take_rows-requires-clause-few
take_rows-requires-clause-few g c κs within =
    let h = hears_alone c.args.area.now (stand_in c.args.course.now.ear) (stand_in c.hear_on.new.ear) c.args.piece.now c.args.course.now.ear.place.count c.hear_on.new.ear.place.count c.new-came.result.items c.hear_on.new.came.items c.new-came.ensures.items c.in-Ok.ensures.hears in
    omega (arith, c.requires.counted.rows, h.0, c.known_count.ensures)

pub take_rows-requires-clause-sums : goal.take_rows-requires-clause-sums
take_rows-requires-clause-sums g c κs within = c.requires.counted.sums

pub take_rows-requires-clause-first : goal.take_rows-requires-clause-first
take_rows-requires-clause-first g c κs within = c.requires.counted.first

pub returns-in-Ok-take_rows-clause-counted : goal.returns-in-Ok-take_rows-clause-counted
returns-in-Ok-take_rows-clause-counted g c =
    let h = hears_alone c.args.area.now (stand_in c.args.course.now.ear) (stand_in c.hear_on.new.ear) c.args.piece.now c.args.course.now.ear.place.count c.hear_on.new.ear.place.count c.new-came.result.items c.hear_on.new.came.items c.new-came.ensures.items c.in-Ok.ensures.hears in
    record {
      held = c.in-Ok.ensures.held;
      rows = omega (arith, c.in-Ok-take_rows.ensures.counts.0, c.requires.counted.rows, h.0);
      sums = c.in-Ok-take_rows.ensures.counts.1.0;
      first = c.in-Ok-take_rows.ensures.counts.1.1;
    }

pub returns-in-Ok-take_rows-clause-goes_on : goal.returns-in-Ok-take_rows-clause-goes_on
returns-in-Ok-take_rows-clause-goes_on g c start before link is few u given =
    let rules' = g.S.Verify.rules in
    let n = c.args.cell.now.namespace in
    let course = c.args.course.now in
    let came = c.hear_on.new.came.items in
    let to = stand_in c.hear_on.new.ear in
    let more : ending_of (stand_by course.ear.place.due course.ear.place.count course.ear.at course.ear.held.items) ≡ More = ap (λ d. ending_of (stand_by d course.ear.place.count course.ear.at course.ear.held.items)) c.requires.due in
    let h = hears_alone c.args.area.now (stand_in course.ear) to c.args.piece.now course.ear.place.count c.hear_on.new.ear.place.count c.new-came.result.items came c.new-came.ensures.items c.in-Ok.ensures.hears in
    let t = tally_as start.rules rules' start.namespace n start.pass u.rows c.args.pass.now course.tally is.by_rules is.in_namespace u.tally in
    let t' = tally_as rules' start.rules n start.namespace start.pass (u.rows ++ came) c.take_rows.new.pass c.take_rows.new.tally (sym is.by_rules) (sym is.in_namespace) (c.in-Ok-take_rows.ensures.takes start.pass u.rows t) in
    goes_on start (now_of course c.args.pass.now before) u link c.args.piece.now given (are_bytes c.args.piece.now c.type_inv.piece) c.requires.some few more to came (reads_in c.args.area.now start.area (stand_in course.ear) to c.args.piece.now came (sym is.in_area) h.1) (subst (λ (l : List RawValue). All IsRaw l) c.deref.ensures.value c.known_raws.ensures)
    c.take_rows.new.pass c.take_rows.new.tally c.in-Some.count (omega (arith, c.in-Some.ensures)) t'

pub returns-in-Err-take_rows-clause-goes_on : goal.returns-in-Err-take_rows-clause-goes_on
returns-in-Err-take_rows-clause-goes_on g c start before link is few u given =
    let rules' = g.S.Verify.rules in
    let n = c.args.cell.now.namespace in
    let course = c.args.course.now in
    let came = c.hear_on.new.came.items in
    let to = stand_in c.hear_on.new.ear in
    let more : ending_of (stand_by course.ear.place.due course.ear.place.count course.ear.at course.ear.held.items) ≡ More = ap (λ d. ending_of (stand_by d course.ear.place.count course.ear.at course.ear.held.items)) c.requires.due in
    let h = hears_alone c.args.area.now (stand_in course.ear) to c.args.piece.now course.ear.place.count c.hear_on.new.ear.place.count c.new-came.result.items came c.new-came.ensures.items c.in-Ok.ensures.hears in
    let t = tally_as start.rules rules' start.namespace n start.pass u.rows c.args.pass.now course.tally is.by_rules is.in_namespace u.tally in
    let grew = grown_as rules' start.rules n start.namespace start.pass (u.rows ++ came) c.take_rows.new.pass (sym is.by_rules) (sym is.in_namespace) (c.in-Err-take_rows.ensures.takes start.pass u.rows t) in
    unkept start (now_of course c.args.pass.now before) u link c.args.piece.now given (are_bytes c.args.piece.now c.type_inv.piece) c.requires.some few more to came (reads_in c.args.area.now start.area (stand_in course.ear) to c.args.piece.now came (sym is.in_area) h.1) (subst (λ (l : List RawValue). All IsRaw l) c.deref.ensures.value c.known_raws.ensures)
    c.take_rows.new.pass grew
