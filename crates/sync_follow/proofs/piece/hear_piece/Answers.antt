use Rattle.std.proofs.Common.{◌≡◌, ◌<◌, ℕ, take, [], refl, ap, subst, arith}
use Rattle.std.proofs.lemmas.List.{length-take}
use Rattle.std.specs.Io.KnownBytes.{Consumes}
use Rattle.willow_outside.specs.Told.{Extends}
use Rattle.willow_outside.specs.Counts.{CountsCause}
use Rattle.willow_outside.specs.declared.fault.Fault.{Fault}
use Rattle.session_rules.specs.Reading.{More, ending_of}
use Rattle.sync_follow.specs.Hearing.{stand_by}
use Rattle.sync_follow.specs.UnderWay.{now_of}
use Rattle.sync_follow.proofs.Courses.{ends_early, ends_failed, ends_unread, keeps_none, still}
use Rattle.sync_follow.proofs.piece.hear_piece.Goals as goal

pub returns-in-Err-Failed-clause-goes_on : goal.returns-in-Err-Failed-clause-goes_on
returns-in-Err-Failed-clause-goes_on g c start is u =
    let old = g.L.Link.facts c.args.link.now in
    let link = g.L.Link.facts c.read.new.self in
    let course = c.args.course.now in
    let more : ending_of (stand_by course.ear.place.due course.ear.place.count course.ear.at course.ear.held.items) ≡ More = ap (λ d. ending_of (stand_by d course.ear.place.count course.ear.at course.ear.held.items)) c.requires.due in
    let rose = subst (λ (x : Fault). CountsCause old.read_faults link.read_faults x) c.in-Err-Failed.field-0-is c.in-Err-Failed.ensures.cause in
    ends_failed start (now_of course c.args.pass.now old) u link (keeps_none old.left link.left c.in-Err-Failed.ensures.bytes) (still old.taken link.taken c.in-Err-Failed.ensures.taken) c.read.ensures.held c.read.ensures.write_faults more rose c.in-Err-Failed.ensures.end

pub returns-in-Err-NoMemory-clause-goes_on : goal.returns-in-Err-NoMemory-clause-goes_on
returns-in-Err-NoMemory-clause-goes_on g c start is u =
    let old = g.L.Link.facts c.args.link.now in
    let link = g.L.Link.facts c.read.new.self in
    let course = c.args.course.now in
    let more : ending_of (stand_by course.ear.place.due course.ear.place.count course.ear.at course.ear.held.items) ≡ More = ap (λ d. ending_of (stand_by d course.ear.place.count course.ear.at course.ear.held.items)) c.requires.due in
    let same = subst (λ (x : Fault). CountsCause old.read_faults link.read_faults x) c.in-Err-NoMemory.field-0-is c.in-Err-NoMemory.ensures.cause in
    ends_unread start (now_of course c.args.pass.now old) u link (keeps_none old.left link.left c.in-Err-NoMemory.ensures.bytes) (still old.taken link.taken c.in-Err-NoMemory.ensures.taken) c.read.ensures.held c.read.ensures.write_faults more same c.in-Err-NoMemory.ensures.end

pub returns-in-Ok-eq0-clause-goes_on : goal.returns-in-Ok-eq0-clause-goes_on
returns-in-Ok-eq0-clause-goes_on g c start is u =
    let old = g.L.Link.facts c.args.link.now in
    let link = g.L.Link.facts c.read.new.self in
    let course = c.args.course.now in
    let more : ending_of (stand_by course.ear.place.due course.ear.place.count course.ear.at course.ear.held.items) ≡ More = ap (λ d. ending_of (stand_by d course.ear.place.count course.ear.at course.ear.held.items)) c.requires.due in
    let e : c.in-Ok-eq0.field-0 ≡ 0 = c.in-Ok-eq0.field-0-test in
    let left : Consumes old.left link.left [] = subst (λ (n : ℕ). Consumes old.left link.left (take n c.read.new.buf)) e c.in-Ok-eq0.ensures.bytes.0 in
    let taken : Extends old.taken link.taken [] = subst (λ (n : ℕ). Extends old.taken link.taken (take n c.read.new.buf)) e c.in-Ok-eq0.ensures.taken in
    ends_early start (now_of course c.args.pass.now old) u link left taken c.read.ensures.held c.read.ensures.write_faults more c.in-Ok-eq0.ensures.cause
    (record { never_falls = c.in-Ok-eq0.ensures.end.never_falls; rose = c.in-Ok-eq0.ensures.end.at_end e (omega (arith, c.requires.room, c.read.auto.buf)) })

pub returns-in-Ok-clause-goes_on : goal.returns-in-Ok-clause-goes_on
returns-in-Ok-clause-goes_on g c start is u =
    let some_read : 0 < c.in-Ok.n = omega arith in
    c.take_piece.ensures.goes_on start (g.L.Link.facts c.args.link.now) (g.L.Link.facts c.read.new.self) (record { by_rules = is.by_rules; in_namespace = is.in_namespace; in_area = is.in_area; at_once = refl })
    (simp (length-take) (omega (arith, c.in-Ok.ensures.at_most, is.at_once))) u
    (record { left = c.in-Ok.ensures.bytes.0; taken = c.in-Ok.ensures.taken; held = c.read.ensures.held; reads = c.in-Ok.ensures.cause; writes = c.read.ensures.write_faults; ends = c.in-Ok.ensures.end.gave_some some_read })

pub take_piece-requires-clause-some : goal.take_piece-requires-clause-some
take_piece-requires-clause-some g c κs within = simp (length-take) (omega (arith, within))
