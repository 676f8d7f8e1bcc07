use Rattle.std.proofs.Common.{◌≡◌, ◌<◌, ℕ, take, [], refl, subst, arith}
use Rattle.std.proofs.lemmas.List.{length-take}
use Rattle.std.specs.Io.KnownBytes.{Consumes}
use Rattle.willow_outside.specs.Told.{Extends}
use Rattle.willow_outside.specs.Counts.{CountsCause}
use Rattle.willow_outside.specs.declared.fault.Fault.{Fault}
use Rattle.sync_link.specs.UnderWay.{IsStill, now_of}
use Rattle.sync_link.proofs.AskedFor.{still_or_owes}
use Rattle.sync_link.proofs.LinkEnds.{closed_early, read_failed, read_unkept, keeps_none, still}
use Rattle.sync_link.proofs.Talked.{is_now}
use Rattle.sync_link.proofs.run.piece.hear_piece.Goals as goal

pub returns-in-Err-Failed-clause-goes_on : goal.returns-in-Err-Failed-clause-goes_on
returns-in-Err-Failed-clause-goes_on g c start is u =
    let old = g.L.Link.facts c.args.link.now in
    let link = g.L.Link.facts c.read.new.self in
    let now = now_of g.S.Verify.rules c.args.session.now c.args.pass.now old (g.K.Signer.left c.args.signer.now) (g.K.Signer.faults c.args.signer.now) in
    let rose = subst (λ (x : Fault). CountsCause old.read_faults link.read_faults x) c.in-Err-Failed.field-0-is c.in-Err-Failed.ensures.cause in
    read_failed start now u (IsStill now.progress.side.signature c.args.signer.now c.args.signer.now) (still_or_owes start now.progress u.bytes u.written u.rows u.reached c.args.signer.now) link (keeps_none old.left link.left c.in-Err-Failed.ensures.bytes) (still old.taken link.taken c.in-Err-Failed.ensures.taken) c.read.ensures.held c.requires.open rose c.read.ensures.write_faults c.in-Err-Failed.ensures.end

pub returns-in-Err-NoMemory-clause-goes_on : goal.returns-in-Err-NoMemory-clause-goes_on
returns-in-Err-NoMemory-clause-goes_on g c start is u =
    let old = g.L.Link.facts c.args.link.now in
    let link = g.L.Link.facts c.read.new.self in
    let now = now_of g.S.Verify.rules c.args.session.now c.args.pass.now old (g.K.Signer.left c.args.signer.now) (g.K.Signer.faults c.args.signer.now) in
    let more = subst (λ (x : Fault). CountsCause old.read_faults link.read_faults x) c.in-Err-NoMemory.field-0-is c.in-Err-NoMemory.ensures.cause in
    read_unkept start now u (IsStill now.progress.side.signature c.args.signer.now c.args.signer.now) (still_or_owes start now.progress u.bytes u.written u.rows u.reached c.args.signer.now) link (keeps_none old.left link.left c.in-Err-NoMemory.ensures.bytes) (still old.taken link.taken c.in-Err-NoMemory.ensures.taken) c.read.ensures.held more c.read.ensures.write_faults c.in-Err-NoMemory.ensures.end

pub returns-in-Ok-eq0-clause-goes_on : goal.returns-in-Ok-eq0-clause-goes_on
returns-in-Ok-eq0-clause-goes_on g c start is u =
    let old = g.L.Link.facts c.args.link.now in
    let link = g.L.Link.facts c.read.new.self in
    let now = now_of g.S.Verify.rules c.args.session.now c.args.pass.now old (g.K.Signer.left c.args.signer.now) (g.K.Signer.faults c.args.signer.now) in
    let e : c.in-Ok-eq0.field-0 ≡ 0 = c.in-Ok-eq0.field-0-test in
    let left : Consumes old.left link.left [] = subst (λ (n : ℕ). Consumes old.left link.left (take n c.read.new.buf)) e c.in-Ok-eq0.ensures.bytes.0 in
    let taken : Extends old.taken link.taken [] = subst (λ (n : ℕ). Extends old.taken link.taken (take n c.read.new.buf)) e c.in-Ok-eq0.ensures.taken in
    closed_early start now u (IsStill now.progress.side.signature c.args.signer.now c.args.signer.now) (still_or_owes start now.progress u.bytes u.written u.rows u.reached c.args.signer.now) link left taken c.read.ensures.held c.requires.open c.in-Ok-eq0.ensures.cause c.read.ensures.write_faults
    (record { never_falls = c.in-Ok-eq0.ensures.end.never_falls; rose = c.in-Ok-eq0.ensures.end.at_end e (omega (arith, c.requires.room, c.read.auto.buf)) })

pub returns-in-Ok-clause-goes_on : goal.returns-in-Ok-clause-goes_on
returns-in-Ok-clause-goes_on g c start is u =
    let old = g.L.Link.facts c.args.link.now in
    let some_read : 0 < c.in-Ok.n = omega arith in
    let now = is_now start g.S.Verify.rules c.args.cell.now.namespace (g.K.Signer.gives c.args.signer.now) (g.K.Signer.gives c.args.signer.now) (g.L.Link.most c.args.link.now) (g.L.Link.most c.read.new.self) refl c.read.ensures.same_most is in
    c.take_piece.ensures.goes_on start old now u
    (record { left = c.in-Ok.ensures.bytes.0; taken = c.in-Ok.ensures.taken; held = c.read.ensures.held; reads = c.in-Ok.ensures.cause; writes = c.read.ensures.write_faults; ends = c.in-Ok.ensures.end.gave_some some_read })

pub take_piece-requires-clause-piece : goal.take_piece-requires-clause-piece
take_piece-requires-clause-piece g c κs within = (simp (length-take) (omega (arith, within)), simp (length-take) (omega (arith, within, c.in-Ok.ensures.at_most, c.read.ensures.same_most)))

pub take_piece-requires-clause-open : goal.take_piece-requires-clause-open
take_piece-requires-clause-open g c κs within = c.requires.open
