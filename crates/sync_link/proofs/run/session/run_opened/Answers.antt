use Rattle.std.proofs.Common.{◌≡◌, None, ◌∙◌}
use Rattle.sync_link.specs.UnderWay.{now_of}
use Rattle.sync_link.proofs.AskedFor.{acts_as, unsigned_or_owes}
use Rattle.sync_link.proofs.LinkEnds.{done, stored_few}
use Rattle.sync_link.proofs.run.session.run_opened.Goals as goal

pub report-requires-clause-few : goal.report-requires-clause-few
report-requires-clause-few g c κs within =
    let begun = c.requires.begun in
    let talk = c.talk-ended.new in
    stored_few begun.0 (now_of g.S.Verify.rules talk.session talk.pass (g.L.Link.facts talk.link) (g.K.Signer.left talk.signer) (g.K.Signer.faults talk.signer)) (c.in-Ok.ensures.goes_on begun.0 begun.1.0 begun.1.1)

pub returns-in-Ok-clause-ends : goal.returns-in-Ok-clause-ends
returns-in-Ok-clause-ends g c start opened is u =
    let talk = c.talk-ended.new in
    let told = c.report.ensures in
    let now = now_of g.S.Verify.rules talk.session talk.pass (g.L.Link.facts talk.link) (g.K.Signer.left talk.signer) (g.K.Signer.faults talk.signer) in
    let way = c.in-Ok.ensures.goes_on start is u in
    acts_as c.in-Ok.ensures.asking.unasked
    (done start now way (now.progress.side.signature ≡ None) (unsigned_or_owes start now.progress way.bytes way.written way.rows way.reached) c.report.result c.in-Ok.ensures.done c.in-Ok.ensures.kept
    (told.log.0 ∙ opened) told.log.1 told.rows.0 told.rows.1 told.refused.0 told.refused.1 (told.items.0 ∙ c.items-counted.ensures.sent) (told.items.1 ∙ c.items-counted.ensures.read) (told.area ∙ c.into_area-area.ensures))

pub returns-in-Err-clause-ends : goal.returns-in-Err-clause-ends
returns-in-Err-clause-ends g c start opened is u = c.in-Err.ensures.goes_on start is u
