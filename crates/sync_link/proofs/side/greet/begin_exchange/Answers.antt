use Rattle.std.proofs.Common.{map, Option, subst}
use Rattle.willow_area.specs.Boxes.{Ranges}
use Rattle.sync_link.specs.Talking.{AreOffered}
use Rattle.sync_link.proofs.Agreeing.{begun_offered}
use Rattle.sync_link.proofs.side.greet.begin_exchange.Goals as goal

pub returns : goal.returns
returns g c =
    let value = g.R.Row.value in
    let participant = c.args.participant.now in
    let rows = map value c.in_ok-rows.rows in
    begun_offered value participant c.args.other.now rows c.in_ok-area.area c.begin_over.result c.args.out.now.items c.begin_over.new.out.items
    (subst (λ (x : Option Ranges). AreOffered participant.interest x (map value participant.snapshot) rows) c.in_ok-area.ensures.boxed c.in_ok-rows.ensures)
    c.in_ok-area.ensures.area c.begin_over.ensures.begins c.begin_over.ensures.area

pub begin_over-requires-clause-rows : goal.begin_over-requires-clause-rows
begin_over-requires-clause-rows g c = c.in_ok-rows.ensures.sound
