use Rattle.std.proofs.Common.{◌<◌, inl, inr, sym, ap, ◌∙◌, arith}
use Rattle.willow_area.specs.Times.{ends_by}
use Rattle.block_store.specs.Held.{values_of}
use Rattle.block_store.proofs.Outside.{none_written_in}
use Rattle.block_store.proofs.reading.boxes.is_apart.Goals as goal

pub returns-then-block-start : goal.returns-then-block-start
returns-then-block-start g c = λ _.
    let block = c.args.block.now in
    let area = c.args.area.now in
    let early : block.latest < area.times.start = omega (arith, c.if-block-start.true, c.start.ensures.start, ap (λ t. t.start) c.times-times.ensures.times) in
    none_written_in area (values_of g.R.Row.value block.rows.items) block.earliest block.latest block.timed (inl early)

pub returns : goal.returns
returns g c = λ h.
    let block = c.args.block.now in
    let area = c.args.area.now in
    none_written_in area (values_of g.R.Row.value block.rows.items) block.earliest block.latest block.timed
    (inr (ap (λ t. ends_by t.end block.earliest) (sym c.times-times.ensures.times) ∙ sym c.end_by.ensures ∙ h))
