use Rattle.std.proofs.Common.{◌+◌, subst, ap, ◌∙◌, length, get_or, arith}
use Rattle.willow_entry.specs.Row.{IsRising}
use Rattle.willow_entry.proofs.Live.{live-rises}
use Rattle.block_store.specs.Blocks.{block_values}
use Rattle.block_store.specs.Held.{values_of, rows_of}
use Rattle.std.proofs.lemmas.List.{length-map}
use Rattle.block_store.proofs.BlockRuns.{read_is, at_rises}
use Rattle.block_store.proofs.Spans.{front_short}
use Rattle.block_store.proofs.Spots.{next_start}
use Rattle.block_store.proofs.reading.listing.Listing.block.Goals as goal

pub returns-clause-rows : goal.returns-clause-rows
returns-clause-rows g c = ap (λ b. values_of g.R.Row.value b.rows.items) c.deref.ensures ∙ read_is g.R.Row.value c.args.self.now.pieces.items c.args.i c.index.result.now c.requires c.index.ensures

pub returns-clause-rising : goal.returns-clause-rising
returns-clause-rising g c =
    let rows = block_values g.R.Row.value c.args.self.now.pieces.items in
    at_rises g.R.Row.value c.args.self.now.pieces.items c.args.i c.requires (subst IsRising c.args.self.now.live (live-rises rows))

pub returns-clause-few : goal.returns-clause-few
returns-clause-few g c =
    let pieces = c.args.self.now.pieces.items in
    let here = ap (λ b. length b.rows.items) (c.deref.ensures ∙ ap (λ q. q.block.value) c.index.ensures) in
    omega (
      arith,
      here,
      next_start pieces c.args.i c.index.result.now c.requires,
      front_short (λ q. rows_of q.block.value.rows.items) pieces (c.args.i + 1),
      length-map (get_or pieces c.args.i c.index.result.now).block.value.rows.items (λ a. a.value),
      c.args.self.now.few,
    )
