use Rattle.std.proofs.Common.{◌≡◌, ◌<◌, ◌++◌, length, take, drop, sym, ap, ap₂, ◌∙◌, subst, arith}
use Rattle.willow_entry.specs.Row.{IsRising}
use Rattle.block_store.specs.Blocks.{block_values}
use Rattle.block_store.specs.Held.{values_of}
use Rattle.block_store.specs.InBox.{is_in, rows_in}
use Rattle.block_store.specs.Positions.{positions_from, positions}
use Rattle.block_store.specs.Starts.{values_at}
use Rattle.block_store.proofs.BlockRuns.{none_in_front, all_in_front, at_more}
use Rattle.block_store.proofs.Pieces.{values_long}
use Rattle.block_store.proofs.Spans.{cut_at}
use Rattle.block_store.proofs.Spots.{starts_rise}
use Rattle.block_store.proofs.Walking.{from-none, positions-with, positions-upto}
use Rattle.block_store.proofs.reading.walk.positions_in.Goals as goal

pub loop-i-init : goal.loop-i-init
loop-i-init g c =
    let value = g.R.Row.value in
    let area = c.args.area.now in
    let pieces = c.args.listing.now.pieces.items in
    let run = c.run_of-run.result in
    c.new-found.ensures.items ∙ sym (from-none (is_in area) 0 (block_values value (take run.from.block pieces)) (none_in_front value area pieces run c.run_of-run.ensures.run))

pub note_block-requires-clause-few : goal.note_block-requires-clause-few
note_block-requires-clause-few g c = omega (arith, c.start.ensures, c.block.ensures.few)

pub note_block-requires-clause-rising : goal.note_block-requires-clause-rising
note_block-requires-clause-rising g c = subst IsRising (sym c.block.ensures.rows) c.block.ensures.rising

pub loop-i-preserved : goal.loop-i-preserved
loop-i-preserved g c =
    let value = g.R.Row.value in
    let test = is_in c.args.area.now in
    let pieces = c.args.listing.now.pieces.items in
    let i = c.loop-i.i in
    let within : i < length pieces = omega (arith, c.block_behind-i-end.ensures.within) in
    let front = block_values value (take i pieces) in
    let here = values_at value pieces i in
    let start : c.start.result ≡ length front = c.start.ensures ∙ sym (values_long value (take i pieces)) in
    c.in_ok-note_block.ensures ∙ ap₂ (λ l m. l ++ m) c.loop-i.invariant (ap₂ (λ n l. positions_from test n l) start c.block.ensures.rows)
    ∙ sym (positions-with test front here) ∙ ap (positions test) (sym (at_more value pieces i within))

pub returns : goal.returns
returns g c =
    let value = g.R.Row.value in
    let area = c.args.area.now in
    let test = is_in area in
    let pieces = c.args.listing.now.pieces.items in
    let i = c.loop-i.i in
    let cut = cut_at (λ p. values_of value p.block.value.rows.items) pieces i in
    let all = all_in_front value area pieces c.run_of-run.result c.run_of-run.ensures.run i
    (omega (arith, c.block_behind-i-end.ensures.behind, starts_rise pieces c.block_behind-i-end.result i c.loop-i-test.false)) in
    c.loop-i.invariant ∙ positions-upto test (block_values value (take i pieces)) (block_values value (drop i pieces)) (all ∙ ap (rows_in area) cut) ∙ ap (positions test) (sym cut)
