use Rattle.std.proofs.Common.{◌≡◌, ◌+◌, ◌<◌, length, take, drop, slice_get, refl, sym, ap, ap₂, ◌∙◌, subst, arith}
use Rattle.std.proofs.lemmas.List.{length-append}
use Rattle.std.specs.Option.{option_map}
use Rattle.willow_entry.specs.Row.{IsRising}
use Rattle.block_store.specs.Blocks.{block_values}
use Rattle.block_store.specs.Held.{values_of}
use Rattle.block_store.specs.InBox.{is_in, rows_in}
use Rattle.block_store.specs.Positions.{positions}
use Rattle.block_store.specs.Starts.{values_at}
use Rattle.block_store.proofs.BlockRuns.{none_in_front, all_in_front, in_more, at_between}
use Rattle.block_store.proofs.Numbering.{none_there}
use Rattle.block_store.proofs.Pieces.{values_long}
use Rattle.block_store.proofs.Spans.{nth_between}
use Rattle.block_store.proofs.Spots.{starts_rise}
use Rattle.block_store.proofs.reading.boxes.nth_by_blocks.Goals as goal

pub loop-i-init : goal.loop-i-init
loop-i-init g c = omega (arith, ap length (none_in_front g.R.Row.value c.args.area.now c.args.listing.now.pieces.items c.args.run.now c.requires))

pub count_in_block-count-requires : goal.count_in_block-count-requires
count_in_block-count-requires g c = subst IsRising (sym c.block-block.ensures.rows) c.block-block.ensures.rising

pub nth_in_block-requires : goal.nth_in_block-requires
nth_in_block-requires g c = omega (arith, c.start.ensures, c.block-block.ensures.few, ap length c.deref.ensures.value)

pub returns-then-left-count : goal.returns-then-left-count
returns-then-left-count g c =
    let value = g.R.Row.value in
    let area = c.args.area.now in
    let test = is_in area in
    let pieces = c.args.listing.now.pieces.items in
    let i = c.loop-i.i in
    let within : i < length pieces = omega (arith, c.block_behind-i-end.ensures.within) in
    let front = block_values value (take i pieces) in
    let here = values_at value pieces i in
    let behind = block_values value (drop (i + 1) pieces) in
    let rows = ap (values_of value) c.deref.ensures.value ∙ c.block-block.ensures.rows in
    let start : c.start.result ≡ length front = c.start.ensures ∙ sym (values_long value (take i pieces)) in
    let fits : c.loop-i.left < length (rows_in area here) = subst (λ n. c.loop-i.left < n) (c.count_in_block-count.ensures ∙ ap (λ l. length (rows_in area l)) c.block-block.ensures.rows) c.if-left-count.true in
    c.nth_in_block.ensures
    ∙ ap₂ (λ n l. option_map (λ at. n + at) (slice_get (positions test l) c.loop-i.left)) start rows
    ∙ sym (nth_between test front here behind (length (rows_in area front)) c.loop-i.left c.args.n refl c.loop-i.invariant fits)
    ∙ ap (λ l. slice_get (positions test l) c.args.n) (sym (at_between value pieces i within))

pub loop-i-preserved : goal.loop-i-preserved
loop-i-preserved g c =
    let area = c.args.area.now in
    let pieces = c.args.listing.now.pieces.items in
    let here = c.count_in_block-count.ensures ∙ ap (λ l. length (rows_in area l)) c.block-block.ensures.rows in
    let more = ap length (in_more g.R.Row.value area pieces c.loop-i.i (omega (arith, c.block_behind-i-end.ensures.within))) in
    omega (arith, here, more, c.loop-i.invariant, length-append (rows_in area (block_values g.R.Row.value (take c.loop-i.i pieces))) (rows_in area (values_at g.R.Row.value pieces c.loop-i.i)))

pub returns : goal.returns
returns g c =
    let pieces = c.args.listing.now.pieces.items in
    let all = ap length (all_in_front g.R.Row.value c.args.area.now pieces c.args.run.now c.requires c.loop-i.i
    (omega (arith, c.block_behind-i-end.ensures.behind, starts_rise pieces c.block_behind-i-end.result c.loop-i.i c.loop-i-test.false))) in
    sym ((none_there (is_in c.args.area.now) (block_values g.R.Row.value pieces) c.args.n).1 (omega (arith, all, c.loop-i.invariant)))
