use Rattle.std.proofs.Common.{inl, inr, ◌+◌, ◌<◌, length, take, sym, ap, ap₂, ◌∙◌, arith}
use Rattle.std.proofs.lemmas.Bool.{cases_eq}
use Rattle.std.proofs.lemmas.List.{length-append}
use Rattle.lane_sum.specs.Totals.{sum_of, total_by}
use Rattle.lane_sum.proofs.TotalLaws.{total_joined}
use Rattle.block_store.specs.Blocks.{block_values}
use Rattle.block_store.specs.Fingerprint.{row_bytes}
use Rattle.block_store.specs.Held.{rows_of}
use Rattle.block_store.specs.InBox.{rows_in}
use Rattle.block_store.specs.Starts.{values_at}
use Rattle.block_store.proofs.BlockRuns.{none_in_front, all_in_front, in_more, at_more}
use Rattle.block_store.proofs.Pieces.{values_long}
use Rattle.block_store.proofs.Spans.{front_short}
use Rattle.block_store.proofs.Spots.{starts_rise}
use Rattle.block_store.proofs.reading.fingerprint.total_in.Goals as goal

pub loop-i-init : goal.loop-i-init
loop-i-init g c = record {
  added = c.zero-total.ensures ∙ ap (total_by row_bytes) (sym (none_in_front g.R.Row.value c.args.area.now c.args.listing.now.pieces.items c.run_of-run.result c.run_of-run.ensures.run));
  each = omega arith;
  none = λ exact le. omega arith;
  one = λ exact le. omega arith;
  two = λ exact. omega arith;
}

pub loop-i-preserved : goal.loop-i-preserved
loop-i-preserved g c =
    let value = g.R.Row.value in
    let area = c.args.area.now in
    let pieces = c.args.listing.now.pieces.items in
    let run = c.run_of-run.result in
    let i = c.loop-i.i in
    let within : i < length pieces = omega (arith, c.block_behind-i-end.ensures.within) in
    let long = ap length (at_more value pieces i within) in
    let before = c.loop-i.invariant in
    let step = c.total_at-part.ensures in
    record {
      added = c.add-total.ensures.sum ∙ ap₂ sum_of before.added step.total
          ∙ total_joined row_bytes (rows_in area (block_values value (take i pieces))) (rows_in area (values_at value pieces i)) ∙ ap (total_by row_bytes) (sym (in_more value area pieces i within));
      each = omega (arith, before.each, step.steps, long, length-append (block_values value (take i pieces)) (values_at value pieces i), values_long value (take i pieces), values_long value (take (i + 1) pieces));
      none = λ exact le. absurd (omega (arith, c.loop-i.auto.i));
      one = λ exact le. elim (cases_eq i run.from.block) [
        | inl e ↦ omega (arith, before.none exact (omega (arith, e)), step.few)
        | inr ne ↦ omega (arith, before.one exact (omega arith), step.none exact (omega (arith, ne, c.loop-i.auto.i)) (omega arith))
      ];
      two = λ exact. elim (cases_eq i run.to.block) [
        | inl e ↦ omega (arith, before.one exact (omega (arith, e)), step.few)
        | inr ne ↦ elim (cases_eq i run.from.block) [
          | inl e ↦ omega (arith, before.none exact (omega (arith, e)), step.few)
          | inr other ↦ omega (arith, before.two exact, step.none exact (omega (arith, other, c.loop-i.auto.i)) (omega (arith, ne, c.block_behind-i-end.ensures.next)))
        ]
      ];
    }

pub returns-clause-total : goal.returns-clause-total
returns-clause-total g c =
    let pieces = c.args.listing.now.pieces.items in
    c.loop-i.invariant.added ∙ ap (total_by row_bytes) (all_in_front g.R.Row.value c.args.area.now pieces c.run_of-run.result c.run_of-run.ensures.run c.loop-i.i
    (omega (arith, c.block_behind-i-end.ensures.behind, starts_rise pieces c.block_behind-i-end.result c.loop-i.i c.loop-i-test.false)))

pub returns-clause-steps : goal.returns-clause-steps
returns-clause-steps g c = omega (arith, c.loop-i.invariant.each, front_short (λ q. rows_of q.block.value.rows.items) c.args.listing.now.pieces.items c.loop-i.i)
