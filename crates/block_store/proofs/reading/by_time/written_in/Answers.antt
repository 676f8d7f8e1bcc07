use Rattle.std.proofs.Common.{◌≡◌, ◌-◌, true, false, length, take, take_all, drop, Some, None, sym, ap, ◌∙◌, subst, arith}
use Rattle.std.specs.Prelude.{nat_lt}
use Rattle.std.specs.List.Sorted.{IsPartitionPoint}
use Rattle.std.proofs.lemmas.List.{length-drop}
use Rattle.block_store.specs.Blocks.{block_values}
use Rattle.block_store.specs.ByTime.{time_at}
use Rattle.block_store.proofs.ByTime.{from_start, no_end, up_to_end}
use Rattle.block_store.proofs.reading.by_time.written_in.Goals as goal

pub returns-in-Some : goal.returns-in-Some
returns-in-Some g c =
    let time = time_at (block_values g.R.Row.value c.args.listing.now.pieces.items) in
    let times = c.args.area.now.times in
    let ats = c.args.ats.now in
    let low = c.written_before.result in
    let high = c.written_before-in-Some.result in
    let end = c.in-Some.end in
    let whole : take (length ats - low) (drop low ats) ≡ drop low ats = take_all (length ats - low) (drop low ats) (omega (arith, length-drop low ats)) in
    let point : IsPartitionPoint (λ at. nat_lt (time at) times.start ≡ true) (λ at. nat_lt (time at) times.start ≡ false) ats low =
    subst (λ s. IsPartitionPoint (λ at. nat_lt (time at) s ≡ true) (λ at. nat_lt (time at) s ≡ false) ats low) (c.start.ensures.start ∙ ap (λ t. t.start) c.times-times.ensures.times) c.written_before.ensures.point in
    let last : IsPartitionPoint (λ at. nat_lt (time at) end ≡ true) (λ at. nat_lt (time at) end ≡ false) (drop low ats) high =
    subst (λ l. IsPartitionPoint (λ at. nat_lt (time at) end ≡ true) (λ at. nat_lt (time at) end ≡ false) l high) whole c.written_before-in-Some.ensures.point in
    let stop : times.end ≡ Some end = ap (λ t. t.end) (sym c.times-times.ensures.times) ∙ sym c.in-Some.ensures.end in
    ap (take high) whole ∙ sym (up_to_end times time end stop ats low high point last (omega (arith, c.written_before-in-Some.ensures.bound, ap length whole))) ∙ from_start times time ats low point

pub returns-in-None : goal.returns-in-None
returns-in-None g c =
    let time = time_at (block_values g.R.Row.value c.args.listing.now.pieces.items) in
    let times = c.args.area.now.times in
    let ats = c.args.ats.now in
    let low = c.written_before.result in
    let whole : take (length ats - low) (drop low ats) ≡ drop low ats = take_all (length ats - low) (drop low ats) (omega (arith, length-drop low ats)) in
    let point : IsPartitionPoint (λ at. nat_lt (time at) times.start ≡ true) (λ at. nat_lt (time at) times.start ≡ false) ats low =
    subst (λ s. IsPartitionPoint (λ at. nat_lt (time at) s ≡ true) (λ at. nat_lt (time at) s ≡ false) ats low) (c.start.ensures.start ∙ ap (λ t. t.start) c.times-times.ensures.times) c.written_before.ensures.point in
    let stop : times.end ≡ None = ap (λ t. t.end) (sym c.times-times.ensures.times) ∙ sym c.in-None.ensures.end in
    whole ∙ sym (no_end times time stop ats low point) ∙ from_start times time ats low point
