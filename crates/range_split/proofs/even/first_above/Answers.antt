use Rattle.std.proofs.Common.{◌+◌, get_or, drop, take, sym, ap, ◌∙◌, nat_cmp}
use Rattle.std.proofs.lemmas.List.{drop_all}
use Rattle.std.proofs.lemmas.Option.{slice_get-get_or}
use Rattle.range_split.specs.Quarters.{distinct_above}
use Rattle.range_split.proofs.Pointing.{distinct_first, distinct_skips, drop_one, none_above, time_above, time_not_above}
use Rattle.range_split.proofs.even.first_above.Goals as goal

pub returns-then-time-low : goal.returns-then-time-low
returns-then-time-low c =
    let times = c.args.times.now in
    let i = c.loop-time.time-index in
    let time = get_or times i 0 in
    let there = drop_one times i time (slice_get-get_or times i 0 c.loop-time-test.true) in
    sym (ap (take 1) (sym c.loop-time.invariant ∙ ap (distinct_above nat_cmp c.args.low) there) ∙ distinct_first nat_cmp c.args.low time (drop (i + 1) times) (time_above c.args.low time c.if-time-low.true))

pub loop-time-preserved : goal.loop-time-preserved
loop-time-preserved c =
    let times = c.args.times.now in
    let i = c.loop-time.time-index in
    let time = get_or times i 0 in
    let there = drop_one times i time (slice_get-get_or times i 0 c.loop-time-test.true) in
    sym (distinct_skips nat_cmp c.args.low time (drop (i + 1) times) (time_not_above c.args.low time c.if-time-low.false)) ∙ sym (ap (distinct_above nat_cmp c.args.low) there) ∙ c.loop-time.invariant

pub returns : goal.returns
returns c =
    sym (ap (take 1) (sym c.loop-time.invariant ∙ ap (distinct_above nat_cmp c.args.low) (drop_all c.loop-time.time-index c.args.times.now c.loop-time-test.false) ∙ none_above nat_cmp c.args.low))
