use Rattle.std.proofs.Common.{◌++◌, map, refl, sym, ap, ◌∙◌, nat_cmp}
use Rattle.std.proofs.lemmas.List.{append-nil}
use Rattle.willow_area.specs.declared.cut.CutAt.TheVariants as cuts
use Rattle.sync_msg.proofs.OneDimension.{one_more_of}
use Rattle.range_split.proofs.Pointing.{distinct_taken, distinct_left, time_above, time_not_above}
use Rattle.range_split.proofs.even.push_time.Goals as goal

pub push-requires-clause-one : goal.push-requires-clause-one
push-requires-clause-one c = one_more_of 2 c.args.points.now (cuts.Time c.args.time) c.requires.times refl

pub returns-in_ok-push-clause-points : goal.returns-in_ok-push-clause-points
returns-in_ok-push-clause-points c =
    c.in_ok-push.ensures.added
    ∙ ap (λ l. c.args.points.now ++ map (λ x. cuts.Time x) l) (sym (distinct_taken nat_cmp c.args.low c.args.time (time_above c.args.low c.args.time c.if-time-low.true)))

pub returns-else-time-low-clause-points : goal.returns-else-time-low-clause-points
returns-else-time-low-clause-points c =
    sym (append-nil c.args.points.now)
    ∙ ap (λ l. c.args.points.now ++ map (λ x. cuts.Time x) l) (sym (distinct_left nat_cmp c.args.low c.args.time (time_not_above c.args.low c.args.time c.if-time-low.false)))
