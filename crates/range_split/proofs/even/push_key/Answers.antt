use Rattle.std.proofs.Common.{◌++◌, map, refl, sym, ap, ◌∙◌}
use Rattle.std.proofs.lemmas.List.{append-nil}
use Rattle.willow_area.specs.declared.cut.CutAt.TheVariants as cuts
use Rattle.willow_entry.specs.Entry.{bytes_cmp}
use Rattle.sync_msg.proofs.OneDimension.{one_more_of}
use Rattle.range_split.proofs.Pointing.{distinct_taken, distinct_left}
use Rattle.range_split.proofs.even.push_key.Goals as goal

pub push-requires-clause-one : goal.push-requires-clause-one
push-requires-clause-one c = one_more_of 0 c.args.points.now (cuts.Subspace c.args.key) c.requires.keys refl

pub returns-in_ok-push-clause-points : goal.returns-in_ok-push-clause-points
returns-in_ok-push-clause-points c =
    c.in_ok-push.ensures.added
    ∙ ap (λ l. c.args.points.now ++ map (λ x. cuts.Subspace x) l) (sym (distinct_taken bytes_cmp c.args.low c.args.key (sym c.is_above.ensures ∙ c.if-is_above.true)))

pub returns-else-is_above-clause-points : goal.returns-else-is_above-clause-points
returns-else-is_above-clause-points c =
    sym (append-nil c.args.points.now)
    ∙ ap (λ l. c.args.points.now ++ map (λ x. cuts.Subspace x) l) (sym (distinct_left bytes_cmp c.args.low c.args.key (sym c.is_above.ensures ∙ c.if-is_above.false)))
