use Rattle.std.proofs.Common.{◌≡◌, ℕ, map, sym, ap, ◌∙◌, subst, nat_cmp}
use Rattle.std.specs.Prelude.{IfOk}
use Rattle.std.specs.List.Sorted.{IsPermutation}
use Rattle.willow_area.specs.declared.cut.CutAt.{CutAt}
use Rattle.willow_area.specs.declared.cut.CutAt.TheVariants as cuts
use Rattle.block_store.specs.InBox.{rows_in}
use Rattle.range_split.specs.Quarters.{cuts_of, cuts_among, timestamps_of}
use Rattle.range_split.proofs.Timely.{sorted_is}
use Rattle.range_split.proofs.even.time_points.Goals as goal

pub returns : goal.returns
returns g c =
    let values = timestamps_of (rows_in c.args.area.now (map g.R.Row.value c.args.snapshot.now)) in
    let xs = c.sort_unstable.new.self.items in
    let moved : IsPermutation values xs = subst (λ l. IsPermutation l xs) c.in_ok-times.ensures.times c.sort_unstable.ensures.permutation in
    let all : cuts_of nat_cmp c.deref.result.now ≡ cuts_among nat_cmp values = ap (cuts_of nat_cmp) (c.deref.ensures.value ∙ sym (sorted_is values xs moved c.sort_unstable.ensures.sorted)) in
    let make : ℕ → CutAt = λ x. cuts.Time x in
    subst (λ l. IfOk c.points_of.result (λ points. points ≡ map make l)) all c.points_of.ensures
