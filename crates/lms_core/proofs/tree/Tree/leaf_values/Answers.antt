use Rattle.std.proofs.Common.{◌≡◌, ℕ, ◌+◌, ◌-◌, ◌<◌, ◌∙◌, map, ap, arith}
use Rattle.std.specs.List.{range_with_len}
use Rattle.std.proofs.lemmas.Slice.Zip.{AllZip-map}
use Rattle.rayon.specs.Numbers.{nat_range}
use Rattle.rayon.proofs.ToStd.{nat_range-All}
use Rattle.lms_core.specs.Accepts.{leaves}
use Rattle.lms_core.specs.Signer.{node_value}
use Rattle.lms_core.specs.KnownTrees.{leaf_values}
use Rattle.lms_core.proofs.tree.Tree.leaf_values.Goals as goal

pub collect-requires-clause-ready : goal.collect-requires-clause-ready
collect-requires-clause-ready g c κs within =
    let ends = c.into_par_iter.ensures in
    let inside = nat_range-All (λ i. i < leaves c.args.self.now.height) 0 (leaves c.args.self.now.height) (λ i low high. high) in
    rw (c.map.ensures.base, c.with_min_len.ensures.base, c.map.ensures.f, ends.0, ends.1, c.leaves.ensures.value) (λ k d lt. (inside k d lt, λ y p. tt))

pub returns : goal.returns
unfolding leaf_values
returns g c =
    let t = c.args.self.now in
    let n = leaves t.height in
    let ends = c.into_par_iter.ensures in
    let value = λ (q : ℕ). node_value t.height t.identifier t.seed 0 (n + q) in
    let whole : n - 0 ≡ n = omega arith in
    let values = c.in_ok-values.ensures in
    let chain = rw (c.map.ensures.base, c.with_min_len.ensures.base, c.map.ensures.f) at values.1 in
    let places = chain.1 ∙ (λ i. nat_range (ends.0 i) ((ends.1 ∙ c.leaves.ensures.value) i)) ∙ ap (range_with_len 0) whole in
    values.2 ∙ AllZip-map value chain.0 values.0 chain.2 ∙ ap (map value) places
