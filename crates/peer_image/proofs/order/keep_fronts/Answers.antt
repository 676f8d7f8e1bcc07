use Rattle.std.proofs.Common.{map, ap, ◌∙◌, rules}
use Rattle.std.proofs.lemmas.Fn.{filter_same}
use Rattle.peer_image.specs.Fronts.{is_at_inner_prefix, seen}
use Rattle.peer_image.proofs.Filtered.{map-filter}
use Rattle.peer_image.proofs.order.keep_fronts.Goals as goal

pub returns : goal.returns
returns g c =
    let value = g.R.Row.value in
    let r = value c.args.row.now in
    ap (map (seen value)) (filter_same _ (λ f. is_at_inner_prefix (value f.row.now) r) _ (λ f b q k. search rules) _ _ c.retain.ensures.filtered)
    ∙ map-filter (seen value) (λ s. is_at_inner_prefix s.row r) _
