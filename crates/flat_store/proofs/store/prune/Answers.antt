use Rattle.std.proofs.Common.{not, map, length, ap, ◌∙◌, refl, rules, arith}
use Rattle.std.proofs.lemmas.Fn.{filter_same}
use Rattle.std.proofs.lemmas.List.{length-map}
use Rattle.std.proofs.lemmas.List.Sums.{length-filter}
use Rattle.std.proofs.lemmas.List.Filters.{length-filter_both}
use Rattle.willow_entry.specs.Row.{is_dominating}
use Rattle.willow_entry.proofs.Between.{map-filter}
use Rattle.flat_store.proofs.store.prune.Goals as goal

pub returns-clause-left : goal.returns-clause-left
returns-clause-left g c =
    let value = g.R.Row.value in
    let r = value c.args.row.now in
    ap (map value) (filter_same _ (λ s. not (is_dominating r (value s))) _ (λ s b f k. search rules) _ _ c.retain.ensures.filtered)
    ∙ map-filter value (λ s. not (is_dominating r s)) _

pub returns-clause-pruned : goal.returns-clause-pruned
returns-clause-pruned g c =
    let value = g.R.Row.value in
    let r = value c.args.row.now in
    let rows = map value c.args.rows.now.items in
    let left = returns-clause-left g c in
    omega (
      arith,
      ap length left,
      length-map c.retain.new.self.items value,
      length-map c.args.rows.now.items value,
      length-filter_both (is_dominating r) (λ s. not (is_dominating r s)) (λ s. refl) rows,
      length-filter (is_dominating r) rows,
    )
