use Rattle.std.proofs.Common.{[], ◌∷◌, ◌++◌, map, sym, ap₂, ◌∙◌, arith}
use Rattle.std.proofs.lemmas.List.Kept.{IsStrictlySortedBy-filter}
use Rattle.willow_entry.specs.Row.{inner_place_cmp}
use Rattle.block_store.specs.InBox.{is_in, rows_in}
use Rattle.range_split.proofs.Finding.{found_many}
use Rattle.range_split.proofs.Paths.{paths_told}
use Rattle.range_split.proofs.even.path_points.Goals as goal

pub returns : goal.returns
returns g c =
    let rows = map g.R.Row.value c.args.snapshot.now in
    let held = rows_in c.args.area.now rows in
    let many = found_many (is_in c.args.area.now) rows c.args.found.now c.requires.found in
    let told = paths_told held c.requires.one (IsStrictlySortedBy-filter inner_place_cmp (is_in c.args.area.now) rows c.requires.rise) (omega arith)
    (g.R.Row.value c.quarter.result.now) (g.R.Row.value c.quarter-2.result.now) (g.R.Row.value c.quarter-3.result.now) c.quarter.ensures c.quarter-2.ensures c.quarter-3.ensures in
    c.in_ok-push-3.ensures.added
    ∙ ap₂ (λ l x. l ++ x ∷ []) (c.in_ok-push-2.ensures.added ∙ ap₂ (λ l x. l ++ x ∷ []) (c.in_ok-push.ensures.added ∙ ap₂ (λ l x. l ++ x ∷ []) c.new-points.ensures c.in_ok-path_of.ensures) c.in_ok-path_of-2.ensures) c.in_ok-path_of-3.ensures
    ∙ sym told
