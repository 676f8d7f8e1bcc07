use Rattle.std.proofs.Common.{◌-◌, [], IfNone, Option, Some, None, sym, ◌∙◌, subst, refl, arith}
use Rattle.willow_entry.specs.Row.{IsRising}
use Rattle.willow_entry.proofs.Live.{live-rises}
use Rattle.block_store.specs.Blocks.{block_values}
use Rattle.block_store.proofs.Pieces.{values_long}
use Rattle.block_store.proofs.Narrowing.{namespaces_told}
use Rattle.block_store.proofs.reading.runs.is_of_one_namespace.Goals as goal

pub returns-then-count-eq0 : goal.returns-then-count-eq0
returns-then-count-eq0 g c =
    let long = values_long g.R.Row.value c.args.listing.now.pieces.items in
    ((λ _. ([], λ k d h. absurd (omega (arith, long)))), (λ _. refl))

pub returns : goal.returns
returns g c =
    let rows = block_values g.R.Row.value c.args.listing.now.pieces.items in
    let long = values_long g.R.Row.value c.args.listing.now.pieces.items in
    let up : IsRising rows = subst IsRising c.args.listing.now.live (live-rises rows) in
    let told = namespaces_told rows (c.len-count.result - 1) (omega (arith, long)) up (omega (arith, long)) c.share_namespace.result c.share_namespace.ensures.same
    (excluded c.share_namespace.result (λ none. none (omega (arith, long)) (omega (arith, long))) c.share_namespace.ensures.none) in
    ((λ t. told.0 (sym c.unwrap_or.ensures ∙ t)), (λ one. c.unwrap_or.ensures ∙ told.1 one))
  where
    excluded : {X : Type 0} {P : Type 0} (o : Option X) → (P → ⊥) → IfNone o P → IfNone o ⊥
    excluded None f p = f p
    excluded (Some x) f p = tt
