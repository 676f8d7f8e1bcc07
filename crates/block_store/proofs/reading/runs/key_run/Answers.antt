use Rattle.std.proofs.Common.{◌≡◌, inl, inr, true, false, nat_le, ◌<◌, Some, get_or, sym, subst, refl, Bool, ℕ, arith}
use Rattle.std.specs.List.Sorted.{IsPartitionPoint}
use Rattle.block_store.specs.Blocks.{block_values}
use Rattle.block_store.specs.BoxKinds.{HasOneSubspace}
use Rattle.block_store.specs.Ends.{is_before_key}
use Rattle.block_store.proofs.Narrowing.{key_within, only_one, inside_at, one_key}
use Rattle.block_store.proofs.Pieces.{values_long}
use Rattle.block_store.proofs.reading.runs.key_run.Goals as goal

pub path_run-requires-clause-inside : goal.path_run-requires-clause-inside
path_run-requires-clause-inside g c =
    let rows = block_values g.R.Row.value c.args.listing.now.pieces.items in
    let area = c.args.area.now in
    let low = subst (λ n. IsPartitionPoint (λ r. is_before_key (Some area.keys.start) r ≡ true) (λ r. is_before_key (Some area.keys.start) r ≡ false) rows n) (sym c.position-low.ensures.position) c.key_spots.ensures.low in
    let high = subst (λ n. IsPartitionPoint (λ r. is_before_key area.keys.end r ≡ true) (λ r. is_before_key area.keys.end r ≡ false) rows n) (sym c.position-high.ensures.position) c.key_spots.ensures.high in
    key_within rows area c.position-low.result c.position-high.result c.in-Some.key.now low high (omega (arith, values_long g.R.Row.value c.args.listing.now.pieces.items)) c.in-Some.ensures.one c.in-Some.ensures.some

pub path_run-requires-clause-only : goal.path_run-requires-clause-only
path_run-requires-clause-only g c =
    let rows = block_values g.R.Row.value c.args.listing.now.pieces.items in
    let area = c.args.area.now in
    let low = subst (λ n. IsPartitionPoint (λ r. is_before_key (Some area.keys.start) r ≡ true) (λ r. is_before_key (Some area.keys.start) r ≡ false) rows n) (sym c.position-low.ensures.position) c.key_spots.ensures.low in
    let high = subst (λ n. IsPartitionPoint (λ r. is_before_key area.keys.end r ≡ true) (λ r. is_before_key area.keys.end r ≡ false) rows n) (sym c.position-high.ensures.position) c.key_spots.ensures.high in
    only_one rows area c.position-low.result c.position-high.result c.in-Some.key.now low high (omega (arith, values_long g.R.Row.value c.args.listing.now.pieces.items)) c.in-Some.ensures.one

pub returns-in-None-clause-one : goal.returns-in-None-clause-one
returns-in-None-clause-one g c run = elim run.1 [
  | inr paths ↦ c.several_run.ensures.whole run.0 paths
  | inl one ↦ go (nat_le c.position-high.result c.position-low.result) refl one
]
  where
    above : (m n : ℕ) → nat_le m n ≡ false → n < m
    above m n e = grind arith

    go : (b : Bool) → nat_le c.position-high.result c.position-low.result ≡ b → HasOneSubspace c.args.area.now → c.several_run.result.exact ≡ true
    go true e one = c.several_run.ensures.empty e
    go false e one =
        let rows = block_values g.R.Row.value c.args.listing.now.pieces.items in
        let area = c.args.area.now in
        let low = subst (λ n. IsPartitionPoint (λ r. is_before_key (Some area.keys.start) r ≡ true) (λ r. is_before_key (Some area.keys.start) r ≡ false) rows n) (sym c.position-low.ensures.position) c.key_spots.ensures.low in
        let high = subst (λ n. IsPartitionPoint (λ r. is_before_key area.keys.end r ≡ true) (λ r. is_before_key area.keys.end r ≡ false) rows n) (sym c.position-high.ensures.position) c.key_spots.ensures.high in
        absurd (c.in-None.ensures.several (above c.position-high.result c.position-low.result e) area.keys.start (λ k d le lt fits.
        one_key area one (get_or rows k d).entry.subspace c.first_key-first.ensures.key fits
        (inside_at rows area c.position-low.result c.position-high.result area.keys.start low high (omega (arith, values_long g.R.Row.value c.args.listing.now.pieces.items)) k d le lt)))
