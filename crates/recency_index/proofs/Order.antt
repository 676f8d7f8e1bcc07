-- Recency as an order, and what it means.
use Rattle.std.proofs.Common.{◌≡◌, ap, ◌∙◌, sym, refl, Ordering, Less, Equal, Greater}
use Rattle.std.specs.Cmp.{IsTotalOrder}
use Rattle.std.specs.Ordering.{ordering_then, ordering_reverse}
use Rattle.std.proofs.lemmas.Cmp.{tied_itself}
use Rattle.willow_entry.specs.declared.entry.Entry.{Entry}
use Rattle.willow_entry.specs.Entry.{IsNewer, rank_of}
use Rattle.willow_entry.specs.Rank.{rank_cmp}
use Rattle.willow_entry.specs.Row.{subspace_path_cmp}
use Rattle.willow_entry.proofs.Ranks.{rank_total, rank_tie, rank_from_newer, subspace_path_tie}
use Rattle.recency_index.specs.declared.ranked.Ranked.{Ranked}
use Rattle.recency_index.specs.Recency.{ranked_of, item_rank, recency_cmp}
use Rattle.recency_index.specs.OrderLaws.{ranked_total}
use Rattle.link_arena.specs.declared.twice.Order.TheVariants.{Rank}

pub recency_total : IsTotalOrder recency_cmp
recency_total = ranked_total Rank

-- items of one rank at one place are equal
same_item : (a b : Ranked) → rank_cmp (item_rank b) (item_rank a) ≡ Equal → subspace_path_cmp (a.subspace, a.path) (b.subspace, b.path) ≡ Equal → a ≡ b
same_item a b ranks places =
    let r = sym (rank_tie (item_rank b) (item_rank a) ranks) in
    let p = subspace_path_tie (a.subspace, a.path) (b.subspace, b.path) places in
    λ i. record { timestamp = (r i).timestamp; digest = record { 0 = (r i).digest }; length = (r i).length; subspace = (p i).0; path = (p i).1 }

pub recency_tie : (a b : Ranked) → recency_cmp a b ≡ Equal → a ≡ b
recency_tie a b tied =
    let P : Ordering → Type 0 = λ o. rank_cmp (item_rank b) (item_rank a) ≡ o → ordering_then o (subspace_path_cmp (a.subspace, a.path) (b.subspace, b.path)) ≡ Equal → a ≡ b in
    let each : (o : Ordering) → P o = elim [
      | Less ↦ λ e t. absurd cc
      | Equal ↦ λ e t. same_item a b e t
      | Greater ↦ λ e t. absurd cc
    ] in
    each (rank_cmp (item_rank b) (item_rank a)) refl tied

pub newer_first : (e f : Entry) → IsNewer e f → recency_cmp (ranked_of e) (ranked_of f) ≡ Less
newer_first e f newer =
    let below : rank_cmp (rank_of f) (rank_of e) ≡ Less = rank_total.antisymm (rank_of f) (rank_of e) ∙ ap ordering_reverse (rank_from_newer e f newer) in
    ap (λ o. ordering_then o (subspace_path_cmp (e.subspace, e.path) (f.subspace, f.path))) below

pub place_decides : (e f : Entry) → rank_of e ≡ rank_of f → recency_cmp (ranked_of e) (ranked_of f) ≡ subspace_path_cmp (e.subspace, e.path) (f.subspace, f.path)
place_decides e f same =
    let tied : rank_cmp (rank_of f) (rank_of e) ≡ Equal = ap (rank_cmp (rank_of f)) same ∙ tied_itself rank_total (rank_of f) in
    ap (λ o. ordering_then o (subspace_path_cmp (e.subspace, e.path) (f.subspace, f.path))) tied
