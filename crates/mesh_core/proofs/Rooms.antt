-- Nodes that hold generated rows have room for what comes to them, and may meet.
use Rattle.std.proofs.Common.{◌≡◌, ℕ, ◌<◌, ◌≤◌, true, List, map, length, Contains, All, Some, refl, ap₂, subst, ◌∙◌, arith}
use Rattle.std.specs.List.{IsDistinct, range_with_len}
use Rattle.std.proofs.lemmas.List.Elements.{All-contains}
use Rattle.std.proofs.lemmas.List.FromFn.{length-map-range_with_len, get_or-map-range_with_len}
use Rattle.willow_area.specs.Boxes.{Ranges}
use Rattle.willow_entry.specs.Frame.{HasFrame}
use Rattle.willow_entry.specs.Row.{RowValue, AreLive, same_row}
use Rattle.willow_entry.proofs.Fitting.{distinct_fits}
use Rattle.willow_entry.proofs.LiveParts.{kept_from, all_from_contains}
use Rattle.willow_entry.proofs.Members.{member_from_contains, contains_from_member}
use Rattle.willow_entry.proofs.RowLaws.{same_row_decides}
use Rattle.block_store.specs.BoxKinds.{IsOfOneNamespace}
use Rattle.block_store.specs.InBox.{is_in, rows_in}
use Rattle.cap_codec.specs.Rows.{RawValue, row_of}
use Rattle.peer_listing.specs.Generator.{generated, generator_namespace, generated_entry}
use Rattle.peer_listing.specs.declared.generator.TheConstants.{GENERATED_ROWS}
use Rattle.peer_listing.proofs.Lengths.{generated_fits}
use Rattle.exchange_rules.specs.Items.{to_left, to_right}
use Rattle.sync_pair.specs.Meeting.{IsMeeting, meeting}
use Rattle.sync_pair.specs.Stores.{IsStoreOf, AreStores}
use Rattle.sync_pair.specs.declared.meet.PairRun.{PairRun}
use Rattle.sync_pair.proofs.Agreeing.{once_left, once_right, only_left, only_right}
use Rattle.sync_pair.proofs.Stores.{store_distinct}
use Rattle.mesh_core.specs.Generated.{IsGenerated}

-- ---- rows of the generator

generated_own : (k : ℕ) → (row_of (generated k)).entry.namespace ≡ generator_namespace
unfolding generated_entry
generated_own k = refl

generated_framed : (k : ℕ) → HasFrame (row_of (generated k))
generated_framed k = generated_fits k (generated k) refl refl

-- its first n rows
abbrev below : ℕ → List RowValue
below n = map (λ k. row_of (generated k)) (range_with_len 0 n)

stands_below : (n k : ℕ) (r : RowValue) → k < n → row_of (generated k) ≡ r → Contains (below n) r
stands_below n k r less e =
    (k, omega (arith, less, length-map-range_with_len (λ k. row_of (generated k)) 0 n), get_or-map-range_with_len (λ k. row_of (generated k)) 0 n k k r less (omega arith) ∙ e)

few_below : (n : ℕ) (rows : List RowValue) → IsDistinct same_row rows → ((r : RowValue) → Contains rows r → (k : ℕ) × (k < n) × (row_of (generated k) ≡ r)) → length rows ≤ n
few_below n rows once all =
    let fits = distinct_fits same_row (λ r. (same_row_decides r r).1 refl) rows (below n) once
    (λ r m. let at = all r (contains_from_member rows r m) in member_from_contains (below n) r (stands_below n at.0 r at.1 at.2)) in
    omega (arith, fits, length-map-range_with_len (λ k. row_of (generated k)) 0 n)

-- rows of it, each once, are no more than it has
few_generated : (rows : List RowValue) → IsDistinct same_row rows → ((r : RowValue) → Contains rows r → IsGenerated r) → length rows ≤ GENERATED_ROWS
few_generated rows once all = few_below GENERATED_ROWS rows once all

module _ (rows : List RowValue) (all : (r : RowValue) → Contains rows r → IsGenerated r) where
  own_all : All (λ (r : RowValue). r.entry.namespace ≡ generator_namespace) rows
  own_all = all_from_contains (λ (r : RowValue). r.entry.namespace ≡ generator_namespace) rows (λ r c. let at = all r c in subst (λ (s : RowValue). s.entry.namespace ≡ generator_namespace) at.2 (generated_own at.0))

  pub one_namespace : IsOfOneNamespace rows
  one_namespace = (generator_namespace, own_all)

  pub all_framed : All HasFrame rows
  all_framed = all_from_contains HasFrame rows (λ r c. let at = all r c in subst HasFrame at.2 (generated_framed at.0))

  module _ (live : AreLive rows) where
    pub is_store : IsStoreOf generator_namespace rows
    is_store = record { live = live; own = own_all }

    pub few_rows : length rows ≤ GENERATED_ROWS
    few_rows = few_generated rows (store_distinct generator_namespace rows is_store) all

-- ---- what is sent

module _ (version : ℕ) (a b : List RowValue) (x : Ranges) where
  pub sent_left : (r : RowValue) → Contains (to_left (meeting version a b (Some x))) r → Contains b r × (is_in x r ≡ true)
  sent_left r c = kept_from (is_in x) b r (All-contains (Contains (rows_in x b)) (to_left (meeting version a b (Some x))) r (only_left version a b x) c)

  pub sent_right : (r : RowValue) → Contains (to_right (meeting version a b (Some x))) r → Contains a r × (is_in x r ≡ true)
  sent_right r c = kept_from (is_in x) a r (All-contains (Contains (rows_in x a)) (to_right (meeting version a b (Some x))) r (only_right version a b x) c)

  module _ (all_a : (r : RowValue) → Contains a r → IsGenerated r) (all_b : (r : RowValue) → Contains b r → IsGenerated r) (live_a : AreLive a) (live_b : AreLive b) where
    pub both_stores : AreStores generator_namespace a b
    both_stores = record { left = is_store a all_a live_a; right = is_store b all_b live_b }

    pub few_left : length (to_left (meeting version a b (Some x))) ≤ GENERATED_ROWS
    few_left = few_generated (to_left (meeting version a b (Some x))) (once_left version generator_namespace a b x both_stores) (λ r c. all_b r (sent_left r c).0)

    pub few_right : length (to_right (meeting version a b (Some x))) ≤ GENERATED_ROWS
    few_right = few_generated (to_right (meeting version a b (Some x))) (once_right version generator_namespace a b x both_stores) (λ r c. all_a r (sent_right r c).0)

-- what a meeting of two snapshots sends is what that of their rows does
module _ (version : ℕ) (own others : List RawValue) (a b : List RowValue) (x : Ranges) (is_a : map row_of own ≡ a) (is_b : map row_of others ≡ b) (run : PairRun RawValue) (is : IsMeeting version row_of (map row_of own) (map row_of others) (Some x) run) where
  pub sends_left : map row_of run.to_left.items ≡ to_left (meeting version a b (Some x))
  sends_left = is.to_left ∙ ap₂ (λ (l r : List RowValue). to_left (meeting version l r (Some x))) is_a is_b

  pub sends_right : map row_of run.to_right.items ≡ to_right (meeting version a b (Some x))
  sends_right = is.to_right ∙ ap₂ (λ (l r : List RowValue). to_right (meeting version l r (Some x))) is_a is_b
