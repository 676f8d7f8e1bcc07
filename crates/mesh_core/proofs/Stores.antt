-- What a write into a list of stores makes of the nodes.
use Rattle.std.proofs.Common.{◌≡◌, ◌≢◌, ℕ, zero, suc, ◌==◌, ◌<◌, false, List, [], ◌∷◌, ◌++◌, Some, cond, map, length, get_or, set, refl, sym, ap, subst, ◌∙◌, get_or-set_other, get_or-set_same}
use Rattle.std.proofs.lemmas.Bool.{false≢true, eqb-true, eq-eqb, cond_both}
use Rattle.std.proofs.lemmas.List.{get_or_default}
use Rattle.std.proofs.lemmas.Option.{get_or_from_slice_get}
use Rattle.willow_area.specs.AreaBox.{area_box}
use Rattle.willow_area.specs.declared.area.Area.{Area}
use Rattle.willow_entry.specs.Row.{RowValue, join}
use Rattle.cap_codec.specs.Rows.{RawValue, row_of}
use Rattle.sync_pair.specs.Agreement.{left_after, right_after}
use Rattle.mesh_rules.specs.Events.{NodeEvent, Offer, Meet, Mesh, Nodes, after_event, after_events, empty_nodes}
use Rattle.mesh_core.specs.Exchanging.{exchanging}
use Rattle.mesh_core.specs.Held.{nodes_of, IsNodeSet, EachNode}

not_equal : (k n : ℕ) → (k == n) ≡ false → k ≢ n
not_equal k n other e = false≢true (sym other ∙ eq-eqb k n e)

-- what the store at a place holds
pub at_node : (stores : List (List RawValue)) (node : ℕ) (rows : List RawValue) → node < length stores → rows ≡ get_or stores node rows → map row_of rows ≡ nodes_of stores node
at_node stores node rows within is = ap (map row_of) (is ∙ get_or_default stores node rows [] within)

pub set_at : (stores : List (List RawValue)) (node : ℕ) (rows : List RawValue) (held : List RowValue) → node < length stores → map row_of rows ≡ held → IsNodeSet stores node held (set stores node rows)
set_at stores node rows held within is = record {
  here = ap (map row_of) (get_or-set_same stores node rows [] within) ∙ is;
  others = λ j other. ap (map row_of) (get_or-set_other stores node j rows [] other);
}

-- the store of a node takes a row
pub offered : (version : ℕ) (old new : List (List RawValue)) (node : ℕ) (r : RowValue) → IsNodeSet old node (join (nodes_of old node) (r ∷ [])) new → nodes_of new ≡ after_event (exchanging version) (nodes_of old) (Offer node r)
unfolding after_event
offered version old new node r is = λ i k. at k i where
  at : (k : ℕ) → nodes_of new k ≡ cond (k == node) (join (nodes_of old k) (r ∷ [])) (nodes_of old k)
  at k = cond_both (k == node) (join (nodes_of old k) (r ∷ [])) (nodes_of old k) (λ rows. nodes_of new k ≡ rows)
      (λ here. subst (λ n. nodes_of new n ≡ join (nodes_of old n) (r ∷ [])) (sym (eqb-true k node here)) is.here)
      (λ other. is.others k (not_equal k node other))

-- the stores of two nodes take what came, the right one first
module _ (version : ℕ) (old one new : List (List RawValue)) (left right : ℕ) (area : Area) where
  abbrev lefts : List RowValue
  lefts = left_after version (nodes_of old left) (nodes_of old right) (Some (area_box area))

  abbrev rights : List RowValue
  rights = right_after version (nodes_of old left) (nodes_of old right) (Some (area_box area))

  pub met : IsNodeSet old right rights one → IsNodeSet one left lefts new → nodes_of new ≡ after_event (exchanging version) (nodes_of old) (Meet left right area)
  unfolding after_event
  met first second = λ i k. at k i where
    at : (k : ℕ) → nodes_of new k ≡ cond (k == left) lefts (cond (k == right) rights (nodes_of old k))
    at k = cond_both (k == left) lefts (cond (k == right) rights (nodes_of old k)) (λ rows. nodes_of new k ≡ rows)
        (λ here. subst (λ n. nodes_of new n ≡ lefts) (sym (eqb-true k left here)) second.here)
        (λ other. second.others k (not_equal k left other) ∙ cond_both (k == right) rights (nodes_of old k) (λ rows. nodes_of one k ≡ rows)
        (λ here. subst (λ n. nodes_of one n ≡ rights) (sym (eqb-true k right here)) first.here)
        (λ there. first.others k (not_equal k right there)))

-- ---- stores without rows

abbrev pub AreEmpty : List (List RawValue) → Type 0
AreEmpty stores = nodes_of stores ≡ empty_nodes

pub none_empty : AreEmpty []
none_empty = λ i k. []

pub one_more_empty : (stores : List (List RawValue)) (new : List RawValue) → AreEmpty stores → new ≡ [] → AreEmpty (stores ++ new ∷ [])
one_more_empty stores new all is = λ i k. at stores (λ n j. all j n) k i where
  at : (stores : List (List RawValue)) → ((n : ℕ) → nodes_of stores n ≡ []) → (n : ℕ) → nodes_of (stores ++ new ∷ []) n ≡ []
  at [] all zero = ap (map row_of) is
  at [] all (suc n) = refl
  at (rows ∷ stores) all zero = all 0
  at (rows ∷ stores) all (suc n) = at stores (λ k. all (suc k)) n

-- ---- runs

-- one more event
pub one_more_event : (m : Mesh Area) (s : Nodes) (es : List (NodeEvent Area)) (e : NodeEvent Area) → after_events m s (es ++ e ∷ []) ≡ after_event m (after_events m s es) e
one_more_event m s [] e = λ i. after_event m s e
one_more_event m s (f ∷ es) e = one_more_event m (after_event m s f) es e

-- what is so of each node is so of each store
pub each_from : (P : ℕ → List RowValue → Type 0) (stores : List (List RawValue)) (s : Nodes) → nodes_of stores ≡ s → ((i : ℕ) → P i (s i)) → EachNode P stores
each_from P stores s is all = λ i rows here. subst (P i) (sym (ap (λ (n : Nodes). n i) is) ∙ ap (map row_of) (get_or_from_slice_get stores i rows [] here)) (all i)
