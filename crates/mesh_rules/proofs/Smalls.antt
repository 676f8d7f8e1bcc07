-- A mesh to look at is lawful, and what its small runs come to.
use Rattle.std.proofs.Common.{◌≡◌, ℕ, inl, inr, true, List, [], ◌∷◌, ◌++◌, filter, Contains, Some, None, refl, sym, ap, subst, ◌∙◌, arith}
use Rattle.std.proofs.lemmas.Bool.{cond-false, false_from_ne_true}
use Rattle.std.specs.Cmp.Lexicographic.{bytes_decides}
use Rattle.willow_entry.specs.Entry.{same_bytes}
use Rattle.willow_entry.specs.Pruning.{pruned}
use Rattle.willow_entry.specs.Row.{RowValue, HasCovering, live, join}
use Rattle.willow_entry.proofs.Live.{live-uncovered}
use Rattle.willow_entry.proofs.Members.{member_from_contains}
use Rattle.mesh_rules.specs.Events.{NodeEvent, Offer, Meet, Nodes, after_event, empty_nodes, node_rows}
use Rattle.mesh_rules.specs.Reaching.{Reaches}
use Rattle.mesh_rules.specs.Meetings.{IsExact, IncludesDominating, EachMeeting}
use Rattle.mesh_rules.specs.Laws.{IsExactRun, AllReach}
use Rattle.mesh_rules.specs.Small.{Subspace, joining, includes, meets_in_order, meets_out_of_order, meets_over, not_yet_told, told_again}
use Rattle.mesh_rules.proofs.Runs.{holds_reached, holds_area}

-- ---- the mesh is lawful

includes_dominating : (x : Subspace) → IncludesDominating includes x
includes_dominating None = λ r s d h. refl
includes_dominating (Some subspace) = λ r s d h. subst (λ t. same_bytes t subspace ≡ true) (sym d.subspace) h

each_exact : (s : Nodes) (es : List (NodeEvent Subspace)) → EachMeeting (IsExact joining) joining s es
each_exact s [] = tt
each_exact s (Offer node r ∷ es) = (tt, each_exact (after_event joining s (Offer node r)) es)
each_exact s (Meet left right x ∷ es) = (record { left = refl; right = refl }, each_exact (after_event joining s (Meet left right x)) es)

each_whole : (s : Nodes) (es : List (NodeEvent Subspace)) → EachMeeting (λ a b x. IncludesDominating includes x) joining s es
each_whole s [] = tt
each_whole s (Offer node r ∷ es) = (tt, each_whole (after_event joining s (Offer node r)) es)
each_whole s (Meet left right x ∷ es) = (includes_dominating x, each_whole (after_event joining s (Meet left right x)) es)

pub exact_run : (events : List (NodeEvent Subspace)) → IsExactRun joining events
exact_run events = record { exact = each_exact empty_nodes events; areas = each_whole empty_nodes events }

-- ---- one row

none_live : live [] ≡ []
unfolding pruned
none_live = refl

not_covered : (r : RowValue) → HasCovering [] r → ⊥
not_covered r h = member_from_contains [] h.0 h.1

one_live : (r : RowValue) → live (r ∷ []) ≡ r ∷ []
one_live r = sym (live-uncovered [] r none_live (not_covered r))

pub comes_in_order : (r : RowValue) → node_rows joining (meets_in_order r) 2 ≡ r ∷ []
unfolding after_event
comes_in_order r =
    ap (λ rows. live (filter (includes None) (live (filter (includes None) rows)))) (one_live r)
    ∙ ap (λ rows. live (filter (includes None) rows)) (one_live r)
    ∙ one_live r

pub reaches_in_order : (r : RowValue) → Reaches includes (meets_in_order r) r 2
reaches_in_order r = (
  0,
  0,
  refl,
  (
    1 ∷ 2 ∷ [],
    (omega arith, (1, (Meet 0 1 None, refl, (inl (refl, refl), refl)), (omega arith, (2, (Meet 1 2 None, refl, (inl (refl, refl), refl)), refl)))),
  ),
)

pub comes_not : (r : RowValue) → node_rows joining (meets_out_of_order r) 2 ≡ []
unfolding after_event pruned
comes_not r = refl

pub reaches_not : (r : RowValue) → Reaches includes (meets_out_of_order r) r 2 → ⊥
reaches_not r reaches =
    not_covered r (subst (λ rows. HasCovering rows r) (comes_not r) ((holds_reached joining (meets_out_of_order r) (exact_run (meets_out_of_order r)) 2).all r reaches))

pub comes_not_elsewhere : (r : RowValue) (subspace : List ℕ) → (r.entry.subspace ≡ subspace → ⊥) → node_rows joining (meets_over subspace r) 1 ≡ []
unfolding after_event
comes_not_elsewhere r subspace other =
    ap (λ rows. live (filter (includes (Some subspace)) rows)) (one_live r)
    ∙ ap live (cond-false (same_bytes r.entry.subspace subspace) (r ∷ []) [] (false_from_ne_true (same_bytes r.entry.subspace subspace) (λ e. other ((bytes_decides r.entry.subspace subspace).0 e))))
    ∙ none_live

-- ---- two rows

pub holds_its_own : (r s : RowValue) → node_rows joining (not_yet_told r s) 0 ≡ r ∷ []
unfolding after_event
holds_its_own r s = ap (λ rows. live (rows ++ [])) (one_live r) ∙ one_live r

pub holds_both : (r s : RowValue) → node_rows joining (not_yet_told r s) 2 ≡ join (s ∷ []) (r ∷ [])
unfolding after_event
holds_both r s =
    ap (λ rows. join rows (filter (includes None) (live (filter (includes None) (live (r ∷ [])))))) (one_live s)
    ∙ ap (λ rows. join (s ∷ []) (filter (includes None) (live (filter (includes None) rows)))) (one_live r)
    ∙ ap (λ rows. join (s ∷ []) (filter (includes None) rows)) (one_live r)

all_kept : (rows : List RowValue) → filter (includes None) rows ≡ rows
all_kept [] = refl
all_kept (r ∷ rows) = ap (λ more. r ∷ more) (all_kept rows)

offered_two : (P : RowValue → Type 0) (r s q : RowValue) → Contains (r ∷ s ∷ []) q → P r → P s → P q
offered_two P r s q c one other = elim (member_from_contains (r ∷ s ∷ []) q c) [
  | inl e ↦ subst P e one
  | inr m ↦ elim m [ inl e ↦ subst P e other | inr n ↦ absurd n ]
]

module _ (r s : RowValue) where
  pub all_reach_first : AllReach includes (told_again r s) None 0
  all_reach_first q c h = offered_two (λ q. Reaches includes (told_again r s) q 0) r s q c
      (0, 0, refl, ([], refl)) (
        1,
        2,
        refl,
        (
          3 ∷ 4 ∷ [],
          (omega arith, (1, (Meet 1 2 None, refl, (inr (refl, refl), refl)), (omega arith, (0, (Meet 0 1 None, refl, (inr (refl, refl), refl)), refl)))),
        ),
      )

  pub all_reach_last : AllReach includes (told_again r s) None 2
  all_reach_last q c h = offered_two (λ q. Reaches includes (told_again r s) q 2) r s q c (
    0,
    0,
    refl,
    (
      2 ∷ 3 ∷ [],
      (omega arith, (1, (Meet 0 1 None, refl, (inl (refl, refl), refl)), (omega arith, (2, (Meet 1 2 None, refl, (inl (refl, refl), refl)), refl)))),
    ),
  )
      (1, 2, refl, ([], refl))

  pub told_alike : node_rows joining (told_again r s) 0 ≡ node_rows joining (told_again r s) 2
  told_alike =
      let events = told_again r s in
      let run = exact_run events in
      sym (all_kept (node_rows joining events 0))
      ∙ holds_area joining events run 0 None (includes_dominating None) all_reach_first
      ∙ sym (holds_area joining events run 2 None (includes_dominating None) all_reach_last)
      ∙ all_kept (node_rows joining events 2)
