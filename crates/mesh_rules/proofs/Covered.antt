-- What joins cover and hold, and what covers a row of an area that includes what dominates its rows.
use Rattle.std.proofs.Common.{◌≡◌, ◌⊎◌, inl, inr, Bool, true, List, [], ◌∷◌, ◌++◌, filter, Contains, sym, subst}
use Rattle.std.proofs.lemmas.List.Elements.{Contains-append_cases}
use Rattle.willow_entry.specs.Row.{RowValue, join, Dominates, HasCovering}
use Rattle.willow_entry.proofs.LiveParts.{kept, join_covers_left, join_covers_right}
use Rattle.willow_entry.proofs.Members.{member_from_contains}
use Rattle.willow_entry.proofs.RowLaws.{IsLive-live, dominates_chain}
use Rattle.mesh_rules.specs.Meetings.{IncludesDominating}

pub the_one : (x y : RowValue) → Contains (x ∷ []) y → x ≡ y
the_one x y c = elim (member_from_contains (x ∷ []) y c) [ inl e ↦ e | inr n ↦ absurd n ]

-- what covers a row covers what that row covers
through : (rows : List RowValue) (s r : RowValue) → (s ≡ r) ⊎ Dominates s r → HasCovering rows s → HasCovering rows r
through rows s r (inl e) h = subst (HasCovering rows) e h
through rows s r (inr d) h = (h.0, h.1, inr (elim h.2 [ inl e ↦ subst (λ t. Dominates t r) (sym e) d | inr f ↦ dominates_chain h.0 s r f d ]))

pub join_keeps : (xs ys : List RowValue) (r : RowValue) → HasCovering xs r → HasCovering (join xs ys) r
join_keeps xs ys r h = through (join xs ys) h.0 r h.2 (join_covers_left xs ys h.0 h.1)

pub join_adds : (xs ys : List RowValue) (r : RowValue) → HasCovering ys r → HasCovering (join xs ys) r
join_adds xs ys r h = through (join xs ys) h.0 r h.2 (join_covers_right xs ys h.0 h.1)

pub join_made_of : (xs ys : List RowValue) (r : RowValue) → Contains (join xs ys) r → Contains xs r ⊎ Contains ys r
join_made_of xs ys r c = Contains-append_cases xs ys r (((IsLive-live (xs ++ ys)).members r).0 c).0

module _ {X : Type 0} (has : X → RowValue → Bool) (x : X) (whole : IncludesDominating has x) where
  -- a row of the area is covered by one of it
  pub covering_part : (rows : List RowValue) (r : RowValue) → has x r ≡ true → HasCovering rows r → HasCovering (filter (has x) rows) r
  covering_part rows r passes h = (h.0, kept (has x) rows h.0 h.1 (elim h.2 [ inl e ↦ subst (λ t. has x t ≡ true) (sym e) passes | inr d ↦ whole h.0 r d passes ]), h.2)
