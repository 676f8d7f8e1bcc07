-- What is live of a part of some rows, and joins with rows that are the same but for those already held.
use Rattle.std.proofs.Common.{◌≡◌, ◌⊎◌, inl, inr, Bool, true, List, ◌++◌, filter, get_or, Contains, All}
use Rattle.std.proofs.lemmas.List.Elements.{Contains-get_or, Contains-append_left, Contains-append_right, Contains-append_cases}
use Rattle.std.proofs.lemmas.List.Kept.{IsStrictlySortedBy-filter}
use Rattle.willow_entry.specs.Row.{RowValue, place_cmp, live, join, Dominates, HasCovering}
use Rattle.willow_entry.proofs.Members.{contains_from_member, member_from_contains, member_filter, filter_member}
use Rattle.willow_entry.proofs.RowLaws.{IsLive-live, live-only}
use Rattle.willow_entry.proofs.Live.{live-rises, live_covers, live_same_members}

-- ---- members of a part

pub kept : {X : Type 0} (p : X → Bool) (xs : List X) (x : X) → Contains xs x → p x ≡ true → Contains (filter p xs) x
kept p xs x c passes = contains_from_member (filter p xs) x (member_filter p xs x (member_from_contains xs x c) passes)

pub kept_from : {X : Type 0} (p : X → Bool) (xs : List X) (x : X) → Contains (filter p xs) x → Contains xs x × (p x ≡ true)
kept_from p xs x c = let m = filter_member p xs x (member_from_contains (filter p xs) x c) in (contains_from_member xs x m.0, m.1)

pub all_from_contains : {X : Type 0} (P : X → Type 0) (xs : List X) → ((x : X) → Contains xs x → P x) → All P xs
all_from_contains P xs f k d within = f (get_or xs k d) (Contains-get_or xs k d within)

-- ---- live rows of a part

-- Where what dominates a row that passes passes too, to take the rows that pass and to take what is live may change places.
module _ (p : RowValue → Bool) (closed : (r s : RowValue) → Dominates r s → p s ≡ true → p r ≡ true) (rows : List RowValue) where
  pub filter-live : filter p (live rows) ≡ live (filter p rows)
  filter-live =
      let all = IsLive-live rows in
      live-only (filter p rows) (filter p (live rows)) (record {
        is_rising = IsStrictlySortedBy-filter place_cmp p (live rows) (live-rises rows);
        members = λ r. (
          (λ c.
              let k = kept_from p (live rows) r c in
              let m = (all.members r).0 k.0 in
              (kept p rows r m.0 k.1, λ s d. m.1 s (kept_from p rows s d).0)),
          (λ k.
              let m = kept_from p rows r k.0 in
              kept p (live rows) r ((all.members r).1 (m.0, λ s c d. k.1 s (kept p rows s c (closed s r d m.1)) d)) m.1),
        );
      })

-- ---- joins

-- rows that are the same but for some that are held already make the same join
module _ (held xs ys : List RowValue) (f : (r : RowValue) → Contains xs r → Contains held r ⊎ Contains ys r) (g : (r : RowValue) → Contains ys r → Contains held r ⊎ Contains xs r) where
  there : (us vs : List RowValue) → ((r : RowValue) → Contains us r → Contains held r ⊎ Contains vs r) → (r : RowValue) → Contains (held ++ us) r → Contains (held ++ vs) r
  there us vs h r c = elim (Contains-append_cases held us r c) [
    | inl old ↦ Contains-append_left held vs r old
    | inr more ↦ elim (h r more) [ inl old ↦ Contains-append_left held vs r old | inr also ↦ Contains-append_right held vs r also ]
  ]

  pub join_same : join held xs ≡ join held ys
  join_same = live_same_members (held ++ xs) (held ++ ys) (λ r. (there xs ys f r, there ys xs g r))

pub join_covers_left : (xs ys : List RowValue) (r : RowValue) → Contains xs r → HasCovering (join xs ys) r
join_covers_left xs ys r c = live_covers (xs ++ ys) r (Contains-append_left xs ys r c)

pub join_covers_right : (xs ys : List RowValue) (r : RowValue) → Contains ys r → HasCovering (join xs ys) r
join_covers_right xs ys r c = live_covers (xs ++ ys) r (Contains-append_right xs ys r c)
