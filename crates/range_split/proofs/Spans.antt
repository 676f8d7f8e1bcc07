-- Between which positions the rows stand that pass a test.
use Rattle.std.proofs.Common.{◌≡◌, ℕ, zero, suc, ◌+◌, ◌≤◌, Bool, true, false, cond, List, [], ◌∷◌, ◌++◌, length, take, drop, filter, slice_get, Some, refl, sym, ap, ◌∙◌, append-nil, arith}
use Rattle.std.proofs.lemmas.Option.{same_Some}
use Rattle.std.proofs.lemmas.List.{length-append, take-append-drop}
use Rattle.std.proofs.lemmas.List.Elements.{filter-append}
use Rattle.block_store.specs.Positions.{positions, positions_from}

nil_from_length : {X : Type 0} (xs : List X) → length xs ≡ 0 → xs ≡ []
nil_from_length [] h = refl
nil_from_length (x ∷ xs) h = absurd (omega (arith, h))

module _ {X : Type 0} (test : X → Bool) where
  -- of the items before the n-th position n pass, and with its own one more
  record StandsAt (xs : List X) (start n at : ℕ) : Type 0 where
    offset : ℕ
    place : at ≡ start + offset
    before : length (filter test (take offset xs)) ≡ n
    with_it : length (filter test (take (suc offset) xs)) ≡ suc n

  -- behind an item that fails
  behind : (x : X) (xs : List X) (start n at : ℕ) → test x ≡ false → StandsAt xs (start + 1) n at → StandsAt (x ∷ xs) start n at
  behind x xs start n at e r =
      let l = filter test (take r.offset xs) in
      let m = filter test (take (suc r.offset) xs) in
      record {
        offset = suc r.offset;
        place = omega (arith, r.place);
        before = ap (λ b. length (cond b (x ∷ l) l)) e ∙ r.before;
        with_it = ap (λ b. length (cond b (x ∷ m) m)) e ∙ r.with_it;
      }

  -- behind one that passes
  behind_one : (x : X) (xs : List X) (start n at : ℕ) → test x ≡ true → StandsAt xs (start + 1) n at → StandsAt (x ∷ xs) start (suc n) at
  behind_one x xs start n at e r =
      let l = filter test (take r.offset xs) in
      let m = filter test (take (suc r.offset) xs) in
      record {
        offset = suc r.offset;
        place = omega (arith, r.place);
        before = ap (λ b. length (cond b (x ∷ l) l)) e ∙ ap suc r.before;
        with_it = ap (λ b. length (cond b (x ∷ m) m)) e ∙ ap suc r.with_it;
      }

  -- at one that passes
  here : (x : X) (xs : List X) (start at : ℕ) → test x ≡ true → start ≡ at → StandsAt (x ∷ xs) start 0 at
  here x xs start at e same = record {
    offset = 0;
    place = omega (arith, same);
    before = refl;
    with_it = ap (λ b. length (cond b (x ∷ []) [])) e;
  }

  abbrev Later : List X → ℕ → ℕ → Type 0
  Later xs start at = (n : ℕ) → slice_get (positions_from test start xs) n ≡ Some at → StandsAt xs start n at

  passed : (x : X) (xs : List X) (start n at : ℕ) → test x ≡ true → slice_get (start ∷ positions_from test (start + 1) xs) n ≡ Some at → Later xs (start + 1) at → StandsAt (x ∷ xs) start n at
  passed x xs start zero at e h later = here x xs start at e (same_Some start at h)
  passed x xs start (suc n) at e h later = behind_one x xs start n at e (later n h)

  tested : (x : X) (xs : List X) (start n at : ℕ) (b : Bool) → test x ≡ b → slice_get (cond b (start ∷ positions_from test (start + 1) xs) (positions_from test (start + 1) xs)) n ≡ Some at → Later xs (start + 1) at → StandsAt (x ∷ xs) start n at
  tested x xs start n at true e h later = passed x xs start n at e h later
  tested x xs start n at false e h later = behind x xs start n at e (later n h)

  stands_at : (xs : List X) (start n at : ℕ) → slice_get (positions_from test start xs) n ≡ Some at → StandsAt xs start n at
  stands_at [] start n at h = absurd cc
  stands_at (x ∷ xs) start n at h = tested x xs start n at (test x) refl h (λ m k. stands_at xs (start + 1) m at k)

  -- before the first position no item passes
  pub before_first : (xs : List X) (at : ℕ) → slice_get (positions test xs) 0 ≡ Some at → filter test (take at xs) ≡ []
  before_first xs at h =
      let s = stands_at xs 0 0 at h in
      let same : at ≡ s.offset = omega (arith, s.place) in
      nil_from_length (filter test (take at xs)) (ap (λ n. length (filter test (take n xs))) same ∙ s.before)

  -- up to the last position all items stand that pass
  pub upto_last : (xs : List X) (n at : ℕ) → slice_get (positions test xs) n ≡ Some at → n + 1 ≡ length (filter test xs) → filter test (take (at + 1) xs) ≡ filter test xs
  upto_last xs n at h all =
      let s = stands_at xs 0 n at h in
      let front = filter test (take (at + 1) xs) in
      let rest = filter test (drop (at + 1) xs) in
      let next : at + 1 ≡ suc s.offset = omega (arith, s.place) in
      let split : filter test xs ≡ front ++ rest = ap (filter test) (sym (take-append-drop (at + 1) xs)) ∙ filter-append test (take (at + 1) xs) (drop (at + 1) xs) in
      let long : length front ≡ suc n = ap (λ k. length (filter test (take k xs))) next ∙ s.with_it in
      let none : length rest ≡ 0 = omega (arith, long, all, ap length split, length-append front rest) in
      sym (split ∙ ap (λ l. front ++ l) (nil_from_length rest none) ∙ append-nil front)

  -- no position is before the first
  first_tested : (xs : List X) (start n first at offset : ℕ) (b : Bool) → at ≡ start + offset → slice_get (cond b (start ∷ positions_from test (start + 1) xs) (positions_from test (start + 1) xs)) 0 ≡ Some first
      → slice_get (cond b (start ∷ positions_from test (start + 1) xs) (positions_from test (start + 1) xs)) n ≡ Some at
      → (slice_get (positions_from test (start + 1) xs) 0 ≡ Some first → slice_get (positions_from test (start + 1) xs) n ≡ Some at → first ≤ at) → first ≤ at
  first_tested xs start n first at offset true place h k later = omega (arith, same_Some start first h, place)
  first_tested xs start n first at offset false place h k later = later h k

  first_least : (xs : List X) (start n first at : ℕ) → slice_get (positions_from test start xs) 0 ≡ Some first → slice_get (positions_from test start xs) n ≡ Some at → first ≤ at
  first_least [] start n first at h k = absurd cc
  first_least (x ∷ xs) start n first at h k =
      let s = stands_at (x ∷ xs) start n at k in
      first_tested xs start n first at s.offset (test x) s.place h k (λ i j. first_least xs (start + 1) n first at i j)

  pub first_not_after : (xs : List X) (n first at : ℕ) → slice_get (positions test xs) 0 ≡ Some first → slice_get (positions test xs) n ≡ Some at → first ≤ at
  first_not_after xs n first at h k = first_least xs 0 n first at h k
