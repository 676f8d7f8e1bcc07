-- Items that stand in pieces, none of them empty: what passes a test ends in the piece that the last items tell.
use Rattle.std.proofs.Common.{◌≡◌, ◌⊎◌, inl, inr, ℕ, zero, suc, ◌+◌, ◌-◌, ◌≤◌, ◌<◌, Bool, true, false, List, [], ◌∷◌, length, take, flat_map, get_or, map, sym, refl, ap, ◌∙◌, subst, arith}
use Rattle.std.specs.List.Sorted.{IsPartitionedBy, IsPartitionPoint}
use Rattle.std.proofs.lemmas.Bool.{both_ways, false_from_ne_true, cases_eq}
use Rattle.std.proofs.lemmas.List.{length-append, length-map, take_all, get_or-map, get_or_default}
use Rattle.std.proofs.lemmas.List.Concat.{get_or-flat_map}
use Rattle.block_store.specs.Blocks.{last_passes}

-- the last item decides
pub last_decides : {X : Type 0} (test : X → Bool) (xs : List X) (d : X) → 0 < length xs → last_passes test xs ≡ test (get_or xs (length xs - 1) d)
last_decides test [] d h = absurd (omega arith)
last_decides test (x ∷ []) d h = refl
last_decides test (x ∷ y ∷ ys) d h =
    let next : suc (length (y ∷ ys) - 1) ≡ length (x ∷ y ∷ ys) - 1 = omega arith in
    last_decides test (y ∷ ys) d (omega arith) ∙ ap (λ n. test (get_or (x ∷ y ∷ ys) n d)) next

-- some item of a list that has one
pub item_of : {X : Type 0} (xs : List X) → 0 < length xs → X
item_of [] h = absurd (omega arith)
item_of (x ∷ xs) h = x

-- where the last item passes, all do
pub all_pass : {X : Type 0} (test : X → Bool) (xs : List X) (e : X) → IsPartitionedBy test xs → 0 < length xs → test (get_or xs (length xs - 1) e) ≡ true → IsPartitionPoint (λ x. test x ≡ true) (λ x. test x ≡ false) xs (length xs)
all_pass test xs e split some passes = (
  (λ k d le lt. split k (length xs - 1) d (omega arith) (omega arith) (ap test (get_or_default xs (length xs - 1) d e (omega arith)) ∙ passes)),
  (λ k d le lt. absurd (omega arith)),
)

-- where the first item fails, none passes
pub none_passes : {X : Type 0} (test : X → Bool) (xs : List X) (e : X) → IsPartitionedBy test xs → test (get_or xs 0 e) ≡ false → IsPartitionPoint (λ x. test x ≡ true) (λ x. test x ≡ false) xs 0
none_passes test xs e split fails = (
  (λ k d le lt. absurd (omega arith)),
  (λ k d le lt. false_from_ne_true (test (get_or xs k d)) (λ passes.
      both_ways (test (get_or xs 0 e)) fails (ap test (get_or_default xs 0 e d (omega arith)) ∙ split 0 k d (omega arith) lt passes))),
)

-- where the item before a place passes and the item at it fails, all that pass stand before it
pub point_between : {X : Type 0} (test : X → Bool) (xs : List X) (n : ℕ) → IsPartitionedBy test xs
    → ((d : X) → 0 < n → n ≤ length xs → test (get_or xs (n - 1) d) ≡ true) → ((d : X) → n < length xs → test (get_or xs n d) ≡ false) → n ≤ length xs
    → IsPartitionPoint (λ x. test x ≡ true) (λ x. test x ≡ false) xs n
point_between test xs n split passes fails h = (
  (λ k d le lt. split k (n - 1) d (omega arith) (omega arith) (passes d (omega arith) h)),
  (λ k d le lt. false_from_ne_true (test (get_or xs k d)) (λ later.
      both_ways (test (get_or xs n d)) (fails d (omega arith)) (split n k d le lt later))),
)

-- below, or not
pub either : (m n : ℕ) → (m < n) ⊎ (n ≤ m)
either m zero = inr (omega arith)
either zero (suc n) = inl (omega arith)
either (suc m) (suc n) = elim (either m n) [ inl h ↦ inl (omega arith) | inr h ↦ inr (omega arith) ]

module _ {A X : Type 0} (g : A → X) (test : X → Bool) (xs : List A) where
  -- what holds of what is seen of items holds of them
  pub seen_split : IsPartitionedBy test (map g xs) → IsPartitionedBy (λ a. test (g a)) xs
  seen_split split i j d le lt passes =
      ap test (sym (get_or-map g xs i d (g d) (omega arith)))
      ∙ split i j (g d) le (omega (arith, length-map xs g)) (ap test (get_or-map g xs j d (g d) lt) ∙ passes)

  pub seen_point : (n : ℕ) → n ≤ length xs → IsPartitionPoint (λ a. test (g a) ≡ true) (λ a. test (g a) ≡ false) xs n → IsPartitionPoint (λ x. test x ≡ true) (λ x. test x ≡ false) (map g xs) n
  seen_point n h point = (
    (λ k d le lt. let a = item_of xs (omega arith) in ap test (get_or-map g xs k a d (omega arith)) ∙ point.0 k a le lt),
    (λ k d le lt. let a = item_of xs (omega (arith, length-map xs g)) in
        ap test (get_or-map g xs k a d (omega (arith, length-map xs g))) ∙ point.1 k a le (omega (arith, length-map xs g))),
  )

-- lists seen in two ways have equally many items
pub same_long : {Y A B C : Type 0} (items : Y → List A) (f : A → B) (g : A → C) (ys : List Y) → length (flat_map (λ y. map f (items y)) ys) ≡ length (flat_map (λ y. map g (items y)) ys)
same_long items f g [] = refl
same_long items f g (y ∷ ys) = omega (
  arith,
  same_long items f g ys,
  length-map (items y) f,
  length-map (items y) g,
  length-append (map f (items y)) (flat_map (λ z. map f (items z)) ys),
  length-append (map g (items y)) (flat_map (λ z. map g (items z)) ys),
)

module _ {Y X : Type 0} (f : Y → List X) where
  -- how many items stand before a piece
  abbrev pub start : List Y → ℕ → ℕ
  start ys b = length (flat_map f (take b ys))

  pub start-next : (ys : List Y) (b : ℕ) (e : Y) → b < length ys → start ys (suc b) ≡ start ys b + length (f (get_or ys b e))
  start-next [] b e h = absurd (omega arith)
  start-next (y ∷ ys) zero e h = omega (arith, length-append (f y) [])
  start-next (y ∷ ys) (suc b) e h = omega (
    arith,
    start-next ys b e (omega arith),
    length-append (f y) (flat_map f (take b ys)),
    length-append (f y) (flat_map f (take (suc b) ys)),
  )

  pub start-rises : (ys : List Y) (i j : ℕ) → i ≤ j → start ys i ≤ start ys j
  start-rises ys zero j h = omega arith
  start-rises [] (suc i) j h = omega arith
  start-rises (y ∷ ys) (suc i) zero h = absurd (omega arith)
  start-rises (y ∷ ys) (suc i) (suc j) h = omega (
    arith,
    start-rises ys i j (omega arith),
    length-append (f y) (flat_map f (take i ys)),
    length-append (f y) (flat_map f (take j ys)),
  )

  pub start-all : (ys : List Y) (b : ℕ) → length ys ≤ b → start ys b ≡ length (flat_map f ys)
  start-all ys b h = ap (λ l. length (flat_map f l)) (take_all b ys h)

  pub start-within : (ys : List Y) (b : ℕ) → start ys b ≤ length (flat_map f ys)
  start-within ys b = elim (either b (length ys)) [
    | inl h ↦ omega (arith, start-rises ys b (length ys) (omega arith), start-all ys (length ys) (omega arith))
    | inr h ↦ omega (arith, start-all ys b h)
  ]

  module _ (test : X → Bool) (some : (y : Y) → 0 < length (f y)) (ys : List Y) (split : IsPartitionedBy test (flat_map f ys)) where
    -- a piece's last item among all items
    last_index : (b : ℕ) (e : Y) (d : X) → b < length ys → get_or (flat_map f ys) (start ys b + (length (f (get_or ys b e)) - 1)) d ≡ get_or (f (get_or ys b e)) (length (f (get_or ys b e)) - 1) d
    last_index b e d h = get_or-flat_map f ys b (length (f (get_or ys b e)) - 1) e d h (omega (arith, some (get_or ys b e)))

    pub lasts_split : IsPartitionedBy (λ y. last_passes test (f y)) ys
    lasts_split i j e le lt passes = elim (cases_eq i j) [
      | inl same ↦ subst (λ k. last_passes test (f (get_or ys k e)) ≡ true) (sym same) passes
      | inr apart ↦ (
          let y = get_or ys i e in
          let z = get_or ys j e in
          let d = item_of (f y) (some y) in
          let in_order : start ys i + (length (f y) - 1) ≤ start ys j + (length (f z) - 1) =
          omega (arith, some y, some z, start-next ys i e (omega arith), start-rises ys (suc i) j (omega arith)) in
          let within : start ys j + (length (f z) - 1) < length (flat_map f ys) =
          omega (arith, some z, start-next ys j e lt, start-within ys (suc j)) in
          let later : test (get_or (flat_map f ys) (start ys j + (length (f z) - 1)) d) ≡ true =
          ap test (last_index j e d lt) ∙ sym (last_decides test (f z) d (some z)) ∙ passes in
          last_decides test (f y) d (some y) ∙ ap test (sym (last_index i e d (omega arith)))
          ∙ split (start ys i + (length (f y) - 1)) (start ys j + (length (f z) - 1)) d in_order within later
          )
    ]

    module _ (b : ℕ) (e : Y) (inside : b < length ys) where
      abbrev piece : List X
      piece = f (get_or ys b e)

      item_index : (i : ℕ) (d : X) → i < length piece → get_or (flat_map f ys) (start ys b + i) d ≡ get_or piece i d
      item_index i d h = get_or-flat_map f ys b i e d inside h

      ends : start ys b + length piece ≤ length (flat_map f ys)
      ends = omega (arith, start-next ys b e inside, start-within ys (suc b))

      pub piece_split : IsPartitionedBy test piece
      piece_split i j d le lt passes =
          ap test (sym (item_index i d (omega arith)))
          ∙ split (start ys b + i) (start ys b + j) d (omega arith) (omega (arith, ends)) (ap test (item_index j d lt) ∙ passes)

      -- where some items of the piece pass and others do not, all items end passing there
      pub found_inside : (off : ℕ) → 0 < off → off < length piece → IsPartitionPoint (λ x. test x ≡ true) (λ x. test x ≡ false) piece off → IsPartitionPoint (λ x. test x ≡ true) (λ x. test x ≡ false) (flat_map f ys) (start ys b + off)
      found_inside off some_pass short found = (before, behind) where
        before : (k : ℕ) (d : X) → 0 ≤ k → k < start ys b + off → test (get_or (flat_map f ys) k d) ≡ true
        before k d le lt =
            split k (start ys b + (off - 1)) d (omega arith) (omega (arith, ends))
            (ap test (item_index (off - 1) d (omega arith)) ∙ found.0 (off - 1) d (omega arith) (omega arith))

        behind : (k : ℕ) (d : X) → start ys b + off ≤ k → k < length (flat_map f ys) → test (get_or (flat_map f ys) k d) ≡ false
        behind k d le lt = false_from_ne_true (test (get_or (flat_map f ys) k d)) (λ passes.
            both_ways (test (get_or piece off d)) (found.1 off d (omega arith) short)
            (ap test (sym (item_index off d short)) ∙ split (start ys b + off) k d le lt passes))

      module _ (point : IsPartitionPoint (λ y. last_passes test (f y) ≡ true) (λ y. last_passes test (f y) ≡ false) ys b)
          (off : ℕ) (found : IsPartitionPoint (λ x. test x ≡ true) (λ x. test x ≡ false) piece off) where
        -- the last item of the piece fails, so not all of its items pass
        pub off_inside : off ≤ length piece → off < length piece
        off_inside h = elim (cases_eq off (length piece)) [
          | inl same ↦ (
              let d = item_of piece (some (get_or ys b e)) in
              let passes = found.0 (length piece - 1) d (omega arith) (omega (arith, some (get_or ys b e))) in
              absurd (both_ways (last_passes test piece) (point.1 b e (omega arith) inside) (last_decides test piece d (some (get_or ys b e)) ∙ passes))
              )
          | inr apart ↦ omega arith
        ]

        pub found_in : off < length piece → IsPartitionPoint (λ x. test x ≡ true) (λ x. test x ≡ false) (flat_map f ys) (start ys b + off)
        found_in short = (before, behind) where
          early : (k : ℕ) (d : X) → k < start ys b → (p : ℕ) → suc p ≡ b → test (get_or (flat_map f ys) k d) ≡ true
          early k d lt p q =
              let h : p < length ys = omega arith in
              let y = get_or ys p e in
              let passes = point.0 p e (omega arith) (omega arith) in
              let begin : start ys b ≡ start ys p + length (f y) = ap (start ys) (sym q) ∙ start-next ys p e h in
              split k (start ys p + (length (f y) - 1)) d (omega (arith, some y)) (omega (arith, some y, start-within ys b))
              (ap test (last_index p e d h) ∙ sym (last_decides test (f y) d (some y)) ∙ passes)

          before : (k : ℕ) (d : X) → 0 ≤ k → k < start ys b + off → test (get_or (flat_map f ys) k d) ≡ true
          before k d le lt = elim (either k (start ys b)) [
            | inl early_k ↦ before_piece b refl early_k
            | inr late ↦ (
                let i = k - start ys b in
                let at : start ys b + i ≡ k = omega arith in
                ap (λ n. test (get_or (flat_map f ys) n d)) (sym at) ∙ ap test (item_index i d (omega arith)) ∙ found.0 i d (omega arith) (omega arith)
                )
          ]
            where
              before_piece : (c : ℕ) → c ≡ b → k < start ys b → test (get_or (flat_map f ys) k d) ≡ true
              before_piece zero q h = absurd (omega (arith, ap (start ys) q))
              before_piece (suc p) q h = early k d h p q

          behind : (k : ℕ) (d : X) → start ys b + off ≤ k → k < length (flat_map f ys) → test (get_or (flat_map f ys) k d) ≡ false
          behind k d le lt = false_from_ne_true (test (get_or (flat_map f ys) k d)) (λ passes.
              both_ways (test (get_or piece off d)) (found.1 off d (omega arith) short)
              (ap test (sym (item_index off d short)) ∙ split (start ys b + off) k d le lt passes))

    -- where all pieces end passing, all items pass
    pub found_end : IsPartitionPoint (λ y. last_passes test (f y) ≡ true) (λ y. last_passes test (f y) ≡ false) ys (length ys) → IsPartitionPoint (λ x. test x ≡ true) (λ x. test x ≡ false) (flat_map f ys) (length (flat_map f ys))
    found_end point = ((λ k d le lt. passes (length ys) refl k d lt), (λ k d le lt. absurd (omega arith))) where
      passes : (n : ℕ) → n ≡ length ys → (k : ℕ) (d : X) → k < length (flat_map f ys) → test (get_or (flat_map f ys) k d) ≡ true
      passes zero q k d lt = absurd (omega (arith, start-all ys zero (omega arith)))
      passes (suc p) q k d lt = with_piece (item_of ys (omega arith)) where
        with_piece : Y → test (get_or (flat_map f ys) k d) ≡ true
        with_piece e =
            let y = get_or ys p e in
            let whole : start ys p + length (f y) ≡ length (flat_map f ys) = sym (start-next ys p e (omega arith)) ∙ start-all ys (suc p) (omega arith) in
            split k (start ys p + (length (f y) - 1)) d (omega (arith, some y)) (omega (arith, some y))
            (ap test (last_index p e d (omega arith)) ∙ sym (last_decides test (f y) d (some y)) ∙ point.0 p e (omega arith) (omega arith))
