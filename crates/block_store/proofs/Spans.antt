-- What a test leaves of a list where it passes from one position on and before another, and what it leaves piece by piece.
use Rattle.std.proofs.Common.{◌≡◌, ℕ, zero, suc, ◌+◌, ◌-◌, ◌≤◌, ◌<◌, Bool, true, false, cond, List, [], ◌∷◌, ◌++◌, length, map, take, drop, filter, flat_map, get_or, slice_get, Some, refl, sym, ap, ap₂, ◌∙◌, subst, append-nil, append_assoc, arith}
use Rattle.std.specs.List.{AllByRecursion, AllWithin}
use Rattle.std.specs.Option.{option_map}
use Rattle.std.proofs.Math.Seq.{take-append_seam, drop-append_seam}
use Rattle.std.proofs.lemmas.List.{take-append-drop, take-take, length-take-le, length-drop, length-append}
use Rattle.std.proofs.lemmas.List.Concat.{flat_map-append}
use Rattle.std.proofs.lemmas.List.Elements.{filter-append}
use Rattle.block_store.specs.Positions.{positions_from, positions}
use Rattle.block_store.proofs.Positions.{positions_from-append}
use Rattle.block_store.proofs.Numbering.{so_many}

module _ {X : Type 0} (P : X → Type 0) where
  -- what holds up to a position holds of the first items
  pub within_front : (xs : List X) (n : ℕ) → AllWithin P xs 0 n → AllByRecursion P (take n xs)
  within_front xs zero h = tt
  within_front [] (suc n) h = tt
  within_front (x ∷ xs) (suc n) h = (h 0 x (omega arith) (omega arith), within_front xs n (λ k d le lt. h (suc k) d (omega arith) (omega arith)))

  -- what holds from a position on holds of the last items
  pub within_back : (xs : List X) (n : ℕ) → AllWithin P xs n (length xs) → AllByRecursion P (drop n xs)
  within_back [] zero h = tt
  within_back [] (suc n) h = tt
  within_back (x ∷ xs) zero h = (h 0 x (omega arith) (omega arith), within_back xs zero (λ k d le lt. h (suc k) d (omega arith) (omega arith)))
  within_back (x ∷ xs) (suc n) h = within_back xs n (λ k d le lt. h (suc k) d (omega arith) (omega arith))

  -- what holds between two positions holds of the items between
  pub within_between : (xs : List X) (low high : ℕ) → AllWithin P xs low high → AllByRecursion P (drop low (take high xs))
  within_between xs zero high h = within_front xs high h
  within_between xs (suc low) zero h = tt
  within_between [] (suc low) (suc high) h = tt
  within_between (x ∷ xs) (suc low) (suc high) h = within_between xs low high (λ k d le lt. h (suc k) d (omega arith) (omega arith))

  pub all_parts : (xs ys : List X) → AllByRecursion P (xs ++ ys) → AllByRecursion P xs × AllByRecursion P ys
  all_parts [] ys h = (tt, h)
  all_parts (x ∷ xs) ys h = let k = all_parts xs ys h.1 in ((h.0, k.0), k.1)

get_front : {Y : Type 0} (xs ys : List Y) (n : ℕ) → n < length xs → slice_get (xs ++ ys) n ≡ slice_get xs n
get_front [] ys n h = absurd (omega arith)
get_front (x ∷ xs) ys zero h = refl
get_front (x ∷ xs) ys (suc n) h = get_front xs ys n (omega arith)

get_behind : {Y : Type 0} (xs ys : List Y) (n : ℕ) → slice_get (xs ++ ys) (length xs + n) ≡ slice_get ys n
get_behind [] ys n = let same : 0 + n ≡ n = omega arith in ap (slice_get ys) same
get_behind (x ∷ xs) ys n = let same : suc (length xs) + n ≡ suc (length xs + n) = omega arith in ap (slice_get (x ∷ (xs ++ ys))) same ∙ get_behind xs ys n

module _ {X : Type 0} (test : X → Bool) where
  pub filter_all : (xs : List X) → AllByRecursion (λ x. test x ≡ true) xs → filter test xs ≡ xs
  filter_all [] all = refl
  filter_all (x ∷ xs) all = ap (λ b. cond b (x ∷ filter test xs) (filter test xs)) all.0 ∙ ap (λ l. x ∷ l) (filter_all xs all.1)

  pub filter_none : (xs : List X) → AllByRecursion (λ x. test x ≡ false) xs → filter test xs ≡ []
  filter_none [] all = refl
  filter_none (x ∷ xs) all = ap (λ b. cond b (x ∷ filter test xs) (filter test xs)) all.0 ∙ filter_none xs all.1

  pub filter_fewer : (xs : List X) → length (filter test xs) ≤ length xs
  filter_fewer [] = omega arith
  filter_fewer (x ∷ xs) =
      let rest = filter_fewer xs in
      let P : Bool → Type 0 = λ b. length (cond b (x ∷ filter test xs) (filter test xs)) ≤ suc (length xs) in
      let each : (b : Bool) → P b = elim [ true ↦ omega arith | false ↦ omega arith ] in
      each (test x)

  -- ---- positions

  none_from : (at : ℕ) (xs : List X) → AllByRecursion (λ x. test x ≡ false) xs → positions_from test at xs ≡ []
  none_from at [] all = refl
  none_from at (x ∷ xs) all = ap (λ b. cond b (at ∷ positions_from test (at + 1) xs) (positions_from test (at + 1) xs)) all.0 ∙ none_from (at + 1) xs all.1

  all_from : (at : ℕ) (xs : List X) → AllByRecursion (λ x. test x ≡ true) xs → (n : ℕ) → n < length xs → slice_get (positions_from test at xs) n ≡ Some (at + n)
  all_from at [] all n h = absurd (omega arith)
  all_from at (x ∷ xs) all zero h =
      let same : at ≡ at + 0 = omega arith in
      ap (λ b. slice_get (cond b (at ∷ positions_from test (at + 1) xs) (positions_from test (at + 1) xs)) 0) all.0 ∙ ap (λ n. Some n) same
  all_from at (x ∷ xs) all (suc n) h =
      let same : at + 1 + n ≡ at + suc n = omega arith in
      ap (λ b. slice_get (cond b (at ∷ positions_from test (at + 1) xs) (positions_from test (at + 1) xs)) (suc n)) all.0
      ∙ all_from (at + 1) xs all.1 n (omega arith) ∙ ap (λ k. Some k) same

  moved : (m at : ℕ) (xs : List X) → positions_from test (m + at) xs ≡ map (λ k. m + k) (positions_from test at xs)
  moved m at [] = refl
  moved m at (x ∷ xs) =
      let next : m + at + 1 ≡ m + (at + 1) = omega arith in
      let rest : positions_from test (m + at + 1) xs ≡ map (λ k. m + k) (positions_from test (at + 1) xs) = ap (λ k. positions_from test k xs) next ∙ moved m (at + 1) xs in
      let P : Bool → Type 0 = λ b. cond b ((m + at) ∷ positions_from test (m + at + 1) xs) (positions_from test (m + at + 1) xs) ≡ map (λ k. m + k) (cond b (at ∷ positions_from test (at + 1) xs) (positions_from test (at + 1) xs)) in
      let each : (b : Bool) → P b = elim [ true ↦ ap (λ l. (m + at) ∷ l) rest | false ↦ rest ] in
      each (test x)

  get_moved : (m : ℕ) (xs : List ℕ) (n : ℕ) → slice_get (map (λ k. m + k) xs) n ≡ option_map (λ k. m + k) (slice_get xs n)
  get_moved m [] n = refl
  get_moved m (x ∷ xs) zero = refl
  get_moved m (x ∷ xs) (suc n) = get_moved m xs n

  -- of a list in three parts: where as many pass as stand in the first part, the next are those of the second
  pub nth_between : (front here behind : List X) (before left n : ℕ) → before ≡ length (filter test front) → n ≡ before + left → left < length (filter test here)
      → slice_get (positions test (front ++ (here ++ behind))) n ≡ option_map (λ k. length front + k) (slice_get (positions test here) left)
  nth_between front here behind before left n b e h =
      let long = so_many test front in
      let many = so_many test here in
      let at : n ≡ length (positions test front) + left = omega (arith, long) in
      let start : 0 + length front ≡ length front + 0 = omega arith in
      ap (λ l. slice_get l n) (positions_from-append test 0 front (here ++ behind))
      ∙ ap (slice_get (positions test front ++ positions_from test (0 + length front) (here ++ behind))) at
      ∙ get_behind (positions test front) (positions_from test (0 + length front) (here ++ behind)) left
      ∙ ap (λ k. slice_get (positions_from test k (here ++ behind)) left) start
      ∙ ap (λ l. slice_get l left) (moved (length front) 0 (here ++ behind))
      ∙ get_moved (length front) (positions test (here ++ behind)) left
      ∙ ap (option_map (λ k. length front + k)) (ap (λ l. slice_get l left) (positions_from-append test 0 here behind) ∙ get_front (positions test here) (positions_from test (0 + length here) behind) left (omega (arith, many)))

  -- ---- a test that passes from one position on and before another

  module _ (xs : List X) (low high : ℕ) (order : low ≤ high) (before : AllWithin (λ x. test x ≡ false) xs 0 low) (inside : AllWithin (λ x. test x ≡ true) xs low high) (behind : AllWithin (λ x. test x ≡ false) xs high (length xs)) where
    abbrev run : List X
    run = drop low (take high xs)

    parts : xs ≡ take low xs ++ (run ++ drop high xs)
    parts =
        sym (take-append-drop high xs) ∙ ap (λ l. l ++ drop high xs) (sym (take-append-drop low (take high xs)) ∙ ap (λ l. l ++ run) (take-take low high xs order))
        ∙ append_assoc (take low xs) run (drop high xs)

    none_before : AllByRecursion (λ x. test x ≡ false) (take low xs)
    none_before = within_front (λ x. test x ≡ false) xs low before

    all_inside : AllByRecursion (λ x. test x ≡ true) run
    all_inside = within_between (λ x. test x ≡ true) xs low high inside

    none_behind : AllByRecursion (λ x. test x ≡ false) (drop high xs)
    none_behind = within_back (λ x. test x ≡ false) xs high behind

    pub exact_rows : filter test xs ≡ run
    exact_rows =
        ap (filter test) parts ∙ filter-append test (take low xs) (run ++ drop high xs)
        ∙ ap₂ (λ a b. a ++ b) (filter_none (take low xs) none_before) (filter-append test run (drop high xs) ∙ ap₂ (λ a b. a ++ b) (filter_all run all_inside) (filter_none (drop high xs) none_behind))
        ∙ append-nil run

    run_long : high ≤ length xs → length run ≡ high - low
    run_long h = omega (arith, length-drop low (take high xs), length-take-le high xs h)

    pub exact_count : high ≤ length xs → length (filter test xs) ≡ high - low
    exact_count h = ap length exact_rows ∙ run_long h

    pub exact_nth : high ≤ length xs → (n : ℕ) → low + n < high → slice_get (positions test xs) n ≡ Some (low + n)
    exact_nth h n lt =
        let start : 0 + length (take low xs) ≡ low = omega (arith, length-take-le low xs (omega arith)) in
        ap (λ l. slice_get (positions test l) n) parts
        ∙ ap (λ l. slice_get l n) (positions_from-append test 0 (take low xs) (run ++ drop high xs) ∙ ap (λ l. l ++ positions_from test (0 + length (take low xs)) (run ++ drop high xs)) (none_from 0 (take low xs) none_before))
        ∙ ap (λ k. slice_get (positions_from test k (run ++ drop high xs)) n) start
        ∙ ap (λ l. slice_get l n) (positions_from-append test low run (drop high xs) ∙ ap (λ l. positions_from test low run ++ l) (none_from (low + length run) (drop high xs) none_behind) ∙ append-nil (positions_from test low run))
        ∙ all_from low run all_inside n (omega (arith, run_long h))

-- ---- items in pieces

module _ {Y X : Type 0} (f : Y → List X) (ys : List Y) where
  -- the pieces before a position, and those from it on
  pub cut_at : (n : ℕ) → flat_map f ys ≡ flat_map f (take n ys) ++ flat_map f (drop n ys)
  cut_at n = ap (flat_map f) (sym (take-append-drop n ys)) ∙ flat_map-append f (take n ys) (drop n ys)

  pub front_short : (n : ℕ) → length (flat_map f (take n ys)) ≤ length (flat_map f ys)
  front_short n = omega (arith, ap length (cut_at n), length-append (flat_map f (take n ys)) (flat_map f (drop n ys)))

  -- the items of the first pieces are the first items
  pub front_items : (n : ℕ) → take (length (flat_map f (take n ys))) (flat_map f ys) ≡ flat_map f (take n ys)
  front_items n = ap (take (length (flat_map f (take n ys)))) (cut_at n) ∙ take-append_seam (flat_map f (take n ys)) (flat_map f (drop n ys))

  pub back_items : (n : ℕ) → drop (length (flat_map f (take n ys))) (flat_map f ys) ≡ flat_map f (drop n ys)
  back_items n = ap (drop (length (flat_map f (take n ys)))) (cut_at n) ∙ drop-append_seam (flat_map f (take n ys)) (flat_map f (drop n ys))

-- one piece more
pub piece_more : {Y X : Type 0} (f : Y → List X) (ys : List Y) (i : ℕ) (d : Y) → i < length ys → flat_map f (take (i + 1) ys) ≡ flat_map f (take i ys) ++ f (get_or ys i d)
piece_more f ys i d h = let next : i + 1 ≡ suc i = omega arith in ap (λ n. flat_map f (take n ys)) next ∙ go f ys i d h where
  go : {Y X : Type 0} (f : Y → List X) (ys : List Y) (i : ℕ) (d : Y) → i < length ys → flat_map f (take (suc i) ys) ≡ flat_map f (take i ys) ++ f (get_or ys i d)
  go f [] i d h = absurd (omega arith)
  go f (y ∷ ys) zero d h = append-nil (f y)
  go f (y ∷ ys) (suc i) d h = ap (λ l. f y ++ l) (go f ys i d (omega arith)) ∙ sym (append_assoc (f y) (flat_map f (take i ys)) (f (get_or ys i d)))

-- the pieces before one, that one, and those behind it
pub piece_between : {Y X : Type 0} (f : Y → List X) (ys : List Y) (i : ℕ) (d : Y) → i < length ys → flat_map f ys ≡ flat_map f (take i ys) ++ (f (get_or ys i d) ++ flat_map f (drop (i + 1) ys))
piece_between f ys i d h = let next : suc i ≡ i + 1 = omega arith in go f ys i d h ∙ ap (λ n. flat_map f (take i ys) ++ (f (get_or ys i d) ++ flat_map f (drop n ys))) next where
  go : {Y X : Type 0} (f : Y → List X) (ys : List Y) (i : ℕ) (d : Y) → i < length ys → flat_map f ys ≡ flat_map f (take i ys) ++ (f (get_or ys i d) ++ flat_map f (drop (suc i) ys))
  go f [] i d h = absurd (omega arith)
  go f (y ∷ ys) zero d h = refl
  go f (y ∷ ys) (suc i) d h = ap (λ l. f y ++ l) (go f ys i d (omega arith)) ∙ sym (append_assoc (f y) (flat_map f (take i ys)) (f (get_or ys i d) ++ flat_map f (drop (suc i) ys)))

-- an item of a piece stands behind the pieces before
pub get_piece : {Y X : Type 0} (f : Y → List X) (ys : List Y) (i j : ℕ) (y : Y) → slice_get ys i ≡ Some y → j < length (f y) → slice_get (flat_map f ys) (length (flat_map f (take i ys)) + j) ≡ slice_get (f y) j
get_piece f [] i j y e h = absurd cc
get_piece f (z ∷ ys) zero j y e h =
    let same : z ≡ y = cc in
    let long : j < length (f z) = subst (λ w. j < length (f w)) (sym same) h in
    let at : 0 + j ≡ j = omega arith in
    ap (slice_get (f z ++ flat_map f ys)) at ∙ get_front (f z) (flat_map f ys) j long ∙ ap (λ w. slice_get (f w) j) same
get_piece f (z ∷ ys) (suc i) j y e h =
    let at : length (f z ++ flat_map f (take i ys)) + j ≡ length (f z) + (length (flat_map f (take i ys)) + j) = omega (arith, length-append (f z) (flat_map f (take i ys))) in
    ap (slice_get (f z ++ flat_map f ys)) at ∙ get_behind (f z) (flat_map f ys) (length (flat_map f (take i ys)) + j) ∙ get_piece f ys i j y e h

pub get_is : {X : Type 0} (xs : List X) (i : ℕ) (x : X) → i < length xs → x ≡ get_or xs i x → slice_get xs i ≡ Some x
get_is [] i x h e = absurd (omega arith)
get_is (y ∷ xs) zero x h e = ap (λ z. Some z) (sym e)
get_is (y ∷ xs) (suc i) x h e = get_is xs i x (omega arith) e

-- the items from one on are that item and those behind it
pub drop_is : {X : Type 0} (xs : List X) (n m : ℕ) (x : X) → slice_get xs n ≡ Some x → m ≡ n + 1 → drop n xs ≡ x ∷ drop m xs
drop_is xs n m x e next = let same : suc n ≡ m = omega arith in go xs n x e ∙ ap (λ k. x ∷ drop k xs) same where
  go : {X : Type 0} (xs : List X) (n : ℕ) (x : X) → slice_get xs n ≡ Some x → drop n xs ≡ x ∷ drop (suc n) xs
  go [] n x e = absurd cc
  go (y ∷ xs) zero x e = let same : y ≡ x = cc in ap (λ z. z ∷ xs) same
  go (y ∷ xs) (suc n) x e = go xs n x e
