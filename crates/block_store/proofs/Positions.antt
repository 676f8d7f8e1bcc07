-- The positions of the items that pass a test, part by part.
use Rattle.std.proofs.Common.{◌≡◌, ℕ, suc, ◌+◌, ◌≤◌, ◌<◌, Bool, true, false, not, cond, List, [], ◌∷◌, ◌++◌, length, take, drop, filter, get_or, sym, refl, ap, ◌∙◌, subst, append-nil, append_assoc, slice_get, Some, arith}
use Rattle.std.specs.List.{AllByRecursion}
use Rattle.std.proofs.Math.Seq.{take-suc}
use Rattle.std.proofs.lemmas.Bool.{not-true}
use Rattle.std.proofs.lemmas.List.{take-append-drop, length-take-le, length-append}
use Rattle.std.proofs.lemmas.List.Elements.{filter_passes, recursion_from_All}
use Rattle.block_store.specs.Positions.{positions_from, positions}

module _ {X : Type 0} (test : X → Bool) where
  pub positions_from-append : (at : ℕ) (xs ys : List X) → positions_from test at (xs ++ ys) ≡ positions_from test at xs ++ positions_from test (at + length xs) ys
  positions_from-append at [] ys = ap (λ n. positions_from test n ys) (omega arith)
  positions_from-append at (x ∷ xs) ys =
      let rest : positions_from test (at + 1) (xs ++ ys) ≡ positions_from test (at + 1) xs ++ positions_from test (at + suc (length xs)) ys =
      positions_from-append (at + 1) xs ys ∙ ap (λ n. positions_from test (at + 1) xs ++ positions_from test n ys) (omega arith) in
      let P : Bool → Type 0 = λ b. cond b (at ∷ positions_from test (at + 1) (xs ++ ys)) (positions_from test (at + 1) (xs ++ ys)) ≡ cond b (at ∷ positions_from test (at + 1) xs) (positions_from test (at + 1) xs) ++ positions_from test (at + suc (length xs)) ys in
      let each : (b : Bool) → P b = elim [ true ↦ ap (λ l. at ∷ l) rest | false ↦ rest ] in
      each (test x)

  positions_none : (at : ℕ) (xs : List X) → AllByRecursion (λ x. not (test x) ≡ true) xs → positions_from test at xs ≡ []
  positions_none at [] all = refl
  positions_none at (x ∷ xs) all = ap (λ b. cond b (at ∷ positions_from test (at + 1) xs) (positions_from test (at + 1) xs)) (not-true (test x) all.0) ∙ positions_none (at + 1) xs all.1

  -- a filter that leaves a list as it is has no item that fails
  none_from_filter : (xs : List X) → filter (λ x. not (test x)) xs ≡ xs → AllByRecursion (λ x. not (test x) ≡ true) xs
  none_from_filter xs e = subst (λ l. AllByRecursion (λ x. not (test x) ≡ true) l) e (recursion_from_All (λ x. not (test x) ≡ true) (filter (λ x. not (test x)) xs) (filter_passes (λ x. not (test x)) xs))

  pub positions-none : (xs : List X) → filter (λ x. not (test x)) xs ≡ xs → positions test xs ≡ []
  positions-none xs e = positions_none 0 xs (none_from_filter xs e)

  -- nothing passes behind a position
  pub positions-front : (xs : List X) (n : ℕ) → n ≤ length xs → filter (λ x. not (test x)) (drop n xs) ≡ drop n xs → positions test (take n xs) ≡ positions test xs
  positions-front xs n h e =
      sym (ap (positions test) (sym (take-append-drop n xs)) ∙ positions_from-append 0 (take n xs) (drop n xs)
      ∙ ap (λ l. positions test (take n xs) ++ l) (positions_none (0 + length (take n xs)) (drop n xs) (none_from_filter (drop n xs) e))
      ∙ append-nil (positions test (take n xs)))

  -- one item more
  pub positions-more : (xs : List X) (i : ℕ) (d : X) → i < length xs → positions test (take (i + 1) xs) ≡ positions test (take i xs) ++ cond (test (get_or xs i d)) (i ∷ []) []
  positions-more xs i d h =
      let next : i + 1 ≡ suc i = omega arith in
      let long : 0 + length (take i xs) ≡ i = omega (arith, length-take-le i xs (omega arith)) in
      ap (λ n. positions test (take n xs)) next ∙ ap (positions test) (take-suc xs i d h) ∙ positions_from-append 0 (take i xs) (get_or xs i d ∷ [])
      ∙ ap (λ n. positions test (take i xs) ++ cond (test (get_or xs i d)) (n ∷ []) []) long

  -- where so many pass before an item that passes, it is the next
  pub positions-at : (xs : List X) (i n : ℕ) (d : X) → i < length xs → length (positions test (take i xs)) ≡ n → test (get_or xs i d) ≡ true → slice_get (positions test xs) n ≡ Some i
  positions-at xs i n d h long e =
      let before = positions test (take i xs) in
      let rest = positions_from test (0 + length (take (i + 1) xs)) (drop (i + 1) xs) in
      let upto : positions test (take (i + 1) xs) ≡ before ++ i ∷ [] = positions-more xs i d h ∙ ap (λ b. before ++ cond b (i ∷ []) []) e in
      let whole : positions test xs ≡ before ++ i ∷ rest =
      ap (positions test) (sym (take-append-drop (i + 1) xs)) ∙ positions_from-append 0 (take (i + 1) xs) (drop (i + 1) xs)
      ∙ ap (λ l. l ++ rest) upto ∙ append_assoc before (i ∷ []) rest in
      ap (λ l. slice_get l n) whole ∙ ap (λ k. slice_get (before ++ i ∷ rest) k) (sym long) ∙ get_seam before i rest
    where
      get_seam : (before : List ℕ) (x : ℕ) (behind : List ℕ) → slice_get (before ++ x ∷ behind) (length before) ≡ Some x
      get_seam [] x behind = refl
      get_seam (y ∷ before) x behind = get_seam before x behind

  -- how many pass with one item more
  pub positions-count : (xs : List X) (i : ℕ) (d : X) → i < length xs → length (positions test (take (i + 1) xs)) ≡ length (positions test (take i xs)) + cond (test (get_or xs i d)) 1 0
  positions-count xs i d h = ap length (positions-more xs i d h) ∙ length-append (positions test (take i xs)) _ ∙ ap (λ n. length (positions test (take i xs)) + n) (one (test (get_or xs i d))) where
    one : (b : Bool) → length (cond b (i ∷ []) []) ≡ cond b 1 0
    one true = refl
    one false = refl

pub passes_from_one : (b : Bool) (n : ℕ) → n < cond b 1 0 → (b ≡ true) × (n ≡ 0)
passes_from_one true n h = (refl, omega arith)
passes_from_one false n h = absurd (omega arith)
