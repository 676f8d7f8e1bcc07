-- The positions of the items that pass a test, listed part by part from the first on.
use Rattle.std.proofs.Common.{◌≡◌, ℕ, suc, ◌+◌, ◌<◌, Bool, true, false, cond, List, [], ◌∷◌, ◌++◌, length, take, filter, get_or, sym, refl, ap, ◌∙◌, subst, append-nil, arith}
use Rattle.std.specs.List.{All}
use Rattle.std.proofs.Math.Seq.{take-suc}
use Rattle.std.proofs.lemmas.List.{length-take-le, length-append}
use Rattle.std.proofs.lemmas.List.Elements.{filter_passes, filter-append}
use Rattle.block_store.specs.Positions.{positions_from, positions}
use Rattle.block_store.proofs.Positions.{positions_from-append}

module _ {X : Type 0} (test : X → Bool) where
  -- one item more
  pub from-more : (start : ℕ) (xs : List X) (i : ℕ) (d : X) → i < length xs → positions_from test start (take (i + 1) xs) ≡ positions_from test start (take i xs) ++ cond (test (get_or xs i d)) ((start + i) ∷ []) []
  from-more start xs i d h =
      let next : i + 1 ≡ suc i = omega arith in
      let long : start + length (take i xs) ≡ start + i = omega (arith, length-take-le i xs (omega arith)) in
      ap (λ n. positions_from test start (take n xs)) next ∙ ap (positions_from test start) (take-suc xs i d h) ∙ positions_from-append test start (take i xs) (get_or xs i d ∷ [])
      ∙ ap (λ n. positions_from test start (take i xs) ++ cond (test (get_or xs i d)) (n ∷ []) []) long

  -- where none passes there is no position
  pub from-none : (at : ℕ) (xs : List X) → filter test xs ≡ [] → positions_from test at xs ≡ []
  from-none at [] e = refl
  from-none at (x ∷ xs) e =
      let P : Bool → Type 0 = λ b. cond b (x ∷ filter test xs) (filter test xs) ≡ [] → cond b (at ∷ positions_from test (at + 1) xs) (positions_from test (at + 1) xs) ≡ [] in
      let each : (b : Bool) → P b = elim [ true ↦ (λ f. absurd (filled f)) | false ↦ (λ f. from-none (at + 1) xs f) ] in
      each (test x) e
    where
      filled : {y : X} {ys : List X} → y ∷ ys ≡ [] → ⊥
      filled f = cc

  -- where a filter leaves all, each passes
  pub all-pass : (xs : List X) → filter test xs ≡ xs → All (λ x. test x ≡ true) xs
  all-pass xs e = subst (λ l. All (λ x. test x ≡ true) l) e (filter_passes test xs)

  pub positions-with : (front here : List X) → positions test (front ++ here) ≡ positions test front ++ positions_from test (length front) here
  positions-with front here =
      let long : 0 + length front ≡ length front = omega arith in
      positions_from-append test 0 front here ∙ ap (λ n. positions test front ++ positions_from test n here) long

  no_items : (xs : List X) → length xs ≡ 0 → xs ≡ []
  no_items [] e = refl
  no_items (x ∷ xs) e = absurd (omega arith)

  -- where as many pass of the first items as of all, these have all positions
  pub positions-upto : (front behind : List X) → filter test front ≡ filter test (front ++ behind) → positions test front ≡ positions test (front ++ behind)
  positions-upto front behind e =
      let none : filter test behind ≡ [] = no_items (filter test behind) (omega (arith, ap length (e ∙ filter-append test front behind), length-append (filter test front) (filter test behind))) in
      sym (positions-with front behind ∙ ap (λ l. positions test front ++ l) (from-none (length front) behind none) ∙ append-nil (positions test front))
