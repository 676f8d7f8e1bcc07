-- One step further along a list that is mapped.
use Rattle.std.proofs.Common.{◌≡◌, ℕ, suc, ◌+◌, ◌<◌, List, [], ◌∷◌, ◌++◌, length, take, drop, map, get_or, sym, ap, subst, ◌∙◌, add-one, arith}
use Rattle.std.specs.List.{AllByRecursion, flat_map}
use Rattle.std.proofs.lemmas.List.{length-map, map-append, flat_map_more}
use Rattle.std.proofs.lemmas.List.Elements.{All-from_recursion}
use Rattle.std.proofs.Math.Seq.{drop-cons, take-suc}
use Rattle.std.proofs.Math.ListN.{get_or-map}

module _ {X Y : Type 0} (f : X → Y) (xs : List X) (k : ℕ) (x : X) (within : k < length xs) (is : x ≡ get_or xs k x) where
  item_is : get_or (map f xs) k (f x) ≡ f x
  item_is = get_or-map f xs k x ∙ ap f (sym is)

  -- what is left begins with the item
  pub left_is : drop k (map f xs) ≡ f x ∷ drop (k + 1) (map f xs)
  left_is =
      drop-cons (map f xs) k (f x) (omega (arith, within, length-map xs f))
      ∙ ap (λ y. y ∷ drop (suc k) (map f xs)) item_is
      ∙ ap (λ n. f x ∷ drop n (map f xs)) (sym (add-one k))

  -- and then it is the last of what was passed
  pub passed_is : take (k + 1) (map f xs) ≡ take k (map f xs) ++ f x ∷ []
  passed_is =
      ap (λ n. take n (map f xs)) (add-one k)
      ∙ take-suc (map f xs) k (f x) (omega (arith, within, length-map xs f))
      ∙ ap (λ y. take k (map f xs) ++ y ∷ []) item_is

  mapped_is : map f (take (k + 1) xs) ≡ map f (take k xs) ++ f x ∷ []
  mapped_is =
      ap (λ n. map f (take n xs)) (add-one k)
      ∙ ap (map f) (take-suc xs k x within ∙ ap (λ y. take k xs ++ y ∷ []) (sym is))
      ∙ map-append f (take k xs) (x ∷ [])

  -- what is written of the items passed goes on with the item's
  pub written_on : {A : Type 0} (h : Y → List A) (base : List A) → (base ++ flat_map h (map f (take k xs))) ++ h (f x) ≡ base ++ flat_map h (map f (take (k + 1) xs))
  written_on h base = flat_map_more h base (map f (take k xs)) (f x) ∙ ap (λ l. base ++ flat_map h l) (sym mapped_is)

  -- what holds of each holds of the item
  pub all_here : (P : Y → Type 0) → AllByRecursion P (map f xs) → P (f x)
  all_here P all = subst P item_is (All-from_recursion P (map f xs) all k (f x) (omega (arith, within, length-map xs f)))
