-- Lists that are gone through, and what is collected of them.
use Rattle.std.proofs.Common.{◌≡◌, ◌⊎◌, inl, inr, ◌+◌, ◌-◌, ◌<◌, ◌≤◌, ℕ, All, List, [], ◌∷◌, ◌++◌, length, map, drop, take, slice_index_or, Some, None, Result, Ok, Err, arith, sym, ap, subst, ◌∙◌, add-one}
use Rattle.std.proofs.Math.Seq.{take-append-add, take-suc}
use Rattle.std.proofs.lemmas.List.{length-take, map-append, take-append-drop}
use Rattle.std.proofs.lemmas.List.Elements.{All-cons}
use Rattle.std.proofs.lemmas.Option.{slice_get_cases}
use Rattle.std.proofs.lemmas.Slice.Zip.{AllZip-map}
use Rattle.std.specs.Prelude.{IfOk, MatchResult, Contains, slice_get}
use Rattle.std.specs.Borrow.{Bor}
use Rattle.std.specs.Global.{Vec}
use Rattle.std.specs.List.{AllZip}
use Rattle.rayon.proofs.ListFacts.{IfOk-then}
use Rattle.rayon.proofs.ToStd.{slice-AllZip}

-- one element more of a list that is gone through
pub passed : {X : Type 0} (xs : List X) (k : ℕ) (x : X) → k < length xs → x ≡ slice_index_or xs k x → take (k + 1) xs ≡ take k xs ++ x ∷ []
passed {X} xs k x lt is = ap (λ (n : ℕ). take n xs) (add-one k) ∙ take-suc xs k x lt ∙ ap (λ (y : X). take k xs ++ y ∷ []) (sym is)

module _ {X Y : Type 0} (f : X → Y) where
  -- one step through two lists of which the other is mapped from the one
  pub both_turn : (xs rest : List X) (ys others : List Y) (x : X) (y : Y) → ys ≡ map f xs → xs ≡ x ∷ rest → ys ≡ y ∷ others → (y ≡ f x) × (others ≡ map f rest)
  both_turn xs rest ys others x y are first second =
      let both : y ∷ others ≡ f x ∷ map f rest = sym second ∙ are ∙ ap (map f) first in
      let head : y ≡ f x = cc in
      let tail : others ≡ map f rest = cc in
      (head, tail)

  pub both_begin : (xs rest : List X) (ys others : List Y) → ys ≡ map f xs → rest ≡ xs → others ≡ ys → others ≡ map f rest
  both_begin xs rest ys others are first second = second ∙ are ∙ ap (map f) (sym first)

-- some elements more of a list that is mapped by two functions, one behind the other
module _ {X Y Z : Type 0} (f : Y → Z) (g : X → Y) where
  pub group_more : (xs : List X) (n to : ℕ) (done more : List Z) → n ≤ to → n ≤ length xs → done ≡ map f (map g (take n xs)) → more ≡ map f (map g (take (to - n) (drop n xs)))
      → done ++ more ≡ map f (map g (take to xs))
  group_more xs n to done more order within are next =
      let long : length (take n xs) ≡ n = omega (arith, length-take n xs, within) in
      let front : take n xs ++ take (to - n) (drop n xs) ≡ take to xs =
      sym (take-append-add (take n xs) (drop n xs) (to - n)) ∙ ap (λ (l : List X). take (length (take n xs) + (to - n)) l) (take-append-drop n xs)
      ∙ ap (λ (k : ℕ). take k xs) (omega (arith, long, order)) in
      ap (λ (l : List Z). l ++ more) are ∙ ap (λ (l : List Z). map f (map g (take n xs)) ++ l) next
      ∙ sym (map-append f (map g (take n xs)) (map g (take (to - n) (drop n xs))))
      ∙ ap (map f) (sym (map-append g (take n xs) (take (to - n) (drop n xs))) ∙ ap (map g) front)

-- one element more of a list that is mapped place by place
pub mapped_on : {X Y : Type 0} (f : X → Y) (xs : List X) (k : ℕ) (ys : List Y) (y : Y) → k < length xs → ys ≡ map f (take k xs) → ((x : X) → slice_get xs k ≡ Some x → y ≡ f x) → ys ++ y ∷ [] ≡ map f (take (k + 1) xs)
mapped_on {X} {Y} f xs k ys y lt are is = by_case (slice_get_cases xs k).1
  where
    by_case : ((x : X) × (k < length xs) × (slice_get xs k ≡ Some x) × (slice_index_or xs k x ≡ x)) ⊎ ((length xs ≤ k) × (slice_get xs k ≡ None)) → ys ++ y ∷ [] ≡ map f (take (k + 1) xs)
    by_case (inl (x, lt', got, same)) =
        ap (λ (l : List Y). l ++ y ∷ []) are ∙ ap (λ (z : Y). map f (take k xs) ++ z ∷ []) (is x got) ∙ sym (map-append f (take k xs) (x ∷ []))
        ∙ ap (map f) (sym (passed xs k x lt (sym same)))
    by_case (inr past) = absurd (omega (arith, past.0, lt))

module _ {X Y E : Type 0} (R : X → Y → Type 0) where
  -- results that are all there are right, where each is if it is there
  all_there : (xs : List X) (rs : List (Result Y E)) (ys : List Y) → AllZip (λ x r. IfOk r (R x)) xs rs → rs ≡ map Ok ys → AllZip R xs ys
  all_there [] [] [] h are = tt
  all_there [] [] (y ∷ ys) h are = absurd cc
  all_there [] (r ∷ rs) ys h are = absurd h
  all_there (x ∷ xs) [] ys h are = absurd h
  all_there (x ∷ xs) (r ∷ rs) [] h are = absurd cc
  all_there (x ∷ xs) (Ok z ∷ rs) (y ∷ ys) h are =
      let same : z ≡ y = cc in
      let rest : rs ≡ map Ok ys = cc in
      (subst (R x) same h.0, all_there xs rs ys h.1 rest)
  all_there (x ∷ xs) (Err e ∷ rs) (y ∷ ys) h are = absurd cc

  -- the same of a collection of them
  pub collected : (s : List X) (zs : List (Bor X)) (rs : List (Result Y E)) (v : Result (Vec Y) E) → map (λ (z : Bor X). z.now) zs ≡ s → AllZip (λ (z : Bor X) r. IfOk r (R z.now)) zs rs
      → MatchResult v (λ c. (ys : List Y) × (rs ≡ map Ok ys) × (c.items ≡ ys)) (λ e. Contains rs (Err e)) → IfOk v (λ c. AllZip R s c.items)
  collected s zs rs (Ok c) shown each got = subst (AllZip R s) (sym got.2) (all_there s rs got.0 (slice-AllZip zs s shown (λ x r. IfOk r (R x)) rs each) got.1)
  collected s zs rs (Err e) shown each got = tt

-- what holds of each of the second list, whatever stands beside it
all_right : {X Y : Type 0} (Q : Y → Type 0) (xs : List X) (ys : List Y) → AllZip (λ x y. Q y) xs ys → All Q ys
all_right Q [] [] h = λ k d lt. absurd (omega (arith, lt))
all_right Q [] (y ∷ ys) h = absurd h
all_right Q (x ∷ xs) [] h = absurd h
all_right Q (x ∷ xs) (y ∷ ys) h = All-cons Q y ys h.0 (all_right Q xs ys h.1)

-- the same of a collection, where it holds of each result that is there
pub collected_all : {X Y E : Type 0} (Q : Y → Type 0) (xs : List X) (rs : List (Result Y E)) (v : Result (Vec Y) E) → AllZip (λ x r. IfOk r Q) xs rs
    → MatchResult v (λ c. (ys : List Y) × (rs ≡ map Ok ys) × (c.items ≡ ys)) (λ e. Contains rs (Err e)) → IfOk v (λ c. All Q c.items)
collected_all Q xs rs (Ok c) each got = subst (All Q) (sym got.2) (all_right Q xs got.0 (all_there (λ x y. Q y) xs rs got.0 each got.1))
collected_all Q xs rs (Err e) each got = tt

-- a collection of what each element is mapped to
pub collected_map : {X Y E : Type 0} (f : X → Y) (s : List X) (v : Result (Vec Y) E) → IfOk v (λ c. AllZip (λ x y. y ≡ f x) s c.items) → IfOk v (λ c. c.items ≡ map f s)
collected_map f s v all = IfOk-then v (λ c. AllZip (λ x y. y ≡ f x) s c.items) (λ c. c.items ≡ map f s) all (λ c each. AllZip-map f s c.items each)
