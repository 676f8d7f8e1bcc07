-- How many items there can be: of items that all stand in a list no more are new than the list has, nor are
-- there more where none is there twice.
use Rattle.std.proofs.Common.{◌≡◌, ◌≤◌, ◌<◌, ◌||◌, Bool, true, false, cond, not, List, [], ◌∷◌, ◌++◌, length, filter, refl, sym, ap, ◌∙◌, subst, arith, inl, inr}
use Rattle.std.specs.List.{list_any, AllByRecursion, IsDistinct}
use Rattle.std.proofs.lemmas.Bool.{false≢true}
use Rattle.std.proofs.lemmas.List.Folds.{list_any-append}
use Rattle.willow_entry.specs.Pruning.{new_after}
use Rattle.willow_entry.specs.Row.{RowValue, is_covering, new}
use Rattle.willow_entry.proofs.Members.{Member, member_filter, true_of_any}
use Rattle.willow_entry.proofs.RowLaws.{covering_means}

-- where one test passes all that another passes, it passes no fewer; and more where it passes one more
module _ {X : Type 0} (p q : X → Bool) (goes : (x : X) → p x ≡ true → q x ≡ true) where
  no_fewer : (xs : List X) → length (filter p xs) ≤ length (filter q xs)
  no_fewer [] = omega arith
  no_fewer (x ∷ xs) = step (p x) (q x) (goes x) (no_fewer xs) where
    step : (b c : Bool) → (b ≡ true → c ≡ true) → length (filter p xs) ≤ length (filter q xs) → length (cond b (x ∷ filter p xs) (filter p xs)) ≤ length (cond c (x ∷ filter q xs) (filter q xs))
    step true true on h = omega (arith, h)
    step true false on h = absurd (false≢true (on refl))
    step false true on h = omega (arith, h)
    step false false on h = h

  more : (xs : List X) (x : X) → Member xs x → p x ≡ false → q x ≡ true → length (filter p xs) < length (filter q xs)
  more [] x m not_p is_q = absurd m
  more (w ∷ ws) x (inl e) not_p is_q = here (p w) (q w) (ap p e ∙ not_p) (ap q e ∙ is_q) (no_fewer ws) where
    here : (b c : Bool) → b ≡ false → c ≡ true → length (filter p ws) ≤ length (filter q ws) → length (cond b (w ∷ filter p ws) (filter p ws)) < length (cond c (w ∷ filter q ws) (filter q ws))
    here true c b_no c_yes h = absurd (false≢true (sym b_no))
    here false true b_no c_yes h = omega (arith, h)
    here false false b_no c_yes h = absurd (false≢true c_yes)
  more (w ∷ ws) x (inr m) not_p is_q = there (p w) (q w) (goes w) (more ws x m not_p is_q) where
    there : (b c : Bool) → (b ≡ true → c ≡ true) → length (filter p ws) < length (filter q ws) → length (cond b (w ∷ filter p ws) (filter p ws)) < length (cond c (w ∷ filter q ws) (filter q ws))
    there true true on h = omega (arith, h)
    there true false on h = absurd (false≢true (on refl))
    there false true on h = omega (arith, h)
    there false false on h = h

-- no more pass a test than there are
passing : {X : Type 0} (p : X → Bool) (xs : List X) → length (filter p xs) ≤ length xs
passing p [] = omega arith
passing {X} p (x ∷ xs) = step (p x) (passing p xs) where
  step : (b : Bool) → length (filter p xs) ≤ length xs → length (cond b (x ∷ filter p xs) (filter p xs)) ≤ length (x ∷ xs)
  step true h = omega (arith, h)
  step false h = omega (arith, h)

neither : (a b : Bool) → not (a || b) ≡ true → not a ≡ true
neither true b e = e
neither false b e = refl

the_second : (a b : Bool) → b ≡ true → not (a || b) ≡ false
the_second true b e = refl
the_second false b e = ap not e

module _ {X : Type 0} (covers : X → X → Bool) (same : (x : X) → covers x x ≡ true) where
  -- no earlier item covers x
  abbrev is_open : List X → X → Bool
  is_open earlier x = not (list_any (λ y. covers y x) earlier)

  open_before : (earlier : List X) (x z : X) → is_open (earlier ++ x ∷ []) z ≡ true → is_open earlier z ≡ true
  open_before earlier x z e =
      neither (list_any (λ y. covers y z) earlier) (list_any (λ y. covers y z) (x ∷ [])) (sym (ap not (list_any-append (λ y. covers y z) earlier (x ∷ []))) ∙ e)

  shut_behind : (earlier : List X) (x : X) → is_open (earlier ++ x ∷ []) x ≡ false
  shut_behind earlier x =
      ap not (list_any-append (λ y. covers y x) earlier (x ∷ []))
      ∙ the_second (list_any (λ y. covers y x) earlier) (list_any (λ y. covers y x) (x ∷ [])) (true_of_any (λ y. covers y x) (x ∷ []) x (inl refl) (same x))

  few : (held earlier xs : List X) → AllByRecursion (Member held) xs → length (new_after covers earlier xs) ≤ length (filter (is_open earlier) held)
  unfolding new_after
  few held earlier [] all = omega arith
  few held earlier (x ∷ xs) all = step (list_any (λ y. covers y x) earlier) refl (few held (earlier ++ x ∷ []) xs all.1) where
    step : (b : Bool) → list_any (λ y. covers y x) earlier ≡ b → length (new_after covers (earlier ++ x ∷ []) xs) ≤ length (filter (is_open (earlier ++ x ∷ [])) held)
        → length (cond b (new_after covers (earlier ++ x ∷ []) xs) (x ∷ new_after covers (earlier ++ x ∷ []) xs)) ≤ length (filter (is_open earlier) held)
    step true e h = omega (arith, h, no_fewer (is_open (earlier ++ x ∷ [])) (is_open earlier) (open_before earlier x) held)
    step false e h = omega (arith, h, more (is_open (earlier ++ x ∷ [])) (is_open earlier) (open_before earlier x) held x all.0 (shut_behind earlier x) (ap not e))

pub few_new : (held rows : List RowValue) → AllByRecursion (Member held) rows → length (new rows) ≤ length held
few_new held rows all =
    omega (arith, few is_covering (λ r. (covering_means r r).1 (inl refl)) held [] rows all, passing (is_open is_covering (λ r. (covering_means r r).1 (inl refl)) []) held)

-- ---- items of which none is there twice

all_at : {X : Type 0} (P : X → Type 0) (xs : List X) → AllByRecursion P xs → (x : X) → Member xs x → P x
all_at P [] all x m = absurd m
all_at P (w ∷ ws) all x (inl e) = subst P e all.0
all_at P (w ∷ ws) all x (inr m) = all_at P ws all.1 x m

module _ {X : Type 0} (same : X → X → Bool) (itself : (x : X) → same x x ≡ true) where
  pub distinct_fits : (xs ys : List X) → IsDistinct same xs → ((x : X) → Member xs x → Member ys x) → length xs ≤ length ys
  unfolding IsDistinct
  distinct_fits [] ys once held = omega arith
  distinct_fits (x ∷ xs) ys once held =
      let others : X → Bool = λ y. not (same x y) in
      let all : X → Bool = λ y. true in
      let rest = distinct_fits xs (filter others ys) once.1 (λ y m. member_filter others ys y (held y (inr m)) (ap not (all_at (λ z. same x z ≡ false) xs once.0 y m))) in
      omega (arith, rest, more others all (λ y e. refl) ys x (held x (inl refl)) (ap not (itself x)) refl, passing all ys)
