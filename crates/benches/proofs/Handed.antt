-- What is known of values that are handed on, one by one.
use Rattle.std.proofs.Common.{◌≡◌, List, map, All, Result, Ok, Err, IfOk, Some, cond, is_ok, subst, arith}
use Rattle.std.specs.Result.{result_ok}
use Rattle.std.proofs.lemmas.List.{get_or-map, length-map}

-- the value of an answer that is Ok
pub of_ok : {A E : Type 0} (P : A → Type 0) (answer : Result A E) (x : A) → Some x ≡ result_ok answer → IfOk answer P → P x
of_ok P (Ok y) x is holds = let same : y ≡ x = cc in subst P same holds
of_ok P (Err e) x is holds = cc

-- what holds of the images of all items holds of the items by their images
pub all_of_map : {A B : Type 0} (P : B → Type 0) (f : A → B) (xs : List A) → All P (map f xs) → All (λ x. P (f x)) xs
all_of_map P f xs all k d within = subst P (get_or-map f xs k d (f d) within) (all k (f d) (omega (arith, length-map xs f)))

-- what was pushed, where the answer is Ok
pub pushed_ok : {A E X : Type 0} (answer : Result A E) (x : A) (now more was : List X) → Some x ≡ result_ok answer → now ≡ cond (is_ok answer) more was → now ≡ more
pushed_ok (Ok y) x now more was is pushed = pushed
pushed_ok (Err e) x now more was is pushed = cc
