-- Told bytes that grow in pieces.
use Rattle.std.proofs.Common.{◌≡◌, ℕ, ◌+◌, ◌-◌, List, [], ◌++◌, length, take, drop, Option, Some, None, refl, sym, ap, ◌∙◌, append-nil, append_assoc}
use Rattle.std.proofs.lemmas.List.{take_rest}
use Rattle.std.proofs.Math.Seq.{take-add}
use Rattle.std.specs.Option.{option_map}
use Rattle.willow_outside.specs.Told.{Extends}

pub extends-none : (told : Option (List ℕ)) → Extends told told []
extends-none None = refl
extends-none (Some xs) = ap (λ (l : List ℕ). Some l) (sym (append-nil xs))

extended-twice : (told : Option (List ℕ)) (xs ys : List ℕ) → option_map (λ l. l ++ ys) (option_map (λ l. l ++ xs) told) ≡ option_map (λ l. l ++ (xs ++ ys)) told
extended-twice None xs ys = refl
extended-twice (Some told) xs ys = ap (λ (l : List ℕ). Some l) (append_assoc told xs ys)

pub extends-trans : (a b c : Option (List ℕ)) (xs ys : List ℕ) → Extends a b xs → Extends b c ys → Extends a c (xs ++ ys)
extends-trans a b c xs ys p q = q ∙ ap (λ (o : Option (List ℕ)). option_map (λ (l : List ℕ). l ++ ys) o) p ∙ extended-twice a xs ys

-- what was given first and the next piece are together a longer front
pub extended-on : (a b c : Option (List ℕ)) (bytes : List ℕ) (at n : ℕ) → Extends a b (take at bytes) → Extends b c (take n (take (length bytes - at) (drop at bytes))) → Extends a c (take (at + n) bytes)
extended-on a b c bytes at n p q =
    let on : Extends b c (take n (drop at bytes)) = rw take_rest at q in
    rw take-add (extends-trans a b c (take at bytes) (take n (drop at bytes)) p on)
