-- The first row that covers another: found, or none.
use Rattle.std.proofs.Common.{◌≡◌, ℕ, suc, ◌+◌, ◌<◌, Bool, true, false, not, cond, nat_lt, List, [], ◌∷◌, length, map, get_or, Option, Some, None, IfSome, IfNone, position, refl, sym, ap, ◌∙◌, inl, inr, arith, lt-ltb}
use Rattle.std.specs.List.{position_or_len}
use Rattle.std.proofs.lemmas.List.{length-map}
use Rattle.std.proofs.lemmas.List.Quantifiers.{position-Some}
use Rattle.std.proofs.lemmas.Bool.{false≢true, both_ways, false_from_ne_true}
use Rattle.willow_entry.specs.Row.{RowValue, is_covering, HasCovering, IsCoveringAt}
use Rattle.willow_entry.proofs.Members.{Member, member_from_contains}
use Rattle.willow_entry.proofs.RowLaws.{covering_means}

module _ {X : Type 0} (p : X → Bool) where
  place_within : (xs : List X) (x : X) → Member xs x → p x ≡ true → position_or_len p xs < length xs
  place_within [] x m t = absurd m
  place_within (w ∷ xs) x m t =
      let P : Bool → Type 0 = λ b. p w ≡ b → cond (not b) (1 + position_or_len p xs) 0 < suc (length xs) in
      let each : (b : Bool) → P b = elim [
        | true ↦ λ e. omega arith
        | false ↦ λ e. elim m [
          | inl q ↦ absurd (false≢true (sym e ∙ ap p q ∙ t))
          | inr n ↦ (let more = place_within xs x n t in omega arith)
        ]
      ] in
      each (p w) refl

  pub none_passes : (xs : List X) → position p xs ≡ None → (x : X) → Member xs x → p x ≡ false
  none_passes xs e x m = false_from_ne_true (p x) (λ t. absurd (apart (sym (ap (λ b. cond b (Some (position_or_len p xs)) None) (lt-ltb (position_or_len p xs) (length xs) (place_within xs x m t))) ∙ e))) where
    apart : Some (position_or_len p xs) ≡ None → ⊥
    apart q = cc

position_or_len-map : {X Y : Type 0} (p : Y → Bool) (f : X → Y) (xs : List X) → position_or_len p (map f xs) ≡ position_or_len (λ x. p (f x)) xs
position_or_len-map p f [] = refl
position_or_len-map p f (x ∷ xs) = ap (λ n. cond (not (p (f x))) (1 + n) 0) (position_or_len-map p f xs)

pub position-map : {X Y : Type 0} (p : Y → Bool) (f : X → Y) (xs : List X) → position p (map f xs) ≡ position (λ x. p (f x)) xs
position-map p f xs = ap (λ n. cond (nat_lt n (length (map f xs))) (Some n) None) (position_or_len-map p f xs) ∙ ap (λ n. cond (nat_lt (position_or_len (λ x. p (f x)) xs) n) (Some (position_or_len (λ x. p (f x)) xs)) None) (length-map xs f)

pub covering_found : (rows : List RowValue) (s : RowValue) (o : Option ℕ) → o ≡ position (λ r. is_covering r s) rows → IfSome o (λ i. IsCoveringAt rows i s)
covering_found rows s None e = tt
covering_found rows s (Some i) e =
    let at = position-Some (λ r. is_covering r s) rows i s (sym e) in
    record { within = at.0; covers = (covering_means (get_or rows i s) s).0 at.1 }

pub covering_none : (rows : List RowValue) (s : RowValue) (o : Option ℕ) → o ≡ position (λ r. is_covering r s) rows → IfNone o (HasCovering rows s → ⊥)
covering_none rows s None e = λ c. both_ways (is_covering c.0 s) (none_passes (λ r. is_covering r s) rows (sym e) c.0 (member_from_contains rows c.0 c.1)) ((covering_means c.0 s).1 c.2)
covering_none rows s (Some i) e = tt
