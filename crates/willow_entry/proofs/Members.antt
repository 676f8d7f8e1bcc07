-- Membership by cases on the list, which inductions want, beside `Contains`, which clauses have.
use Rattle.std.proofs.Common.{◌≡◌, ℕ, zero, suc, ◌<◌, ◌⊎◌, inl, inr, Bool, true, false, cond, List, [], ◌∷◌, ◌++◌, length, get_or, filter, Contains, sym, refl, ap, ◌∙◌, arith}
use Rattle.std.specs.List.{list_any}
use Rattle.std.proofs.lemmas.Bool.{false≢true, or_parts, or_cases, or_left, or_right}

-- x is an item of the list
abbrev pub Member : {X : Type 0} → List X → X → Type 0
Member [] x = ⊥
Member (y ∷ ys) x = (y ≡ x) ⊎ Member ys x

module _ {X : Type 0} where
  pub contains_from_member : (xs : List X) (x : X) → Member xs x → Contains xs x
  contains_from_member [] x h = absurd h
  contains_from_member (y ∷ ys) x (inl e) = (0, omega arith, e)
  contains_from_member (y ∷ ys) x (inr h) =
      let r = contains_from_member ys x h in (suc r.0, omega (arith, r.1), r.2)

  member_at : (xs : List X) (x : X) (k : ℕ) → k < length xs → get_or xs k x ≡ x → Member xs x
  member_at [] x k below e = absurd (omega arith)
  member_at (y ∷ ys) x zero below e = inl e
  member_at (y ∷ ys) x (suc k) below e = inr (member_at ys x k (omega arith) e)

  pub member_from_contains : (xs : List X) (x : X) → Contains xs x → Member xs x
  member_from_contains xs x h = member_at xs x h.0 h.1 h.2

  pub member_append_left : (xs ys : List X) (x : X) → Member xs x → Member (xs ++ ys) x
  member_append_left [] ys x h = absurd h
  member_append_left (w ∷ xs) ys x (inl e) = inl e
  member_append_left (w ∷ xs) ys x (inr h) = inr (member_append_left xs ys x h)

  pub member_append_right : (xs ys : List X) (x : X) → Member ys x → Member (xs ++ ys) x
  member_append_right [] ys x h = h
  member_append_right (w ∷ xs) ys x h = inr (member_append_right xs ys x h)

  pub member_append_cases : (xs ys : List X) (x : X) → Member (xs ++ ys) x → Member xs x ⊎ Member ys x
  member_append_cases [] ys x h = inr h
  member_append_cases (w ∷ xs) ys x (inl e) = inl (inl e)
  member_append_cases (w ∷ xs) ys x (inr h) =
      elim (member_append_cases xs ys x h) [ inl m ↦ inl (inr m) | inr m ↦ inr m ]

  pub member_filter : (p : X → Bool) (xs : List X) (x : X) → Member xs x → p x ≡ true → Member (filter p xs) x
  member_filter p [] x h t = absurd h
  member_filter p (w ∷ xs) x h t =
      let P : Bool → Type 0 = λ b. p w ≡ b → Member (cond b (w ∷ filter p xs) (filter p xs)) x in
      let both : (b : Bool) → P b = elim [
        | true ↦ λ e. elim h [ inl q ↦ inl q | inr m ↦ inr (member_filter p xs x m t) ]
        | false ↦ λ e. elim h [ inl q ↦ absurd (false≢true (sym e ∙ ap p q ∙ t)) | inr m ↦ member_filter p xs x m t ]
      ] in
      both (p w) refl

  pub filter_member : (p : X → Bool) (xs : List X) (x : X) → Member (filter p xs) x → Member xs x × (p x ≡ true)
  filter_member p [] x h = absurd h
  filter_member p (w ∷ xs) x h =
      let P : Bool → Type 0 = λ b. p w ≡ b → Member (cond b (w ∷ filter p xs) (filter p xs)) x → Member (w ∷ xs) x × (p x ≡ true) in
      let both : (b : Bool) → P b = elim [
        | true ↦ λ e m. elim m [ inl q ↦ (inl q, sym (ap p q) ∙ e) | inr n ↦ (inr (filter_member p xs x n).0, (filter_member p xs x n).1) ]
        | false ↦ λ e n. (inr (filter_member p xs x n).0, (filter_member p xs x n).1)
      ] in
      both (p w) refl h

  pub any_false : (p : X → Bool) (xs : List X) → ((x : X) → Member xs x → p x ≡ false) → list_any p xs ≡ false
  any_false p [] h = refl
  any_false p (w ∷ xs) h = rw (h w (inl refl)) (any_false p xs (λ x m. h x (inr m)))

  pub false_of_any : (p : X → Bool) (xs : List X) → list_any p xs ≡ false → (x : X) → Member xs x → p x ≡ false
  false_of_any p [] e x h = absurd h
  false_of_any p (w ∷ xs) e x h =
      let parts = or_parts (p w) (list_any p xs) e in
      elim h [ inl q ↦ sym (ap p q) ∙ parts.0 | inr m ↦ false_of_any p xs parts.1 x m ]

  pub any_true : (p : X → Bool) (xs : List X) → list_any p xs ≡ true → (x : X) × Member xs x × (p x ≡ true)
  any_true p [] e = absurd (false≢true e)
  any_true p (w ∷ xs) e =
      elim (or_cases (p w) (list_any p xs) e) [ inl t ↦ (w, inl refl, t) | inr t ↦ (let r = any_true p xs t in (r.0, inr r.1, r.2)) ]

  pub true_of_any : (p : X → Bool) (xs : List X) (x : X) → Member xs x → p x ≡ true → list_any p xs ≡ true
  true_of_any p [] x h t = absurd h
  true_of_any p (w ∷ xs) x (inl q) t = or_left (p w) (list_any p xs) (ap p q ∙ t)
  true_of_any p (w ∷ xs) x (inr m) t = or_right (p w) (list_any p xs) (true_of_any p xs x m t)
