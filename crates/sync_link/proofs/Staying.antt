-- A machine that has read bytes, and waits for a message that begins where it began, waits for the same one all the while.
use Rattle.std.proofs.Common.{◌≡◌, ◌⊎◌, inl, inr, ℕ, ◌+◌, ◌≤◌, List, [], ◌∷◌, ◌++◌, length, refl, sym, ap, ap₂, ◌∙◌, subst, arith}
use Rattle.std.proofs.lemmas.List.{length_push}
use Rattle.session_rules.specs.Machine.{Seen, Whole, Part, Wrong, Step, Goes, Ends, Refuses, Machine}
use Rattle.session_rules.specs.Reading.{Stand, Waits, Over, Broken, Refused, stay, stepped, judged, move, run, read}
use Rattle.session_rules.proofs.Runs.{run_idle}

-- what is due, if anything is, does not begin before the offset
abbrev NotBefore : {S E : Type 0} → ℕ → Stand S E → Type 0
NotBefore first (Waits s at held) = first ≤ at
NotBefore first Over = Unit {0}
NotBefore first (Broken at) = Unit {0}
NotBefore first (Refused e) = Unit {0}

module _ {S M O R E : Type 0} (a : Machine S M O R E) where
  stepped_later : (first at : ℕ) (step : Step S O R E) → first ≤ at → NotBefore first (stepped at step).stand
  stepped_later first at (Goes s says rows) h = h
  stepped_later first at (Ends says rows) h = tt
  stepped_later first at (Refuses e) h = tt

  judged_later : (first : ℕ) (s : S) (at : ℕ) (held : List ℕ) (seen : Seen M) → first ≤ at → NotBefore first (judged a s at held seen).stand
  judged_later first s at held (Whole m) h = stepped_later first (at + length held) (a.step s m) (omega (arith, h))
  judged_later first s at held Part h = h
  judged_later first s at held Wrong h = tt

  move_later : (first : ℕ) (q : Stand S E) (byte : ℕ) → NotBefore first q → NotBefore first (move a q byte).stand
  move_later first (Waits s at held) byte h = judged_later first s at (held ++ byte ∷ []) (a.sees s (held ++ byte ∷ [])) h
  move_later first Over byte h = tt
  move_later first (Broken at) byte h = tt
  move_later first (Refused e) byte h = tt

  read_later : (first : ℕ) (q : Stand S E) (bytes : List ℕ) → NotBefore first q → NotBefore first (read a q bytes).stand
  unfolding run
  read_later first q [] h = h
  read_later first q (byte ∷ bytes) h = read_later first (move a q byte).stand bytes (move_later first q byte h)

  -- what waits behind bytes waited before, if it was not to change
  pub waited : (q : Stand S E) (s : S) (at : ℕ) (held bytes : List ℕ) → ((byte : ℕ) → move a q byte ≡ stay q) → (read a q bytes).stand ≡ Waits s at held → q ≡ Waits s at held
  waited q s at held bytes idle e = sym (ap (λ m. m.stand) (run_idle (move a) q idle bytes)) ∙ e

  module _ (mid : S) (mid_at : ℕ) (mid_held behind : List ℕ) (last : S) (last_held : List ℕ) where
    -- it went on to another message before, so that what is due begins later
    gone_on : (at later : ℕ) (q : Stand S E) (bytes : List ℕ) → NotBefore later q → at + 1 ≤ later → (read a q bytes).stand ≡ Waits mid mid_at mid_held → (read a (Waits mid mid_at mid_held) behind).stand ≡ Waits last at last_held → ⊥
    gone_on at later q bytes h more e f =
        let between = subst (NotBefore {S = S} {E = E} later) e (read_later later q bytes h) in
        let end : later ≤ at = subst (NotBefore {S = S} {E = E} later) f (read_later later (Waits mid mid_at mid_held) behind between) in
        omega (arith, more, end)

    by_seen : (s : S) (at : ℕ) (held : List ℕ) (byte : ℕ) (bytes : List ℕ) (seen : Seen M)
        → ((read a (Waits s at (held ++ byte ∷ [])) bytes).stand ≡ Waits mid mid_at mid_held → mid ≡ s)
        → (read a (judged a s at (held ++ byte ∷ []) seen).stand bytes).stand ≡ Waits mid mid_at mid_held → (read a (Waits mid mid_at mid_held) behind).stand ≡ Waits last at last_held → mid ≡ s
    by_seen s at held byte bytes (Whole m) same e f =
        let later = at + length (held ++ byte ∷ []) in
        absurd (gone_on at later (stepped later (a.step s m)).stand bytes (stepped_later later later (a.step s m) (omega arith)) (omega (arith, length_push held byte)) e f)
    by_seen s at held byte bytes Part same e f = same e
    by_seen s at held byte bytes Wrong same e f = absurd (broken_waits (waited (Broken at) mid mid_at mid_held bytes (λ b. refl) e))
      where
        broken_waits : ◌≡◌ {A = Stand S E} (Broken at) (Waits mid mid_at mid_held) → ⊥
        broken_waits is = cc

    pub same_stage : (s : S) (at : ℕ) (held bytes : List ℕ) → (read a (Waits s at held) bytes).stand ≡ Waits mid mid_at mid_held → (read a (Waits mid mid_at mid_held) behind).stand ≡ Waits last at last_held → mid ≡ s
    unfolding run
    same_stage s at held [] e f = cc
    same_stage s at held (byte ∷ bytes) e f = by_seen s at held byte bytes (a.sees s (held ++ byte ∷ [])) (λ g. same_stage s at (held ++ byte ∷ []) bytes g f) e f

-- ---- the same bytes, cut in two ways

pub cut_twice : {A : Type 0} (xs ys us vs : List A) → xs ++ ys ≡ us ++ vs → ((more : List A) × ((us ≡ xs ++ more) × (ys ≡ more ++ vs))) ⊎ ((more : List A) × (xs ≡ us ++ more))
cut_twice [] ys us vs e = inl (us, (refl, e))
cut_twice (x ∷ xs) ys [] vs e = inr (x ∷ xs, refl)
cut_twice {A} (x ∷ xs) ys (u ∷ us) vs e = by_rest (cut_twice xs ys us vs rest)
  where
    first : x ≡ u
    first = cc

    rest : xs ++ ys ≡ us ++ vs
    rest = cc

    by_rest : ((more : List A) × ((us ≡ xs ++ more) × (ys ≡ more ++ vs))) ⊎ ((more : List A) × (xs ≡ us ++ more)) → ((more : List A) × ((u ∷ us ≡ (x ∷ xs) ++ more) × (ys ≡ more ++ vs))) ⊎ ((more : List A) × (x ∷ xs ≡ (u ∷ us) ++ more))
    by_rest (inl c) = inl (c.0, (ap₂ (λ k l. k ∷ l) (sym first) c.1.0, c.1.1))
    by_rest (inr c) = inr (c.0, ap₂ (λ k l. k ∷ l) first c.1)
