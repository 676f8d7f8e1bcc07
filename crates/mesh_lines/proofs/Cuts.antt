-- Bytes are cut at a mark in one way.
use Rattle.std.proofs.Common.{◌≡◌, ◌≢◌, ℕ, suc, ◌+◌, ◌<◌, List, [], ◌∷◌, ◌++◌, length, get_or, take, drop, refl, sym, ap, subst, ◌∙◌, arith, drop-cons}
use Rattle.std.proofs.lemmas.List.{take_more, take-append-drop}
use Rattle.mesh_lines.specs.Cuts.{Lacks, IsCut}

head_same : (x y : ℕ) (xs ys : List ℕ) → x ∷ xs ≡ y ∷ ys → x ≡ y
head_same x y xs ys same = cc

tail_same : (x y : ℕ) (xs ys : List ℕ) → x ∷ xs ≡ y ∷ ys → xs ≡ ys
tail_same x y xs ys same = cc

module _ (mark : ℕ) where
  pub one_cut : (a b x y : List ℕ) → a ++ mark ∷ x ≡ b ++ mark ∷ y → Lacks mark a → Lacks mark b → (a ≡ b) × (x ≡ y)
  one_cut [] [] x y same la lb = (refl, tail_same mark mark x y same)
  one_cut [] (c ∷ b) x y same la lb = absurd (lb.0 (sym (head_same mark c x (b ++ mark ∷ y) same)))
  one_cut (c ∷ a) [] x y same la lb = absurd (la.0 (head_same c mark (a ++ mark ∷ x) y same))
  one_cut (c ∷ a) (d ∷ b) x y same la lb =
      let heads = head_same c d (a ++ mark ∷ x) (b ++ mark ∷ y) same in
      let others = one_cut a b x y (tail_same c d (a ++ mark ∷ x) (b ++ mark ∷ y) same) la.1 lb.1 in
      (ap (λ (e : ℕ). e ∷ a) heads ∙ ap (λ (l : List ℕ). d ∷ l) others.0, others.1)

  -- where the mark does not stand, nothing is cut
  pub no_cut : (a x : List ℕ) → Lacks mark (a ++ mark ∷ x) → ⊥
  no_cut [] x lacks = lacks.0 refl
  no_cut (c ∷ a) x lacks = no_cut a x lacks.1

  pub lacks_both : (a b : List ℕ) → Lacks mark a → Lacks mark b → Lacks mark (a ++ b)
  lacks_both [] b la lb = lb
  lacks_both (c ∷ a) b la lb = (la.0, lacks_both a b la.1 lb)

  pub lacks_from : (bytes : List ℕ) → ((i : ℕ) → i < length bytes → get_or bytes i 0 ≢ mark) → Lacks mark bytes
  lacks_from [] each = tt
  lacks_from (c ∷ bytes) each = (each 0 (omega arith), lacks_from bytes (λ i within. each (suc i) (omega (arith, within))))

-- ---- the search for a mark

pub lacks_more : (mark : ℕ) (bytes : List ℕ) (at : ℕ) → at < length bytes → Lacks mark (take at bytes) → get_or bytes at 0 ≢ mark → Lacks mark (take (at + 1) bytes)
lacks_more mark bytes at within lacks other =
    subst (λ (l : List ℕ). Lacks mark l) (sym (take_more bytes at 0 within)) (lacks_both mark (take at bytes) (get_or bytes at 0 ∷ []) lacks (other, tt))

pub found : (mark : ℕ) (bytes : List ℕ) (at : ℕ) (front others : List ℕ) → at < length bytes → Lacks mark (take at bytes) → get_or bytes at 0 ≡ mark → front ≡ take at bytes → others ≡ drop (at + 1) bytes → IsCut mark bytes front others
found mark bytes at front others within lacks is fronts behind =
    let next : suc at ≡ at + 1 = omega arith in
    let here : drop at bytes ≡ mark ∷ drop (at + 1) bytes = drop-cons bytes at 0 within ∙ ap (λ (b : ℕ). b ∷ drop (suc at) bytes) is ∙ ap (λ (k : ℕ). mark ∷ drop k bytes) next in
    record {
      whole =
          sym (take-append-drop at bytes) ∙ ap (λ (l : List ℕ). take at bytes ++ l) (here ∙ ap (λ (l : List ℕ). mark ∷ l) (sym behind)) ∙ ap (λ (l : List ℕ). l ++ mark ∷ others) (sym fronts);
      first = subst (λ (l : List ℕ). Lacks mark l) (sym fronts) lacks;
    }
