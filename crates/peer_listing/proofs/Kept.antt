-- What stands in front stays in front.
use Rattle.std.proofs.Common.{◌≡◌, ℕ, List, ◌++◌, length, take, drop, sym, ap, ◌∙◌, append_assoc}
use Rattle.std.proofs.lemmas.List.{take_at, take-append-drop}

-- where the new list begins with one that begins with the old, it begins with the old
pub kept_on : (old more mid new : List ℕ) (n m : ℕ) → n ≡ length old → mid ≡ old ++ more → take m new ≡ mid → take n new ≡ old
kept_on old more mid new n m is parts kept =
    let whole : new ≡ old ++ (more ++ drop m new) = sym (take-append-drop m new) ∙ ap (λ (l : List ℕ). l ++ drop m new) (kept ∙ parts) ∙ append_assoc old more (drop m new) in
    ap (λ (l : List ℕ). take n l) whole ∙ take_at old (more ++ drop m new) n (sym is)
