use Rattle.std.proofs.Common.{◌≡◌, ℕ, List, ◌++◌, drop, length, take, refl, sym, ap, ◌∙◌}
use Rattle.std.proofs.lemmas.Bool.{false≢true}
use Rattle.std.proofs.lemmas.List.{drop_at, take_at}
use Rattle.std.proofs.lemmas.Slice.Eq.{bytes_eq-Decides}
use Rattle.scheme_core.proofs.answered.is_joined.Goals as goal

begin_is : (front rest whole begin : List ℕ) → begin ≡ take (length front) whole → front ++ rest ≡ whole → begin ≡ front
begin_is front rest whole begin cut joined = cut ∙ ap (take (length front)) (sym joined) ∙ take_at front rest (length front) refl

end_is : (front rest whole end : List ℕ) → end ≡ drop (length front) whole → front ++ rest ≡ whole → end ≡ rest
end_is front rest whole end cut joined = cut ∙ ap (drop (length front)) (sym joined) ∙ drop_at front rest (length front) refl

joined : (front rest whole begin end : List ℕ) → whole ≡ begin ++ end → begin ≡ front → end ≡ rest → front ++ rest ≡ whole
joined front rest whole begin end parts first second = sym (parts ∙ ap (λ (l : List ℕ). l ++ end) first ∙ ap (λ (l : List ℕ). front ++ l) second)

pub returns-then-eq : goal.returns-then-eq
returns-then-eq c =
    let begin = c.split_at.result.0.now in
    let end = c.split_at.result.1.now in
    let front = c.args.front.now in
    let rest = c.args.rest.now in
    let same = bytes_eq-Decides end rest in (
      λ told. joined front rest c.args.whole.now begin end c.split_at.ensures.by_index.0 ((bytes_eq-Decides begin front).0 (sym c.eq.ensures ∙ c.if-eq.true)) (same.0 (sym c.eq-then-eq.ensures ∙ told)),
      λ whole. c.eq-then-eq.ensures ∙ same.1 (end_is front rest c.args.whole.now end c.split_at.ensures.back whole),
    )

pub returns-else-eq : goal.returns-else-eq
returns-else-eq c =
    let begin = c.split_at.result.0.now in
    let front = c.args.front.now in (
      λ told. absurd (false≢true (sym c.if-eq.false ∙ told)),
      λ whole. c.eq.ensures ∙ (bytes_eq-Decides begin front).1 (begin_is front c.args.rest.now c.args.whole.now begin c.split_at.ensures.front whole),
    )
