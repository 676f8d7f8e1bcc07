-- A key of two draws.
use Rattle.std.proofs.Common.{◌≡◌, ℕ, ◌<◌, ◌^◌, List, [], ◌∷◌, ◌++◌, Option, Some, None, option_map, refl, sym, ap, append_assoc, ◌∙◌, length, subst, arith}
use Rattle.std.proofs.lemmas.List.{length-append, length-take}
use Rattle.spelling.proofs.Lists.{All-take}
use Rattle.willow_outside.specs.Draws.{IsDraw}
use Rattle.willow_outside.specs.Facts.{NoiseFacts}
use Rattle.lms_core.specs.Key.{Key, IsKey}
use Rattle.lms_core.specs.declared.height.Height.{Height}
use Rattle.peer_make.specs.Making.{TakesDraws, TakesAtMost, IsDrawn, drawn_key}

two_draws : (a b c : Option (List (List ℕ))) (first second : List ℕ) → a ≡ option_map (λ ds. (first ∷ []) ++ ds) b → b ≡ option_map (λ ds. (second ∷ []) ++ ds) c → a ≡ option_map (λ ds. (first ∷ (second ∷ [])) ++ ds) c
two_draws a b None first second e f = e ∙ ap (option_map (λ ds. (first ∷ []) ++ ds)) f
two_draws a b (Some ds) first second e f = e ∙ ap (option_map (λ ds. (first ∷ []) ++ ds)) f

pub drawn : (height : Height) (n n1 n2 : NoiseFacts) (first second : List ℕ) (k : Key) → IsDraw first × TakesDraws n n1 (first ∷ []) → IsDraw second × TakesDraws n1 n2 (second ∷ []) → k ≡ drawn_key height first second
    → IsDrawn height n n2 k × IsKey k
drawn height n n1 n2 first second k one two is =
    let first_is = one.0 in
    let second_is = two.0 in
    let fits : IsKey (drawn_key height first second) = record {
      identifier = (omega (arith, length-take 16 first, first_is.size), All-take (λ b. b < 2 ^ 8) 16 first first_is.are_bytes);
      seed = (second_is.size, second_is.are_bytes);
      next = omega arith;
    } in
    (record { first = first; second = second; taken = two_draws n.draws n1.draws n2.draws first second one.1 two.1; of_draws = is }, subst IsKey (sym is) fits)

-- ---- many draws

append_all : (o : Option (List (List ℕ))) (ds es : List (List ℕ)) → option_map (λ xs. ds ++ xs) (option_map (λ xs. es ++ xs) o) ≡ option_map (λ xs. (ds ++ es) ++ xs) o
append_all None ds es = refl
append_all (Some xs) ds es = ap Some (sym (append_assoc ds es xs))

-- no draw is taken off
pub takes_none : (n : NoiseFacts) → TakesDraws n n []
takes_none n = same n.draws where
  same : (o : Option (List (List ℕ))) → o ≡ option_map (λ ds. [] ++ ds) o
  same None = refl
  same (Some ds) = refl

-- one draw more is taken off
pub takes_more : (n n1 n2 : NoiseFacts) (draws : List (List ℕ)) (words : List ℕ) → TakesDraws n n1 draws → TakesDraws n1 n2 (words ∷ []) → TakesDraws n n2 (draws ++ words ∷ [])
takes_more n n1 n2 draws words some one = some ∙ ap (option_map (λ ds. draws ++ ds)) one ∙ append_all n2.draws draws (words ∷ [])

-- one more than are taken off, of those that were asked for, is at most as many
pub takes_within : (count taken : ℕ) (n n1 n2 : NoiseFacts) (draws : List (List ℕ)) (words : List ℕ) → taken < count → length draws ≡ taken → TakesDraws n n1 draws → TakesDraws n1 n2 (words ∷ []) → TakesAtMost count n n2
takes_within count taken n n1 n2 draws words within many some one =
    (draws ++ words ∷ [], omega (arith, length-append draws (words ∷ [])), takes_more n n1 n2 draws words some one)
