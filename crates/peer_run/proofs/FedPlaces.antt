-- Links that something is done over in order, each by itself: what is so of those behind.
use Rattle.std.proofs.Common.{◌≡◌, ◌≢◌, ℕ, ◌+◌, ◌<◌, ◌≤◌, List, [], ◌∷◌, ◌++◌, length, map, get_or, set, sym, ◌∙◌, subst, arith}
use Rattle.std.proofs.lemmas.List.{get_or-map, get_or-set_same, get_or-set_other, get_or_append_left, get_or_push, length-map}
use native.Mathlib.Decide.{dec_lt}
use mathlib.Core.Logic.{dite}

-- an item of a list that has one at a place
some_at : {X : Type 0} (xs : List X) (k : ℕ) → k < length xs → X
some_at [] k within = absurd (omega arith)
some_at (x ∷ xs) k within = x

-- the items from this place on are as they were
abbrev pub AsBefore : {X : Type 0} → List X → ℕ → List X → Type 0
AsBefore {X} olds at news = (k : ℕ) (x : X) → at ≤ k → get_or news k x ≡ get_or olds k x

-- behind the next one they still are where just that is set
pub before_on : {X : Type 0} (olds news : List X) (at : ℕ) (x : X) → AsBefore olds at news → AsBefore olds (at + 1) (set news at x)
before_on olds news at x so_far k d above = get_or-set_other news at k x d (λ e. absurd (omega (arith, e, above))) ∙ so_far k d (omega (arith, above))

-- what is done, by the number of what stands before it, to a link, and what is told of it
module _ {L F A T : Type 0} (facts : L → F) (does : ℕ → A → F → F → T → Type 0) (from : ℕ) (answers : List A) (olds : List L) where
  -- it was done at the places below this one
  abbrev pub DoneBelow : ℕ → List L → List T → Type 0
  DoneBelow at links tails = (k : ℕ) (answer : A) (old new : L) (tail : T) → k < at → does (from + k) (get_or answers k answer) (facts (get_or olds k old)) (facts (get_or links k new)) (get_or tails k tail)

  pub none_done : (at : ℕ) → at ≡ 0 → (tails : List T) → DoneBelow at olds tails
  none_done at none tails k answer old new tail below = absurd (omega arith)

  -- one more is done, at the next place
  module _ (at : ℕ) (links : List L) (tails : List T) (within : at < length links) (as_many : length tails ≡ at) (answer : A) (new : L) (tail : T) where
    pub done_on : DoneBelow at links tails → ((answer' : A) → get_or answers at answer' ≡ answer) → ((old : L) → does (from + at) answer (facts (get_or olds at old)) (facts new) tail) → DoneBelow (at + 1) (set links at new) (tails ++ tail ∷ [])
    done_on so_far is_answer one k a o n t below = dite (dec_lt k at) earlier last
      where
        earlier : k < at → does (from + k) (get_or answers k a) (facts (get_or olds k o)) (facts (get_or (set links at new) k n)) (get_or (tails ++ tail ∷ []) k t)
        earlier less =
            let apart : k ≢ at = λ e. absurd (omega (arith, e, less)) in
            subst (λ (x : T). does (from + k) (get_or answers k a) (facts (get_or olds k o)) (facts (get_or (set links at new) k n)) x) (sym (get_or_append_left tails (tail ∷ []) t k (omega (arith, less, as_many))))
            (subst (λ (x : L). does (from + k) (get_or answers k a) (facts (get_or olds k o)) (facts x) (get_or tails k t)) (sym (get_or-set_other links at k new n apart)) (so_far k a o n t less))

        here : k ≡ at → does (from + k) (get_or answers k a) (facts (get_or olds k o)) (facts (get_or (set links at new) k n)) (get_or (tails ++ tail ∷ []) k t)
        here same =
            subst (λ (i : ℕ). does (from + i) (get_or answers i a) (facts (get_or olds i o)) (facts (get_or (set links at new) i n)) (get_or (tails ++ tail ∷ []) i t)) (sym same)
            (subst (λ (x : T). does (from + at) (get_or answers at a) (facts (get_or olds at o)) (facts (get_or (set links at new) at n)) x) (sym (get_or_push tails tail t at as_many))
            (subst (λ (x : L). does (from + at) (get_or answers at a) (facts (get_or olds at o)) (facts x) tail) (sym (get_or-set_same links at new n within))
            (subst (λ (x : A). does (from + at) x (facts (get_or olds at o)) (facts new) tail) (sym (is_answer a)) (one o))))

        last : (k < at → ⊥) → does (from + k) (get_or answers k a) (facts (get_or olds k o)) (facts (get_or (set links at new) k n)) (get_or (tails ++ tail ∷ []) k t)
        last more = here (omega (arith, below, more))

  -- it is done at all places, in the words of the facts
  pub all_done : (at : ℕ) (links : List L) (tails : List T) → length olds ≤ at → length links ≡ length olds → DoneBelow at links tails
      → (k : ℕ) (answer : A) (old new : F) (tail : T) → k < length (map facts olds) → does (from + k) (get_or answers k answer) (get_or (map facts olds) k old) (get_or (map facts links) k new) (get_or tails k tail)
  all_done at links tails all same done k answer old new tail below =
      let within : k < length olds = omega (arith, below, length-map olds facts) in
      let some = some_at olds k within in
      subst (λ (x : F). does (from + k) (get_or answers k answer) x (get_or (map facts links) k new) (get_or tails k tail)) (sym (get_or-map facts olds k some old within))
      (subst (λ (x : F). does (from + k) (get_or answers k answer) (facts (get_or olds k some)) x (get_or tails k tail)) (sym (get_or-map facts links k some new (omega (arith, within, same)))) (done k answer some some tail (omega (arith, within, all))))
