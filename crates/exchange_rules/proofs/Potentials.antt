-- What is said in the turns of an exchange, weighed against what is asked: where each answer and what it opens weigh no
-- more than its ask, so do all turns, and where they weigh no less, so do all.
use Rattle.std.proofs.Common.{◌≡◌, ℕ, zero, suc, ◌+◌, ◌≤◌, List, [], ◌∷◌, sum_by, refl, arith}
use Rattle.std.proofs.lemmas.List.Sums.{sum_by-cons, sum_by-append}
use Rattle.exchange_rules.specs.Rules.{Rules}
use Rattle.exchange_rules.specs.Items.{Ask, Item, Turn, caller_turns, answerer_turns}
use Rattle.exchange_rules.specs.Answer.{reply, opened, turn}
use Rattle.exchange_rules.specs.Exchange.{turns}

-- what the items of some turns weigh
abbrev pub said : {R C : Type 0} → (Item R C → ℕ) → List (Turn R C) → ℕ
said v ts = sum_by (λ t. sum_by v t.items) ts

pub caller_turns-cons : {T : Type 0} (t : T) (ts : List T) → caller_turns (t ∷ ts) ≡ t ∷ answerer_turns ts
caller_turns-cons t [] = refl
caller_turns-cons t (u ∷ ts) = refl

module _ {R X C : Type 0} (g : Rules R X C) where
  -- an answer of a side and what it opens weigh no more than the ask
  abbrev pub IsWithin : List R → (Item R C → ℕ) → (Ask R X → ℕ) → (Ask R X → ℕ) → Type 0
  IsWithin l v w w' = (ask : Ask R X) → v (reply g l ask).item + sum_by w' (reply g l ask).opens ≤ w ask

  pub turn_within : (l : List R) (v : Item R C → ℕ) (w w' : Ask R X → ℕ) → IsWithin l v w w'
      → (asks : List (Ask R X)) → sum_by v (turn g l asks).items + sum_by w' (opened g l asks) ≤ sum_by w asks
  turn_within l v w w' step [] = omega arith
  turn_within l v w w' step (ask ∷ asks) =
      let items = sum_by-cons v (reply g l ask).item (turn g l asks).items in
      let opens = sum_by-append w' (reply g l ask).opens (opened g l asks) in
      omega (arith, items, opens, sum_by-cons w ask asks, step ask, turn_within l v w w' step asks)

  pub turns_within : (n : ℕ) (l m : List R) (v v' : Item R C → ℕ) (w w' : Ask R X → ℕ) → IsWithin l v w w' → IsWithin m v' w' w
      → (asks : List (Ask R X)) → said v (caller_turns (turns g n l m asks)) + said v' (answerer_turns (turns g n l m asks)) ≤ sum_by w asks
  unfolding turns
  turns_within zero l m v v' w w' own other asks = omega arith
  turns_within (suc n) l m v v' w w' own other [] = omega arith
  turns_within (suc n) l m v v' w w' own other (ask ∷ asks) =
      let rest = turns g n m l (opened g l (ask ∷ asks)) in
      let first = turn g l (ask ∷ asks) in
      rw (caller_turns-cons first rest) (omega (
        arith,
        sum_by-cons (λ t. sum_by v t.items) first (answerer_turns rest),
        turn_within l v w w' own (ask ∷ asks),
        turns_within n m l v' v w' w other own (opened g l (ask ∷ asks)),
      ))
