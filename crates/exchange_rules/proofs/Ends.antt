-- The exchange ends, and with more turns allowed it is the same.
use Rattle.std.proofs.Common.{◌≡◌, ℕ, zero, suc, ◌≤◌, ◌<◌, false, List, [], ◌∷◌, sum_by, Option, None, Some, refl, ap, arith}
use Rattle.exchange_rules.specs.Rules.{Rules}
use Rattle.exchange_rules.specs.Items.{Ask, Turn, bye, is_empty}
use Rattle.exchange_rules.specs.Answer.{opened, turn}
use Rattle.exchange_rules.specs.Exchange.{turns, enough, exchange, first_turn, first_asks, EndWithByes}
use Rattle.exchange_rules.specs.Premises.{HasDisjointParts, CanCut}
use Rattle.exchange_rules.proofs.Costs.{cost, turn_costs, first_cost}

more_before_byes : {R C : Type 0} (t : Turn R C) (ts : List (Turn R C)) → t.ends_with_bye ≡ false → EndWithByes ts → EndWithByes (t ∷ ts)
more_before_byes t [] e h = absurd h
more_before_byes t (u ∷ []) e h = absurd h
more_before_byes t (u ∷ v ∷ ts) e h = (e, h)

-- how the turns end that answer some asks
abbrev EndFor : {R X C : Type 0} → List (Ask R X) → List (Turn R C) → Type 0
EndFor [] ts = ts ≡ bye ∷ []
EndFor (ask ∷ asks) ts = EndWithByes ts

closing : {R X C : Type 0} (t : Turn R C) (opens : List (Ask R X)) (ts : List (Turn R C)) → t.ends_with_bye ≡ is_empty opens → EndFor opens ts → EndWithByes (t ∷ ts)
closing t [] ts e h = rw h (e, refl)
closing t (ask ∷ asks) ts e h = more_before_byes t ts e h

module _ {R X C : Type 0} (g : Rules R X C) (disjoint : HasDisjointParts g) where
  pub turns_end : (n : ℕ) (l m : List R) → CanCut g l → CanCut g m → (asks : List (Ask R X)) → sum_by (cost g l m) asks < n → EndFor asks (turns g n l m asks)
  unfolding turns
  turns_end zero l m can can' asks h = absurd (omega arith)
  turns_end (suc n) l m can can' [] h = refl
  turns_end (suc n) l m can can' (ask ∷ asks) h =
      let opens = opened g l (ask ∷ asks) in
      closing (turn g l (ask ∷ asks)) opens (turns g n m l opens) refl
      (turns_end n m l can' can opens (omega (arith, turn_costs g disjoint l m can ask asks)))

  pub turns_settled : (n k : ℕ) (l m : List R) → CanCut g l → CanCut g m → (asks : List (Ask R X)) → sum_by (cost g l m) asks < n → sum_by (cost g l m) asks < k
      → turns g n l m asks ≡ turns g k l m asks
  unfolding turns
  turns_settled zero k l m can can' asks h j = absurd (omega arith)
  turns_settled (suc n) zero l m can can' asks h j = absurd (omega arith)
  turns_settled (suc n) (suc k) l m can can' [] h j = refl
  turns_settled (suc n) (suc k) l m can can' (ask ∷ asks) h j =
      let less = turn_costs g disjoint l m can ask asks in
      let same = turns_settled n k m l can' can (opened g l (ask ∷ asks)) (omega (arith, less)) (omega (arith, less)) in
      ap (λ ts. turn g l (ask ∷ asks) ∷ ts) same

  pub enough_for_first : (a b : List R) (x : X) → sum_by (cost g b a) (first_asks g a x) < enough g a b x
  enough_for_first a b x = omega (arith, first_cost g a b x)

  pub exchange_ends : (a b : List R) (x : Option X) → CanCut g a → CanCut g b → EndWithByes (exchange g a b x)
  exchange_ends a b None can_a can_b = (refl, refl)
  exchange_ends a b (Some x) can_a can_b =
      more_before_byes (first_turn g a x) (turns g (enough g a b x) b a (first_asks g a x)) refl
      (turns_end (enough g a b x) b a can_b can_a (first_asks g a x) (enough_for_first a b x))

  pub exchange_settled : (a b : List R) (x : X) → CanCut g a → CanCut g b → (most : ℕ) → enough g a b x ≤ most
      → turns g most b a (first_asks g a x) ≡ turns g (enough g a b x) b a (first_asks g a x)
  exchange_settled a b x can_a can_b most h =
      turns_settled most (enough g a b x) b a can_b can_a (first_asks g a x) (omega (arith, enough_for_first a b x)) (enough_for_first a b x)
