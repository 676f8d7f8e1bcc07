-- What an ask costs: how many items may be said in answer to it, by both sides together.
use Rattle.std.proofs.Common.{◌≡◌, ℕ, ◌+◌, ◌*◌, ◌-◌, ◌≤◌, ◌<◌, max, List, [], ◌∷◌, length, sum_by, Some, sym, refl, arith}
use Rattle.std.specs.List.{AllByRecursion}
use Rattle.std.proofs.lemmas.List.Sums.{sum_by-cons}
use Rattle.exchange_rules.specs.Rules.{Rules, box_rows}
use Rattle.exchange_rules.specs.Items.{Ask, Print, Sent, Turn, counted, caller_turns, answerer_turns}
use Rattle.exchange_rules.specs.Answer.{print_ask, reply, opened, turn}
use Rattle.exchange_rules.specs.Exchange.{turns, enough, exchange, first_turn, first_asks}
use Rattle.exchange_rules.specs.Premises.{HasDisjointParts, DividesRows, CanCut}
use Rattle.exchange_rules.proofs.Sums.{sum_by_same, sum_by-map, sum_by-one, length_parts_within}
use Rattle.exchange_rules.proofs.Replies.{reply_cases}
use Rattle.exchange_rules.proofs.Potentials.{said, caller_turns-cons, IsWithin, turn_within, turns_within}

-- a box with so many rows of both sides together: one item that cuts it, and three for each of two rows or more
unfoldable pub box_cost : ℕ → ℕ → ℕ
box_cost a b = 2 + 3 * (a + b - 1)

-- parts that each have a row of one side cost less than three items a row, by one item a part
parts_cost : {X : Type 0} (a b : X → ℕ) (ys : List X) → AllByRecursion (λ y. 1 ≤ a y) ys
    → sum_by (λ y. box_cost (b y) (a y)) ys + length ys ≤ 3 * (sum_by a ys + sum_by b ys)
unfolding box_cost
parts_cost a b [] own = omega arith
parts_cost a b (y ∷ ys) own =
    omega (arith, own.0, sum_by-cons (λ z. box_cost (b z) (a z)) y ys, sum_by-cons a y ys, sum_by-cons b y ys, parts_cost a b ys own.1)

module _ {R X C : Type 0} (g : Rules R X C) where
  abbrev pub cost : List R → List R → Ask R X → ℕ
  cost l m (Print x print) = box_cost (length (box_rows g x l)) (length (box_rows g x m))
  cost l m (Sent x sent) = 1

  -- one item for an answer to a fingerprint, and what it opens, cost no more than the ask
  print_cost : HasDisjointParts g → (l m : List R) → CanCut g l → (x : X) (print : List ℕ)
      → 1 + sum_by (cost m l) (reply g l (Print x print)).opens ≤ cost l m (Print x print)
  unfolding box_cost
  print_cost disjoint l m can x print =
      reply_cases g l x print (λ r. 1 + sum_by (cost m l) r.opens ≤ cost l m (Print x print))
      (λ same. omega arith)
      (λ few. omega arith)
      (λ cut is.
      let c : DividesRows g l x cut = can x cut is in
      let parts = g.parts x cut in
      let opens = sum_by-map (cost m l) (print_ask g l) parts in
      let sum = parts_cost (λ y. length (box_rows g y l)) (λ y. length (box_rows g y m)) parts c.own in
      let of_l = length_parts_within g.has x parts (disjoint x cut) l in
      let of_m = length_parts_within g.has x parts (disjoint x cut) m in
      omega (arith, opens, sum, of_l, of_m, c.several))

  pub costs_within : HasDisjointParts g → (l m : List R) → CanCut g l → IsWithin g l (λ item. 1) (cost l m) (cost m l)
  unfolding reply
  costs_within disjoint l m can (Print x print) = print_cost disjoint l m can x print
  costs_within disjoint l m can (Sent x sent) = omega arith

  -- a turn that answers something leaves less to cost
  pub turn_costs : HasDisjointParts g → (l m : List R) → CanCut g l → (ask : Ask R X) (asks : List (Ask R X))
      → sum_by (cost m l) (opened g l (ask ∷ asks)) < sum_by (cost l m) (ask ∷ asks)
  turn_costs disjoint l m can ask asks =
      omega (
        arith,
        turn_within g l (λ item. 1) (cost l m) (cost m l) (costs_within disjoint l m can) (ask ∷ asks),
        sum_by-one (turn g l (ask ∷ asks)).items,
      )

  pub first_cost : (a b : List R) (x : X) → 1 + sum_by (cost b a) (first_asks g a x) ≤ max 3 (3 * (length (box_rows g x a) + length (box_rows g x b)))
  unfolding box_cost
  first_cost a b x = omega arith

-- ---- the bound

pub counted_sides : {R C : Type 0} (ts : List (Turn R C)) → counted ts ≡ counted (caller_turns ts) + counted (answerer_turns ts)
counted_sides [] = refl
counted_sides {R} {C} (t ∷ ts) =
    let lengths = λ (u : Turn R C). length u.items in
    rw (caller_turns-cons t ts) (omega (arith, sum_by-cons lengths t ts, sum_by-cons lengths t (answerer_turns ts), counted_sides ts))

counted_said : {R C : Type 0} (ts : List (Turn R C)) → counted ts ≡ said (λ item. 1) ts
counted_said ts = sum_by_same (λ t. length t.items) (λ t. sum_by (λ item. 1) t.items) (λ t. sym (sum_by-one t.items)) ts

pub counted_exchange : {R X C : Type 0} (g : Rules R X C) (a b : List R) (x : X) → HasDisjointParts g → CanCut g a → CanCut g b
    → counted (exchange g a b (Some x)) ≤ max 3 (3 * (length (box_rows g x a) + length (box_rows g x b)))
counted_exchange g a b x disjoint can_a can_b =
    let asks = first_asks g a x in
    let rest = turns g (enough g a b x) b a asks in
    let within = turns_within g (enough g a b x) b a (λ item. 1) (λ item. 1) (cost g b a) (cost g a b) (costs_within g disjoint b a can_b) (costs_within g disjoint a b can_a) asks in
    omega (
      arith,
      sum_by-cons (λ u. length u.items) (first_turn g a x) rest,
      counted_sides rest,
      counted_said (caller_turns rest),
      counted_said (answerer_turns rest),
      within,
      first_cost g a b x,
    )
