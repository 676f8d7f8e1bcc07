-- The rows that pass a test, weighed: those that a side may still be asked for, against those that it sends.
use Rattle.std.proofs.Common.{◌≡◌, ℕ, ◌+◌, ◌≤◌, Bool, not, cond, List, map, sum_by, count_by, Some, arith}
use Rattle.std.specs.List.{list_any}
use Rattle.exchange_rules.specs.Rules.{Rules, box_rows}
use Rattle.exchange_rules.specs.Items.{Ask, Print, Sent, Item, Turn, rows_of_item, rows_of_turn, rows_of_turns, caller_turns, answerer_turns, to_left, to_right}
use Rattle.exchange_rules.specs.Answer.{print_ask, reply}
use Rattle.exchange_rules.specs.Exchange.{turns, enough, exchange, first_turn, first_asks}
use Rattle.exchange_rules.specs.Premises.{HasDisjointParts}
use Rattle.exchange_rules.proofs.Sums.{sum_by-flat_map, sum_by-map, sum_by-zero, sum_by_same, parts_within, count_by-filter-le}
use Rattle.exchange_rules.proofs.Replies.{reply_cases}
use Rattle.exchange_rules.proofs.Potentials.{said, caller_turns-cons, IsWithin, turns_within}

-- the rows of an item that pass
abbrev pub told : {R C : Type 0} → (R → Bool) → Item R C → ℕ
told q item = count_by q (rows_of_item item)

-- nothing
abbrev pub nothing : {R C : Type 0} → Item R C → ℕ
nothing item = 0

pub said-nothing : {R C : Type 0} (ts : List (Turn R C)) → said nothing ts ≡ 0
said-nothing ts = omega (arith, sum_by_same (λ t. sum_by nothing t.items) (λ t. 0) (λ t. sum_by-zero t.items) ts, sum_by-zero ts)

pub count_by-rows_of_turns : {R C : Type 0} (q : R → Bool) (ts : List (Turn R C)) → count_by q (rows_of_turns ts) ≡ said (told q) ts
count_by-rows_of_turns {R} q ts =
    let w : R → ℕ = λ r. cond (q r) 1 0 in
    omega (
      arith,
      sum_by-flat_map w rows_of_turn ts,
      sum_by_same (λ t. count_by q (rows_of_turn t)) (λ t. sum_by (told q) t.items) (λ t. sum_by-flat_map w rows_of_item t.items) ts,
    )

module _ {R X C : Type 0} (g : Rules R X C) where
  -- the rows of l that pass in the box of an ask to the side with rows l, and in that of an ask to the other side; what
  -- was sent is not asked for again
  abbrev pub own_weight : (R → Bool) → List R → Ask R X → ℕ
  own_weight q l (Print x print) = count_by q (box_rows g x l)
  own_weight q l (Sent x sent) = count_by q (box_rows g x l)

  abbrev pub other_weight : (R → Bool) → List R → Ask R X → ℕ
  other_weight q l (Print x print) = count_by q (box_rows g x l)
  other_weight q l (Sent x sent) = 0

  module _ (disjoint : HasDisjointParts g) (q : R → Bool) where
    parts_own_within : (l m : List R) (x : X) (cut : C) → sum_by (own_weight q l) (map (print_ask g m) (g.parts x cut)) ≤ count_by q (box_rows g x l)
    parts_own_within l m x cut =
        omega (arith, sum_by-map (own_weight q l) (print_ask g m) (g.parts x cut), parts_within g.has x (g.parts x cut) (disjoint x cut) q l)

    parts_other_within : (l m : List R) (x : X) (cut : C) → sum_by (other_weight q l) (map (print_ask g m) (g.parts x cut)) ≤ count_by q (box_rows g x l)
    parts_other_within l m x cut =
        omega (arith, sum_by-map (other_weight q l) (print_ask g m) (g.parts x cut), parts_within g.has x (g.parts x cut) (disjoint x cut) q l)

    -- a side sends no more than it is asked for, and leaves no more to be asked for
    pub own_within : (l : List R) → IsWithin g l (told q) (own_weight q l) (other_weight q l)
    unfolding reply
    own_within l (Print x print) =
        reply_cases g l x print (λ r. told q r.item + sum_by (other_weight q l) r.opens ≤ count_by q (box_rows g x l))
        (λ same. omega arith) (λ few. omega arith) (λ cut is. omega (arith, parts_other_within l l x cut))
    own_within l (Sent x sent) = omega (arith, count_by-filter-le q (λ r. not (list_any (g.same_row r) sent)) (box_rows g x l))

    -- the other side asks for no more than is left
    pub other_within : (l m : List R) → IsWithin g m nothing (other_weight q l) (own_weight q l)
    unfolding reply
    other_within l m (Print x print) =
        reply_cases g m x print (λ r. 0 + sum_by (own_weight q l) r.opens ≤ count_by q (box_rows g x l))
        (λ same. omega arith) (λ few. omega arith) (λ cut is. omega (arith, parts_own_within l m x cut))
    other_within l m (Sent x sent) = omega arith

    -- ---- the rows that are sent to each side in an exchange

    pub left_within : (a b : List R) (x : X) → count_by q (to_left (exchange g a b (Some x))) ≤ count_by q (box_rows g x b)
    left_within a b x =
        let ts = turns g (enough g a b x) b a (first_asks g a x) in
        omega (
          arith,
          count_by-rows_of_turns q (caller_turns ts),
          turns_within g (enough g a b x) b a (told q) nothing (own_weight q b) (other_weight q b) (own_within b) (other_within b a) (first_asks g a x),
        )

    pub right_within : (a b : List R) (x : X) → count_by q (to_right (exchange g a b (Some x))) ≤ count_by q (box_rows g x a)
    right_within a b x =
        let ts = turns g (enough g a b x) b a (first_asks g a x) in
        rw (caller_turns-cons (first_turn g a x) ts) (omega (
          arith,
          count_by-rows_of_turns q (answerer_turns ts),
          turns_within g (enough g a b x) b a nothing (told q) (other_weight q a) (own_weight q a) (other_within a b) (own_within a) (first_asks g a x),
        ))
