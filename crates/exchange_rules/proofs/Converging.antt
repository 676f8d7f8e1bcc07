-- Where fingerprints tell rows apart, each side is sent what it lacks.
use Rattle.std.proofs.Common.{◌≡◌, ◌⊎◌, ℕ, zero, suc, ◌+◌, ◌≤◌, ◌<◌, Bool, true, not, List, [], ◌∷◌, sum_by, count_by, Contains, Some, inl, inr, sym, refl, ap, ◌∙◌, arith}
use Rattle.std.specs.List.{AllByRecursion, IsDistinct, list_any}
use Rattle.std.proofs.lemmas.Bool.{cases_lt, false_from_ne_true, not_from_false}
use Rattle.std.proofs.lemmas.List.Sums.{sum_by-cons, sum_by-append}
use Rattle.std.proofs.lemmas.List.Elements.{filter_passes, All-contains}
use Rattle.exchange_rules.specs.Rules.{Rules, box_rows, box_print}
use Rattle.exchange_rules.specs.Items.{Ask, Print, Sent, Item, caller_turns, answerer_turns, to_left, to_right}
use Rattle.exchange_rules.specs.Answer.{print_ask, lacking, reply, opened, turn}
use Rattle.exchange_rules.specs.Exchange.{turns, asked, enough, exchange, first_turn, first_asks, IsApart, Apart}
use Rattle.exchange_rules.specs.Premises.{IsDeciding, HasDisjointParts, CanCut}
use Rattle.exchange_rules.proofs.Sums.{sum_by-map, parts_cover, count_by-filter-le}
use Rattle.exchange_rules.proofs.Members.{count_by-filter, contains_counted, counted_contains, any_counted, all-append, all_front, all_back, all-map}
use Rattle.exchange_rules.proofs.Once.{held_rows, distinct_rows}
use Rattle.exchange_rules.proofs.Replies.{reply_cases}
use Rattle.exchange_rules.proofs.Potentials.{said, caller_turns-cons}
use Rattle.exchange_rules.proofs.Costs.{cost, turn_costs}
use Rattle.exchange_rules.proofs.Ends.{enough_for_first}
use Rattle.exchange_rules.proofs.Sending.{told, nothing, said-nothing, count_by-rows_of_turns, own_weight, other_weight, left_within, right_within}

module _ {R X C : Type 0} (g : Rules R X C) where
  -- an ask carries what the other side, with rows m, holds in its box
  abbrev pub Carries : List R → Ask R X → Type 0
  Carries m (Print x print) = print ≡ box_print g x m
  Carries m (Sent x sent) = sent ≡ box_rows g x m

  pub reply_carries : (l : List R) (ask : Ask R X) → AllByRecursion (Carries l) (reply g l ask).opens
  unfolding reply
  reply_carries l (Print x print) =
      reply_cases g l x print (λ r. AllByRecursion (Carries l) r.opens)
      (λ same. tt) (λ few. (refl, tt)) (λ cut is. all-map (Carries l) (print_ask g l) (λ y. refl) (g.parts x cut))
  reply_carries l (Sent x sent) = tt

  opened_carry : (l : List R) (asks : List (Ask R X)) → AllByRecursion (Carries l) (opened g l asks)
  opened_carry l [] = tt
  opened_carry l (ask ∷ asks) = all-append (Carries l) (reply g l ask).opens (opened g l asks) (reply_carries l ask) (opened_carry l asks)

  -- an answer and what it opens weigh no less than an ask that carries what it should and tells rows apart
  abbrev Covers : List R → List R → (Ask R X → Type 0) → (Item R C → ℕ) → (Ask R X → ℕ) → (Ask R X → ℕ) → Type 0
  Covers l m D v w w' = (ask : Ask R X) → Carries m ask → D ask → w ask ≤ v (reply g l ask).item + sum_by w' (reply g l ask).opens

  turn_covers : (l m : List R) (D : Ask R X → Type 0) (v : Item R C → ℕ) (w w' : Ask R X → ℕ) → Covers l m D v w w'
      → (asks : List (Ask R X)) → AllByRecursion (Carries m) asks → AllByRecursion D asks
      → sum_by w asks ≤ sum_by v (turn g l asks).items + sum_by w' (opened g l asks)
  turn_covers l m D v w w' step [] c d = omega arith
  turn_covers l m D v w w' step (ask ∷ asks) c d =
      let items = sum_by-cons v (reply g l ask).item (turn g l asks).items in
      let opens = sum_by-append w' (reply g l ask).opens (opened g l asks) in
      omega (arith, items, opens, sum_by-cons w ask asks, step ask c.0 d.0, turn_covers l m D v w w' step asks c.1 d.1)

  module _ (disjoint : HasDisjointParts g) where
    turns_cover : (n : ℕ) (l m : List R) → CanCut g l → CanCut g m → (D : Ask R X → Type 0) (v v' : Item R C → ℕ) (w w' : Ask R X → ℕ)
        → Covers l m D v w w' → Covers m l D v' w' w
        → (asks : List (Ask R X)) → AllByRecursion (Carries m) asks → AllByRecursion D (asked g n l m asks) → sum_by (cost g l m) asks < n
        → sum_by w asks ≤ said v (caller_turns (turns g n l m asks)) + said v' (answerer_turns (turns g n l m asks))
    unfolding turns asked
    turns_cover zero l m can can' D v v' w w' own other asks c d h = absurd (omega arith)
    turns_cover (suc n) l m can can' D v v' w w' own other [] c d h = omega arith
    turns_cover (suc n) l m can can' D v v' w w' own other (ask ∷ asks) c d h =
        let opens = opened g l (ask ∷ asks) in
        let rest = turns g n m l opens in
        let first = turn g l (ask ∷ asks) in
        let here = turn_covers l m D v w w' own (ask ∷ asks) c (all_front D (ask ∷ asks) (asked g n m l opens) d) in
        let later = turns_cover n m l can' can D v' v w' w other own opens (opened_carry l (ask ∷ asks)) (all_back D (ask ∷ asks) (asked g n m l opens) d)
        (omega (arith, turn_costs g disjoint l m can ask asks)) in
        rw (caller_turns-cons first rest) (omega (arith, sum_by-cons (λ t. sum_by v t.items) first (answerer_turns rest), here, later))

-- ---- rows that the other side lacks

apart_turned : {R X C : Type 0} (g : Rules R X C) (a b : List R) (ask : Ask R X) → IsApart g a b ask → IsApart g b a ask
apart_turned g a b (Print x print) d = λ e. sym (d (sym e))
apart_turned g a b (Sent x sent) d = tt

module _ {R X C : Type 0} (g : Rules R X C) (decides : IsDeciding g) (q : R → Bool) (l m : List R) (none : (x : X) → count_by q (box_rows g x m) ≡ 0) where
  -- where the fingerprints are the same, no row passes
  none_where_same : (x : X) → IsApart g l m (Print x []) → box_print g x l ≡ box_print g x m → count_by q (box_rows g x l) ≡ 0
  none_where_same x apart e = ap (count_by q) (apart e) ∙ none x

  -- no row that passes is among those sent
  lacking_counted : (x : X) (sent : List R) → sent ≡ box_rows g x m → count_by q (lacking g l x sent) ≡ count_by q (box_rows g x l)
  lacking_counted x sent e =
      count_by-filter q (λ r. not (list_any (g.same_row r) sent))
      (λ r passes. not_from_false (list_any (g.same_row r) sent) (false_from_ne_true (list_any (g.same_row r) sent)
      (λ found. absurd (omega (
        arith,
        ap (count_by q) e ∙ none x,
        any_counted (g.same_row r) q (λ s same. ap q (sym ((decides.rows r s).0 same)) ∙ passes) sent found,
      )))))
      (box_rows g x l)

  own_covers : CanCut g l → Covers g l m (IsApart g l m) (told q) (own_weight g q l) (other_weight g q l)
  unfolding reply
  own_covers can (Print x print) carries apart =
      reply_cases g l x print (λ r. count_by q (box_rows g x l) ≤ told q r.item + sum_by (other_weight g q l) r.opens)
      (λ same. omega (arith, none_where_same x apart (sym ((decides.prints print (box_print g x l)).0 same) ∙ carries)))
      (λ few. omega arith)
      (λ cut is. omega (arith, sum_by-map (other_weight g q l) (print_ask g l) (g.parts x cut), parts_cover g.has x (g.parts x cut) (can x cut is).covers q l))
  own_covers can (Sent x sent) carries apart = omega (arith, lacking_counted x sent carries)

  other_covers : CanCut g m → Covers g m l (IsApart g l m) nothing (other_weight g q l) (own_weight g q l)
  unfolding reply
  other_covers can (Print x print) carries apart =
      reply_cases g m x print (λ r. count_by q (box_rows g x l) ≤ 0 + sum_by (own_weight g q l) r.opens)
      (λ same. omega (arith, none_where_same x apart (sym carries ∙ (decides.prints print (box_print g x m)).0 same)))
      (λ few. omega arith)
      (λ cut is. omega (arith, sum_by-map (own_weight g q l) (print_ask g m) (g.parts x cut), parts_cover g.has x (g.parts x cut) (can x cut is).covers q l))
  other_covers can (Sent x sent) carries apart = omega arith

-- ---- in the exchange

module _ {R X C : Type 0} (g : Rules R X C) (decides : IsDeciding g) (disjoint : HasDisjointParts g) (a b : List R) (can_a : CanCut g a) (can_b : CanCut g b) (x : X) (apart : Apart g a b x) where
  left_covers : (q : R → Bool) → ((y : X) → count_by q (box_rows g y a) ≡ 0) → count_by q (box_rows g x b) ≤ count_by q (to_left (exchange g a b (Some x)))
  left_covers q none =
      let n = enough g a b x in
      let asks = first_asks g a x in
      let D = IsApart g a b in
      omega (
        arith,
        count_by-rows_of_turns q (caller_turns (turns g n b a asks)),
        said-nothing (answerer_turns (turns g n b a asks)),
        turns_cover g disjoint n b a can_b can_a D (told q) nothing (own_weight g q b) (other_weight g q b)
            (λ ask c d. own_covers g decides q b a none can_b ask c (apart_turned g a b ask d))
            (λ ask c d. other_covers g decides q b a none can_a ask c (apart_turned g a b ask d))
            asks (refl, tt) apart (enough_for_first g disjoint a b x),
      )

  right_covers : (q : R → Bool) → ((y : X) → count_by q (box_rows g y b) ≡ 0) → count_by q (box_rows g x a) ≤ count_by q (to_right (exchange g a b (Some x)))
  right_covers q none =
      let n = enough g a b x in
      let asks = first_asks g a x in
      let ts = turns g n b a asks in
      rw (caller_turns-cons (first_turn g a x) ts) (omega (
        arith,
        count_by-rows_of_turns q (answerer_turns ts),
        said-nothing (caller_turns ts),
        turns_cover g disjoint n b a can_b can_a (IsApart g a b) nothing (told q) (other_weight g q a) (own_weight g q a)
            (other_covers g decides q a b none can_b)
            (own_covers g decides q a b none can_a)
            asks (refl, tt) apart (enough_for_first g disjoint a b x),
      ))

-- ---- by membership

module _ {R X C : Type 0} (g : Rules R X C) (decides : IsDeciding g) (x : X) (r : R) where
  -- a row that a side holds in the box is one of the other side, or is sent where the other side has none like it
  held_or_sent : (l m sent : List R) → (((y : X) → count_by (g.same_row r) (box_rows g y m) ≡ 0) → count_by (g.same_row r) (box_rows g x l) ≤ count_by (g.same_row r) sent)
      → Contains (box_rows g x l) r → Contains (box_rows g x m) r ⊎ Contains sent r
  held_or_sent l m sent covers c =
      let q = g.same_row r in
      let only : (s : R) → q s ≡ true → s ≡ r = λ s e. sym ((decides.rows r s).0 e) in
      let inside : g.has x r ≡ true = All-contains (λ s. g.has x s ≡ true) (box_rows g x l) r (filter_passes (g.has x) l) c in
      let n = contains_counted q (box_rows g x l) r ((decides.rows r r).1 refl) c in
      elim (cases_lt 0 (count_by q m)) [
        | inl some ↦ inl (counted_contains q r only (box_rows g x m) (omega (arith, some, count_by-filter q (g.has x) (λ s e. ap (g.has x) (only s e) ∙ inside) m)))
        | inr none ↦ inr (counted_contains q r only sent (omega (arith, n, covers (λ y. omega (arith, none, count_by-filter-le q (g.has y) m)))))
      ]

module _ {R X C : Type 0} (g : Rules R X C) (decides : IsDeciding g) (disjoint : HasDisjointParts g) (a b : List R) (x : X) where
  pub left_only : (r : R) → Contains (to_left (exchange g a b (Some x))) r → Contains (box_rows g x b) r
  left_only = held_rows g decides b x (to_left (exchange g a b (Some x))) (λ q. left_within g disjoint q a b x)

  pub right_only : (r : R) → Contains (to_right (exchange g a b (Some x))) r → Contains (box_rows g x a) r
  right_only = held_rows g decides a x (to_right (exchange g a b (Some x))) (λ q. right_within g disjoint q a b x)

  pub left_once : IsDistinct g.same_row b → IsDistinct g.same_row (to_left (exchange g a b (Some x)))
  left_once = distinct_rows g decides b x (to_left (exchange g a b (Some x))) (λ q. left_within g disjoint q a b x)

  pub right_once : IsDistinct g.same_row a → IsDistinct g.same_row (to_right (exchange g a b (Some x)))
  right_once = distinct_rows g decides a x (to_right (exchange g a b (Some x))) (λ q. right_within g disjoint q a b x)

  module _ (can_a : CanCut g a) (can_b : CanCut g b) (apart : Apart g a b x) where
    pub left_gets : (r : R) → Contains (box_rows g x b) r → Contains (box_rows g x a) r ⊎ Contains (to_left (exchange g a b (Some x))) r
    left_gets r c = held_or_sent g decides x r b a (to_left (exchange g a b (Some x))) (left_covers g decides disjoint a b can_a can_b x apart (g.same_row r)) c

    pub right_gets : (r : R) → Contains (box_rows g x a) r → Contains (box_rows g x b) r ⊎ Contains (to_right (exchange g a b (Some x))) r
    right_gets r c = held_or_sent g decides x r a b (to_right (exchange g a b (Some x))) (right_covers g decides disjoint a b can_a can_b x apart (g.same_row r)) c
