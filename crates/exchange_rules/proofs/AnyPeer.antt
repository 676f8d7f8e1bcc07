-- Whatever a peer says, a side sends no more than it holds in the box.
use Rattle.std.proofs.Common.{take, ◌≡◌, ℕ, ◌+◌, ◌≤◌, Bool, true, false, cond, List, [], ◌∷◌, sum_by, count_by, Contains, Option, None, Some, refl, arith}
use Rattle.std.specs.List.{IsDistinct}
use Rattle.std.proofs.lemmas.List.Sums.{sum_by-take-le, sum_by-cons, sum_by-append}
use Rattle.exchange_rules.specs.Rules.{Rules, box_rows}
use Rattle.exchange_rules.specs.Items.{Ask, Print, Sent, Item, First, Agree, Split, Entries, Rest, Turn, bye, is_bye, rows_of_turns}
use Rattle.exchange_rules.specs.Answer.{opened, turn}
use Rattle.exchange_rules.specs.Exchange.{first_asks}
use Rattle.exchange_rules.specs.Premises.{IsDeciding, HasDisjointParts}
use Rattle.exchange_rules.specs.AnyPeer.{fits_parts, part_asks, opens_at, joined, opened_by, ended_by, heard, answered, answers, caller, first_opens, answerer}
use Rattle.exchange_rules.proofs.Sums.{parts_within}
use Rattle.exchange_rules.proofs.Once.{held_rows, distinct_rows}
use Rattle.exchange_rules.proofs.Potentials.{turn_within}
use Rattle.exchange_rules.proofs.Sending.{told, count_by-rows_of_turns, own_weight, other_weight, own_within}

-- what the asks weigh, if there are any
abbrev some_weight : {A : Type 0} → (A → ℕ) → Option (List A) → ℕ
some_weight w None = 0
some_weight w (Some asks) = sum_by w asks

weight_if : {A : Type 0} (w : A → ℕ) (b : Bool) (asks : List A) → some_weight w (cond b (Some asks) None) ≤ sum_by w asks
weight_if w true asks = omega arith
weight_if w false asks = omega arith

weight-joined : {A : Type 0} (w : A → ℕ) (xs ys : Option (List A)) → some_weight w (joined xs ys) ≤ some_weight w xs + some_weight w ys
weight-joined w None ys = omega arith
weight-joined w (Some xs) None = omega arith
weight-joined w (Some xs) (Some ys) = omega (arith, sum_by-append w xs ys)

weight-ended_by : {A : Type 0} (w : A → ℕ) (b : Bool) (xs : Option (List A)) → some_weight w (ended_by b xs) ≤ some_weight w xs
weight-ended_by w b None = omega arith
weight-ended_by w true (Some []) = omega arith
weight-ended_by w true (Some (x ∷ xs)) = omega arith
weight-ended_by w false (Some []) = omega arith
weight-ended_by w false (Some (x ∷ xs)) = omega arith

count-answered : {R X C : Type 0} (g : Rules R X C) (q : R → Bool) (t : Turn R C) (ts : List (Turn R C)) → count_by q (rows_of_turns (t ∷ ts)) ≡ sum_by (told q) t.items + count_by q (rows_of_turns ts)
count-answered g q t ts = omega (arith, count_by-rows_of_turns q (t ∷ ts), sum_by-cons (λ u. sum_by (told q) u.items) t ts, count_by-rows_of_turns q ts)

module _ {R X C : Type 0} (g : Rules R X C) (disjoint : HasDisjointParts g) (q : R → Bool) (l : List R) where
  parts_weight : (parts : List X) (prints : List (List ℕ)) → sum_by (own_weight g q l) (part_asks parts prints) ≤ sum_by (λ y. count_by q (box_rows g y l)) parts
  parts_weight [] prints = omega arith
  parts_weight (y ∷ parts) [] = omega arith
  parts_weight (y ∷ parts) (print ∷ prints) =
      omega (arith, sum_by-cons (own_weight g q l) (Print y print) (part_asks parts prints), sum_by-cons (λ z. count_by q (box_rows g z l)) y parts, parts_weight parts prints)

  -- what is read opens no more than was left to be asked for
  item_weight : (ask : Ask R X) (item : Item R C) → some_weight (own_weight g q l) (opens_at g ask item) ≤ other_weight g q l ask
  unfolding opens_at
  item_weight (Print x print) (First other) = omega arith
  item_weight (Print x print) Agree = omega arith
  item_weight (Print x print) (Split cut prints) =
      omega (
        arith,
        weight_if (own_weight g q l) (fits_parts (g.parts x cut) prints) (part_asks (g.parts x cut) prints),
        parts_weight (g.parts x cut) prints,
        parts_within g.has x (g.parts x cut) (disjoint x cut) q l,
      )
  item_weight (Print x print) (Entries rows) = omega (arith, weight_if (own_weight g q l) (g.is_legal x rows) (Sent x rows ∷ []))
  item_weight (Print x print) (Rest rows) = omega arith
  item_weight (Sent x sent) (First other) = omega arith
  item_weight (Sent x sent) Agree = omega arith
  item_weight (Sent x sent) (Split cut prints) = omega arith
  item_weight (Sent x sent) (Entries rows) = omega arith
  item_weight (Sent x sent) (Rest rows) = weight_if (own_weight g q l) (g.is_legal x rows) []

  items_weight : (asks : List (Ask R X)) (items : List (Item R C)) → some_weight (own_weight g q l) (opened_by g asks items) ≤ sum_by (other_weight g q l) asks
  items_weight [] [] = omega arith
  items_weight [] (item ∷ items) = omega arith
  items_weight (ask ∷ asks) [] = omega arith
  items_weight (ask ∷ asks) (item ∷ items) =
      omega (
        arith,
        weight-joined (own_weight g q l) (opens_at g ask item) (opened_by g asks items),
        item_weight ask item,
        items_weight asks items,
        sum_by-cons (other_weight g q l) ask asks,
      )

  heard_weight : (asks : List (Ask R X)) (t : Turn R C) → some_weight (own_weight g q l) (heard g asks t) ≤ sum_by (other_weight g q l) asks
  unfolding heard
  heard_weight asks t = omega (arith, weight-ended_by (own_weight g q l) t.ends_with_bye (opened_by g asks t.items), items_weight asks t.items)

  answered_weight : (asks : Option (List (Ask R X))) (follows : List (Ask R X) → List (Turn R C))
      → ((opens : List (Ask R X)) → count_by q (rows_of_turns (follows opens)) ≤ sum_by (other_weight g q l) opens)
      → count_by q (rows_of_turns (answered g l asks follows)) ≤ some_weight (own_weight g q l) asks
  answered_weight None follows later = omega arith
  answered_weight (Some asks) follows later =
      omega (
        arith,
        count-answered g q (turn g l asks) (follows (opened g l asks)),
        later (opened g l asks),
        turn_within g l (told q) (own_weight g q l) (other_weight g q l) (own_within g disjoint q l) asks,
      )

  answers_weight : (asks : List (Ask R X)) (ts : List (Turn R C)) → count_by q (rows_of_turns (answers g l asks ts)) ≤ sum_by (other_weight g q l) asks
  unfolding answers
  answers_weight [] ts = omega arith
  answers_weight (ask ∷ asks) [] = omega arith
  answers_weight (ask ∷ asks) (t ∷ ts) =
      omega (arith, answered_weight (heard g (ask ∷ asks) t) (λ opens. answers g l opens ts) (λ opens. answers_weight opens ts), heard_weight (ask ∷ asks) t)

  first_weight : (x : X) (items : List (Item R C)) (ends_with_bye : Bool) → some_weight (own_weight g q l) (first_opens x items ends_with_bye) ≤ count_by q (box_rows g x l)
  first_weight x [] b = omega arith
  first_weight x (First print ∷ []) true = omega arith
  first_weight x (First print ∷ []) false = omega arith
  first_weight x (First print ∷ item ∷ items) b = omega arith
  first_weight x (Agree ∷ items) b = omega arith
  first_weight x (Split cut prints ∷ items) b = omega arith
  first_weight x (Entries rows ∷ items) b = omega arith
  first_weight x (Rest rows ∷ items) b = omega arith

  -- of each kind a side sends no more rows than it holds in the box
  pub caller_within : (x : X) (ts : List (Turn R C)) → count_by q (rows_of_turns (caller g l (Some x) ts)) ≤ count_by q (box_rows g x l)
  caller_within x ts = omega (arith, answers_weight (first_asks g l x) ts)

  pub answerer_within : (x : X) (ts : List (Turn R C)) → count_by q (rows_of_turns (answerer g l (Some x) ts)) ≤ count_by q (box_rows g x l)
  answerer_within x [] = omega arith
  answerer_within x (t ∷ ts) =
      omega (
        arith,
        answered_weight (first_opens x t.items t.ends_with_bye) (λ opens. answers g l opens ts) (λ opens. answers_weight opens ts),
        first_weight x t.items t.ends_with_bye,
      )

pub count_by-front : {R C : Type 0} (q : R → Bool) (most : ℕ) (ts : List (Turn R C)) → count_by q (rows_of_turns (take most ts)) ≤ count_by q (rows_of_turns ts)
count_by-front q most ts =
    omega (arith, count_by-rows_of_turns q (take most ts), count_by-rows_of_turns q ts, sum_by-take-le (λ t. sum_by (told q) t.items) ts most)

bye_or_nothing : (R C : Type 0) (b : Bool) → rows_of_turns {R = R} {C = C} (cond b (bye ∷ []) []) ≡ []
bye_or_nothing R C true = refl
bye_or_nothing R C false = refl

pub none_without_a_box : {R X C : Type 0} (g : Rules R X C) (l : List R) (ts : List (Turn R C)) → (rows_of_turns (caller g l None ts) ≡ []) × (rows_of_turns (answerer g l None ts) ≡ [])
none_without_a_box g l [] = (refl, refl)
none_without_a_box {R} {X} {C} g l (t ∷ ts) = (refl, bye_or_nothing R C (is_bye t))

module _ {R X C : Type 0} (g : Rules R X C) (decides : IsDeciding g) (disjoint : HasDisjointParts g) (l : List R) (x : X) (ts : List (Turn R C)) where
  pub caller_held : (r : R) → Contains (rows_of_turns (caller g l (Some x) ts)) r → Contains (box_rows g x l) r
  caller_held = held_rows g decides l x (rows_of_turns (caller g l (Some x) ts)) (λ q. caller_within g disjoint q l x ts)

  pub answerer_held : (r : R) → Contains (rows_of_turns (answerer g l (Some x) ts)) r → Contains (box_rows g x l) r
  answerer_held = held_rows g decides l x (rows_of_turns (answerer g l (Some x) ts)) (λ q. answerer_within g disjoint q l x ts)

  pub caller_once : IsDistinct g.same_row l → IsDistinct g.same_row (rows_of_turns (caller g l (Some x) ts))
  caller_once = distinct_rows g decides l x (rows_of_turns (caller g l (Some x) ts)) (λ q. caller_within g disjoint q l x ts)

  pub answerer_once : IsDistinct g.same_row l → IsDistinct g.same_row (rows_of_turns (answerer g l (Some x) ts))
  answerer_once = distinct_rows g decides l x (rows_of_turns (answerer g l (Some x) ts)) (λ q. answerer_within g disjoint q l x ts)
