-- Two sides with the same rows in the box write the same, whatever they hold elsewhere.
use Rattle.std.proofs.Common.{◌≡◌, ℕ, ◌+◌, ◌≤◌, Bool, true, false, not, cond, List, [], ◌∷◌, ◌++◌, map, filter, Option, None, Some, sym, refl, ap, ap₂, ◌∙◌, arith}
use Rattle.std.specs.List.{AllByRecursion, list_any}
use Rattle.std.proofs.lemmas.Bool.{false≢true, cond-false, false_from_ne_true}
use Rattle.std.proofs.lemmas.List.Sums.{sum_by-cons}
use Rattle.exchange_rules.specs.Rules.{Rules, box_rows, box_print}
use Rattle.exchange_rules.specs.Items.{Ask, Print, Sent, Item, First, Agree, Split, Entries, Rest, Turn, is_empty}
use Rattle.exchange_rules.specs.Answer.{Reply, print_ask, differing, reply, opened, turn}
use Rattle.exchange_rules.specs.Exchange.{first_asks}
use Rattle.exchange_rules.specs.AnyPeer.{fits_parts, part_asks, opens_at, joined, opened_by, ended_by, heard, answered, answers, caller, first_opens, answerer}
use Rattle.exchange_rules.specs.Premises.{HasDisjointParts, boxes_with}
use Rattle.exchange_rules.proofs.Members.{all-append, all_weaker}
use Rattle.exchange_rules.proofs.Replies.{agreed, reply_cases}

-- to keep less of what was kept is to keep less
filter_again : {S : Type 0} (p q : S → Bool) → ((s : S) → p s ≡ true → q s ≡ true) → (rows : List S) → filter p (filter q rows) ≡ filter p rows
filter_again p q h [] = refl
filter_again p q h (s ∷ rows) =
    let rest = filter_again p q h rows in
    let P : Bool → Type 0 = λ b. q s ≡ b → filter p (cond b (s ∷ filter q rows) (filter q rows)) ≡ filter p (s ∷ rows) in
    let both : (b : Bool) → P b = elim [
      | true ↦ λ e. ap (λ kept. cond (p s) (s ∷ kept) kept) rest
      | false ↦ λ e. rest ∙ sym (cond-false (p s) (s ∷ filter p rows) (filter p rows) (false_from_ne_true (p s) (λ f. false≢true (sym e ∙ h s f))))
    ] in
    both (q s) refl

map_alike : {A B : Type 0} (f h : A → B) (xs : List A) → AllByRecursion (λ x. f x ≡ h x) xs → map f xs ≡ map h xs
map_alike f h [] e = refl
map_alike f h (x ∷ xs) e = ap₂ (λ y ys. y ∷ ys) e.0 (map_alike f h xs e.1)

inside_from_count : (b c : Bool) (n : ℕ) → cond b 1 0 + n ≤ cond c 1 0 → b ≡ true → c ≡ true
inside_from_count b true n h e = refl
inside_from_count true false n h e = absurd (omega arith)
inside_from_count false false n h e = absurd (false≢true e)

abbrev pub begun_with : (R C : Type 0) → List ℕ → Turn R C
begun_with R C print = record { items = First print ∷ []; ends_with_bye = false }

module _ {R X C : Type 0} (g : Rules R X C) where
  -- box y has no row that box x has not
  abbrev pub Inside : X → X → Type 0
  Inside x y = (r : R) → g.has y r ≡ true → g.has x r ≡ true

  abbrev pub IsInside : X → Ask R X → Type 0
  IsInside x (Print y print) = Inside x y
  IsInside x (Sent y sent) = Inside x y

  each_inside : (x : X) (ys : List X) → ((r : R) → boxes_with g r ys ≤ cond (g.has x r) 1 0) → AllByRecursion (Inside x) ys
  each_inside x [] h = tt
  each_inside x (y ∷ ys) h =
      let n = λ (r : R). sum_by-cons (λ z. cond (g.has z r) 1 0) y ys in
      ((λ r e. inside_from_count (g.has y r) (g.has x r) (boxes_with g r ys) (omega (arith, h r, n r)) e), each_inside x ys (λ r. omega (arith, h r, n r)))

  pub rows_alike : (l l' : List R) (x y : X) → Inside x y → box_rows g x l ≡ box_rows g x l' → box_rows g y l ≡ box_rows g y l'
  rows_alike l l' x y inside e =
      sym (filter_again (g.has y) (g.has x) inside l) ∙ ap (λ rows. filter (g.has y) rows) e ∙ filter_again (g.has y) (g.has x) inside l'

  entries_of : X → List R → Reply R X C
  entries_of y rows = record { item = Entries rows; opens = Sent y rows ∷ [] }

  split_of : C → List (List ℕ) → List (Ask R X) → Reply R X C
  split_of cut prints asks = record { item = Split cut prints; opens = asks }

  turn_of : List (Item R C) → List (Ask R X) → Turn R C
  turn_of items opens = record { items = items; ends_with_bye = is_empty opens }

  module _ (disjoint : HasDisjointParts g) (x : X) where
    pub parts_inside : (y : X) → Inside x y → (cut : C) → AllByRecursion (Inside x) (g.parts y cut)
    parts_inside y inside cut =
        all_weaker (Inside y) (Inside x) (λ z within r e. inside r (within r e)) (g.parts y cut) (each_inside y (g.parts y cut) (disjoint y cut))

    asks_inside : (l : List R) (ys : List X) → AllByRecursion (Inside x) ys → AllByRecursion (IsInside x) (map (print_ask g l) ys)
    asks_inside l [] h = tt
    asks_inside l (y ∷ ys) h = (h.0, asks_inside l ys h.1)

    reply_inside : (l : List R) (ask : Ask R X) → IsInside x ask → AllByRecursion (IsInside x) (reply g l ask).opens
    unfolding reply
    reply_inside l (Print y print) inside =
        reply_cases g l y print (λ r. AllByRecursion (IsInside x) r.opens)
        (λ same. tt) (λ few. (inside, tt)) (λ cut is. asks_inside l (g.parts y cut) (parts_inside y inside cut))
    reply_inside l (Sent y sent) inside = tt

    pub opened_inside : (l : List R) (asks : List (Ask R X)) → AllByRecursion (IsInside x) asks → AllByRecursion (IsInside x) (opened g l asks)
    opened_inside l [] h = tt
    opened_inside l (ask ∷ asks) h = all-append (IsInside x) (reply g l ask).opens (opened g l asks) (reply_inside l ask h.0) (opened_inside l asks h.1)

    -- ---- what is read opens nothing outside

    SomeInside : Option (List (Ask R X)) → Type 0
    SomeInside None = Unit {0}
    SomeInside (Some asks) = AllByRecursion (IsInside x) asks

    inside_if : (b : Bool) (asks : List (Ask R X)) → AllByRecursion (IsInside x) asks → SomeInside (cond b (Some asks) None)
    unfolding SomeInside
    inside_if true asks h = h
    inside_if false asks h = tt

    pub part_asks_inside : (parts : List X) (prints : List (List ℕ)) → AllByRecursion (Inside x) parts → AllByRecursion (IsInside x) (part_asks parts prints)
    part_asks_inside [] prints h = tt
    part_asks_inside (y ∷ parts) [] h = tt
    part_asks_inside (y ∷ parts) (print ∷ prints) h = (h.0, part_asks_inside parts prints h.1)

    item_inside : (ask : Ask R X) (item : Item R C) → IsInside x ask → SomeInside (opens_at g ask item)
    unfolding opens_at SomeInside
    item_inside (Print y print) (First other) inside = tt
    item_inside (Print y print) Agree inside = tt
    item_inside (Print y print) (Split cut prints) inside =
        inside_if (fits_parts (g.parts y cut) prints) (part_asks (g.parts y cut) prints) (part_asks_inside (g.parts y cut) prints (parts_inside y inside cut))
    item_inside (Print y print) (Entries rows) inside = inside_if (g.is_legal y rows) (Sent y rows ∷ []) (inside, tt)
    item_inside (Print y print) (Rest rows) inside = tt
    item_inside (Sent y sent) (First other) inside = tt
    item_inside (Sent y sent) Agree inside = tt
    item_inside (Sent y sent) (Split cut prints) inside = tt
    item_inside (Sent y sent) (Entries rows) inside = tt
    item_inside (Sent y sent) (Rest rows) inside = inside_if (g.is_legal y rows) [] tt

    joined_inside : (xs ys : Option (List (Ask R X))) → SomeInside xs → SomeInside ys → SomeInside (joined xs ys)
    unfolding SomeInside
    joined_inside None ys h k = tt
    joined_inside (Some xs) None h k = tt
    joined_inside (Some xs) (Some ys) h k = all-append (IsInside x) xs ys h k

    ended_inside : (b : Bool) (xs : Option (List (Ask R X))) → SomeInside xs → SomeInside (ended_by b xs)
    unfolding SomeInside
    ended_inside b None h = tt
    ended_inside true (Some []) h = tt
    ended_inside true (Some (ask ∷ asks)) h = tt
    ended_inside false (Some []) h = tt
    ended_inside false (Some (ask ∷ asks)) h = h

    items_inside : (asks : List (Ask R X)) (items : List (Item R C)) → AllByRecursion (IsInside x) asks → SomeInside (opened_by g asks items)
    unfolding SomeInside
    items_inside [] [] h = tt
    items_inside [] (item ∷ items) h = tt
    items_inside (ask ∷ asks) [] h = tt
    items_inside (ask ∷ asks) (item ∷ items) h =
        joined_inside (opens_at g ask item) (opened_by g asks items) (item_inside ask item h.0) (items_inside asks items h.1)

    heard_inside : (asks : List (Ask R X)) (t : Turn R C) → AllByRecursion (IsInside x) asks → SomeInside (heard g asks t)
    unfolding heard
    heard_inside asks t h = ended_inside t.ends_with_bye (opened_by g asks t.items) (items_inside asks t.items h)

    first_inside : (items : List (Item R C)) (ends_with_bye : Bool) → SomeInside (first_opens x items ends_with_bye)
    unfolding SomeInside
    first_inside [] b = tt
    first_inside (First print ∷ []) true = tt
    first_inside (First print ∷ []) false = ((λ r e. e), tt)
    first_inside (First print ∷ item ∷ items) b = tt
    first_inside (Agree ∷ items) b = tt
    first_inside (Split cut prints ∷ items) b = tt
    first_inside (Entries rows ∷ items) b = tt
    first_inside (Rest rows ∷ items) b = tt

    -- ---- the same rows in the box

    module _ (l l' : List R) (same : box_rows g x l ≡ box_rows g x l') where
      print_alike : (y : X) → Inside x y → box_print g y l ≡ box_print g y l'
      print_alike y inside = ap g.print (rows_alike l l' x y inside same)

      differing_alike : (y : X) → Inside x y → (choice : Option C) → differing g l y choice ≡ differing g l' y choice
      unfolding entries_of split_of
      differing_alike y inside None = ap (entries_of y) (rows_alike l l' x y inside same)
      differing_alike y inside (Some cut) =
          ap₂ (split_of cut)
          (map_alike (λ z. box_print g z l) (λ z. box_print g z l') (g.parts y cut) (all_weaker (Inside x) (λ z. box_print g z l ≡ box_print g z l') print_alike (g.parts y cut) (parts_inside y inside cut)))
          (map_alike (print_ask g l) (print_ask g l') (g.parts y cut) (all_weaker (Inside x) (λ z. print_ask g l z ≡ print_ask g l' z) (λ z i. ap (λ print. Print z print) (print_alike z i)) (g.parts y cut) (parts_inside y inside cut)))

      reply_alike : (ask : Ask R X) → IsInside x ask → reply g l ask ≡ reply g l' ask
      unfolding reply
      reply_alike (Print y print) inside =
          ap (λ rows. cond (g.same_print print (g.print rows)) agreed (differing g l y (g.choice rows))) (rows_alike l l' x y inside same)
          ∙ ap (λ d. cond (g.same_print print (box_print g y l')) agreed d) (differing_alike y inside (g.choice (box_rows g y l')))
      reply_alike (Sent y sent) inside = ap (rest_of sent) (rows_alike l l' x y inside same)
        where
          rest_of : List R → List R → Reply R X C
          rest_of sent rows = record { item = Rest (filter (λ r. not (list_any (g.same_row r) sent)) rows); opens = [] }

      pub opened_alike : (asks : List (Ask R X)) → AllByRecursion (IsInside x) asks → opened g l asks ≡ opened g l' asks
      opened_alike [] h = refl
      opened_alike (ask ∷ asks) h = ap₂ (λ xs ys. xs ++ ys) (ap (λ r. r.opens) (reply_alike ask h.0)) (opened_alike asks h.1)

      pub turn_alike : (asks : List (Ask R X)) → AllByRecursion (IsInside x) asks → turn g l asks ≡ turn g l' asks
      unfolding turn_of
      turn_alike asks h =
          ap₂ turn_of
          (map_alike (λ ask. (reply g l ask).item) (λ ask. (reply g l' ask).item) asks (all_weaker (IsInside x) (λ ask. (reply g l ask).item ≡ (reply g l' ask).item) (λ ask i. ap (λ r. r.item) (reply_alike ask i)) asks h))
          (opened_alike asks h)

      answered_alike : (asks : Option (List (Ask R X))) (follows follows' : List (Ask R X) → List (Turn R C)) → SomeInside asks
          → ((opens : List (Ask R X)) → AllByRecursion (IsInside x) opens → follows opens ≡ follows' opens)
          → answered g l asks follows ≡ answered g l' asks follows'
      unfolding SomeInside
      answered_alike None follows follows' h later = refl
      answered_alike (Some asks) follows follows' h later =
          ap₂ (λ t ts. t ∷ ts) (turn_alike asks h) (later (opened g l asks) (opened_inside l asks h) ∙ ap follows' (opened_alike asks h))

      answers_alike : (asks : List (Ask R X)) (ts : List (Turn R C)) → AllByRecursion (IsInside x) asks → answers g l asks ts ≡ answers g l' asks ts
      unfolding answers
      answers_alike [] ts h = refl
      answers_alike (ask ∷ asks) [] h = refl
      answers_alike (ask ∷ asks) (t ∷ ts) h =
          answered_alike (heard g (ask ∷ asks) t) (λ opens. answers g l opens ts) (λ opens. answers g l' opens ts) (heard_inside (ask ∷ asks) t h)
          (λ opens i. answers_alike opens ts i)

      pub caller_alike : (ts : List (Turn R C)) → caller g l (Some x) ts ≡ caller g l' (Some x) ts
      caller_alike ts =
          ap₂ (λ t us. t ∷ us) (ap (begun_with R C) (print_alike x (λ r e. e)))
          (answers_alike (first_asks g l x) ts ((λ r e. e), tt) ∙ ap (λ print. answers g l' (Print x print ∷ []) ts) (print_alike x (λ r e. e)))

      pub answerer_alike : (ts : List (Turn R C)) → answerer g l (Some x) ts ≡ answerer g l' (Some x) ts
      answerer_alike [] = refl
      answerer_alike (t ∷ ts) =
          answered_alike (first_opens x t.items t.ends_with_bye) (λ opens. answers g l opens ts) (λ opens. answers g l' opens ts) (first_inside t.items t.ends_with_bye)
          (λ opens i. answers_alike opens ts i)

answered_bye : {R X C : Type 0} (g : Rules R X C) (l m : List R) (ts : List (Turn R C)) → answerer g l None ts ≡ answerer g m None ts
answered_bye g l m [] = refl
answered_bye g l m (t ∷ ts) = refl

pub alike_without_a_box : {R X C : Type 0} (g : Rules R X C) (l m : List R) (ts : List (Turn R C))
    → (caller g l None ts ≡ caller g m None ts) × (answerer g l None ts ≡ answerer g m None ts)
alike_without_a_box g l m ts = (refl, answered_bye g l m ts)
