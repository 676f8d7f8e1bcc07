-- Two sides that each read what the other writes: what they write is the exchange.
use Rattle.std.proofs.Common.{◌≡◌, ℕ, zero, suc, ◌≤◌, ◌<◌, Bool, true, not, cond, List, [], ◌∷◌, map, length, filter, sum_by, nat_eq, Option, None, Some, sym, refl, ap, ap₂, ◌∙◌, arith}
use Rattle.std.specs.List.{list_any}
use Rattle.std.proofs.lemmas.Bool.{eq-eqb, and_from}
use Rattle.std.proofs.lemmas.List.{length-map}
use Rattle.exchange_rules.specs.Rules.{Rules, box_rows, box_print}
use Rattle.exchange_rules.specs.Items.{Ask, Print, Sent, Split, Turn, is_empty, caller_turns, answerer_turns}
use Rattle.exchange_rules.specs.Answer.{print_ask, lacking, reply, opened, turn}
use Rattle.exchange_rules.specs.Exchange.{turns, enough, exchange, first_turn, first_asks}
use Rattle.exchange_rules.specs.AnyPeer.{fits_parts, part_asks, opens_at, joined, opened_by, ended_by, heard, answered, answers, caller, answerer}
use Rattle.exchange_rules.specs.Premises.{HasDisjointParts, CanCut, CanSend}
use Rattle.exchange_rules.proofs.Replies.{reply_cases}
use Rattle.exchange_rules.proofs.Potentials.{caller_turns-cons}
use Rattle.exchange_rules.proofs.Costs.{cost, turn_costs}
use Rattle.exchange_rules.proofs.Ends.{enough_for_first}

filter_all : {S : Type 0} (rows : List S) → filter (λ s. true) rows ≡ rows
filter_all [] = refl
filter_all (s ∷ rows) = ap (λ kept. s ∷ kept) (filter_all rows)

not_empty : {A : Type 0} (xs : List A) → 2 ≤ length xs → not (is_empty xs) ≡ true
not_empty [] h = absurd (omega arith)
not_empty (x ∷ xs) h = refl

-- a box with the fingerprint that a function gives it
abbrev asked_with : (R : Type 0) {X : Type 0} → (X → List ℕ) → X → Ask R X
asked_with R print y = Print y (print y)

part_asks-map : (R : Type 0) {X : Type 0} (print : X → List ℕ) (ys : List X) → part_asks ys (map print ys) ≡ map (asked_with R print) ys
part_asks-map R print [] = refl
part_asks-map R print (y ∷ ys) = ap (λ asks. Print y (print y) ∷ asks) (part_asks-map R print ys)

some_if : {A : Type 0} (b : Bool) (x : A) → b ≡ true → cond b (Some x) None ≡ Some x
some_if b x e = ap (λ t. cond t (Some x) None) e

ended_as_opened : {A : Type 0} (asks : List A) → ended_by (is_empty asks) (Some asks) ≡ Some asks
ended_as_opened [] = refl
ended_as_opened (ask ∷ asks) = refl

-- ---- what a side writes is never refused, and is read as opening what it opens

module _ {R X C : Type 0} (g : Rules R X C) (l : List R) (can_cut : CanCut g l) (can_send : CanSend g l) where
  all_legal : (x : X) → g.is_legal x (box_rows g x l) ≡ true
  all_legal x = sym (ap (g.is_legal x) (filter_all (box_rows g x l))) ∙ can_send x (λ r. true)

  read_split : (x : X) (print : List ℕ) (cut : C) → g.choice (box_rows g x l) ≡ Some cut
      → opens_at g (Print x print) (Split cut (map (λ y. box_print g y l) (g.parts x cut))) ≡ Some (map (print_ask g l) (g.parts x cut))
  unfolding opens_at
  read_split x print cut is =
      let parts = g.parts x cut in
      let prints = map (λ y. box_print g y l) parts in
      let fits = and_from (not (is_empty parts)) (nat_eq (length parts) (length prints)) (not_empty parts (can_cut x cut is).several)
      (eq-eqb (length parts) (length prints) (sym (length-map parts (λ y. box_print g y l)))) in
      some_if (fits_parts parts prints) (part_asks parts prints) fits ∙ ap Some (part_asks-map R (λ y. box_print g y l) parts)

  read_answer : (ask : Ask R X) → opens_at g ask (reply g l ask).item ≡ Some (reply g l ask).opens
  unfolding reply opens_at
  read_answer (Print x print) =
      reply_cases g l x print (λ r. opens_at g (Print x print) r.item ≡ Some r.opens)
      (λ same. refl)
      (λ few. some_if (g.is_legal x (box_rows g x l)) (Sent x (box_rows g x l) ∷ []) (all_legal x))
      (λ cut is. read_split x print cut is)
  read_answer (Sent x sent) =
      some_if (g.is_legal x (lacking g l x sent)) [] (can_send x (λ r. not (list_any (g.same_row r) sent)))

  read_items : (asks : List (Ask R X)) → opened_by g asks (turn g l asks).items ≡ Some (opened g l asks)
  read_items [] = refl
  read_items (ask ∷ asks) = ap₂ joined (read_answer ask) (read_items asks)

  pub read_turn : (asks : List (Ask R X)) → heard g asks (turn g l asks) ≡ Some (opened g l asks)
  unfolding heard
  read_turn asks = ap (ended_by (is_empty (opened g l asks))) (read_items asks) ∙ ended_as_opened (opened g l asks)

  -- so the other side answers a turn that answers it
  answers-turn : (m : List R) (ask : Ask R X) (asks : List (Ask R X)) (ts : List (Turn R C))
      → answers g m (ask ∷ asks) (turn g l (ask ∷ asks) ∷ ts) ≡ turn g m (opened g l (ask ∷ asks)) ∷ answers g m (opened g m (opened g l (ask ∷ asks))) ts
  unfolding answers
  answers-turn m ask asks ts = ap (λ opens. answered g m opens (λ later. answers g m later ts)) (read_turn (ask ∷ asks))

-- ---- two sides

module _ {R X C : Type 0} (g : Rules R X C) (disjoint : HasDisjointParts g) where
  -- the turns q of a side that has asks to answer, and the turns p of the other side, which has opened them
  pub two_sides : (n : ℕ) (l m : List R) → CanCut g l → CanCut g m → CanSend g l → CanSend g m → (mine : List (Ask R X)) (q p : List (Turn R C))
      → q ≡ turn g l mine ∷ answers g l (opened g l mine) p → p ≡ answers g m mine q → sum_by (cost g l m) mine < n
      → (q ≡ caller_turns (turns g n l m mine)) × (p ≡ answerer_turns (turns g n l m mine))
  unfolding turns answers
  two_sides zero l m can_cut can_cut' can_send can_send' mine q p hq hp h = absurd (omega arith)
  two_sides (suc n) l m can_cut can_cut' can_send can_send' [] q p hq hp h = (hq, hp)
  two_sides (suc n) l m can_cut can_cut' can_send can_send' (ask ∷ asks) q p hq hp h =
      let mine : List (Ask R X) = ask ∷ asks in
      let opens = opened g l mine in
      let later = answers g l opens p in
      let first = turn g l mine in
      let rest = turns g n m l opens in
      let is : p ≡ turn g m opens ∷ answers g m (opened g m opens) later = hp ∙ ap (answers g m mine) hq ∙ answers-turn g l can_cut can_send m ask asks later in
      let both = two_sides n m l can_cut' can_cut can_send' can_send opens p later is refl (omega (arith, turn_costs g disjoint l m can_cut ask asks)) in
      (hq ∙ ap (λ ts. first ∷ ts) both.1 ∙ sym (caller_turns-cons first rest), both.0)

  -- each side of the exchange writes its turns to those of the other
  pub each_side : (n : ℕ) (l m : List R) → CanCut g l → CanCut g m → CanSend g l → CanSend g m → (mine : List (Ask R X)) → sum_by (cost g l m) mine < n
      → (caller_turns (turns g n l m mine) ≡ turn g l mine ∷ answers g l (opened g l mine) (answerer_turns (turns g n l m mine)))
      × (answerer_turns (turns g n l m mine) ≡ answers g m mine (caller_turns (turns g n l m mine)))
  unfolding turns answers
  each_side zero l m can_cut can_cut' can_send can_send' mine h = absurd (omega arith)
  each_side (suc n) l m can_cut can_cut' can_send can_send' [] h = (refl, refl)
  each_side (suc n) l m can_cut can_cut' can_send can_send' (ask ∷ asks) h =
      let mine : List (Ask R X) = ask ∷ asks in
      let opens = opened g l mine in
      let first = turn g l mine in
      let rest = turns g n m l opens in
      let both = each_side n m l can_cut' can_cut can_send' can_send opens (omega (arith, turn_costs g disjoint l m can_cut ask asks)) in (
        caller_turns-cons first rest ∙ ap (λ ts. first ∷ ts) both.1,
        both.0 ∙ sym (answers-turn g l can_cut can_send m ask asks (answerer_turns rest)) ∙ ap (answers g m mine) (sym (caller_turns-cons first rest)),
      )

  module _ (a b : List R) (can_cut_a : CanCut g a) (can_cut_b : CanCut g b) (can_send_a : CanSend g a) (can_send_b : CanSend g b) where
    pub sides_write : (x : Option X) (p q : List (Turn R C)) → p ≡ caller g a x q → q ≡ answerer g b x p
        → (p ≡ caller_turns (exchange g a b x)) × (q ≡ answerer_turns (exchange g a b x))
    sides_write None p q hp hq = (hp, hq ∙ ap (answerer g b None) hp)
    sides_write (Some x) p q hp hq =
        let n = enough g a b x in
        let asks = first_asks g a x in
        let first = first_turn g a x in
        let both = two_sides n b a can_cut_b can_cut_a can_send_b can_send_a asks q (answers g a asks q) (hq ∙ ap (answerer g b (Some x)) hp) refl (enough_for_first g disjoint a b x) in
        (hp ∙ ap (λ ts. first ∷ ts) both.1 ∙ sym (caller_turns-cons first (turns g n b a asks)), both.0)

    pub sides_go_on : (x : Option X) → (caller g a x (answerer_turns (exchange g a b x)) ≡ caller_turns (exchange g a b x))
        × (answerer g b x (caller_turns (exchange g a b x)) ≡ answerer_turns (exchange g a b x))
    sides_go_on None = (refl, refl)
    sides_go_on (Some x) =
        let n = enough g a b x in
        let asks = first_asks g a x in
        let first = first_turn g a x in
        let ts = turns g n b a asks in
        let both = each_side n b a can_cut_b can_cut_a can_send_b can_send_a asks (enough_for_first g disjoint a b x) in (
          ap (λ us. first ∷ us) (sym both.1) ∙ sym (caller_turns-cons first ts),
          ap (answerer g b (Some x)) (caller_turns-cons first ts) ∙ sym both.0,
        )
