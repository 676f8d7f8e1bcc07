-- Two sides that take the turns of an exchange.
use Rattle.std.proofs.Common.{◌≡◌, ℕ, zero, suc, ◌+◌, ◌*◌, ◌≤◌, List, ◌∷◌, ◌++◌, length, take, flat_map, Option, None, Some, take_all, sym, refl, ap, ap₂, ◌∙◌, arith}
use Rattle.exchange_rules.specs.Rules.{Rules, box_rows}
use Rattle.exchange_rules.specs.Items.{Turn, counted as count_of_items, caller_turns, answerer_turns, to_left, to_right}
use Rattle.exchange_rules.specs.Exchange.{turns, enough, exchange}
use Rattle.exchange_rules.specs.Premises.{HasDisjointParts, CanCut}
use Rattle.exchange_rules.proofs.Potentials.{caller_turns-cons}
use Rattle.exchange_rules.proofs.Ends.{enough_for_first}
use Rattle.session_rules.specs.Machine.{Machine}
use Rattle.session_rules.specs.Reading.{start, run}
use Rattle.session_rules.specs.Rounds.{rounds}
use Rattle.session_rules.specs.Messages.{taken, hear, tells, dialogue}
use Rattle.session_rules.specs.Turns.{View, opening_turn, opening_asks, TakeTurns, HearsAll}
use Rattle.session_rules.proofs.Growing.{rows_of}
use Rattle.session_rules.proofs.Turning.{IsWhole, enough_whole, count-cons, few_turns, Takes, behind_turn, takes_turns}

module _ {R X C : Type 0} (rules : Rules R X C) where
  -- how many turns there may be behind the first, but for one
  others_most : List R → List R → Option X → ℕ
  others_most rows others None = 0
  others_most rows others (Some x) = 2 + 3 * (length (box_rows rules x rows) + length (box_rows rules x others))

  behind_first : List R → List R → Option X → List (Turn R C)
  behind_first rows others box = turns rules (suc (others_most rows others box)) others rows (opening_asks rules rows box)

  exchange_is : (rows others : List R) (box : Option X) → exchange rules rows others box ≡ opening_turn rules rows box ∷ behind_first rows others box
  unfolding behind_first others_most turns
  exchange_is rows others None = refl
  exchange_is rows others (Some x) =
      let n = 2 + 3 * (length (box_rows rules x rows) + length (box_rows rules x others)) in
      let most : enough rules rows others x ≡ suc n = omega arith in
      ap (λ k. opening_turn rules rows (Some x) ∷ turns rules k others rows (opening_asks rules rows (Some x))) most

  whole_behind_first : HasDisjointParts rules → (rows others : List R) → CanCut rules rows → CanCut rules others → (box : Option X)
      → IsWhole rules (suc (others_most rows others box)) others rows (opening_asks rules rows box)
  unfolding others_most
  whole_behind_first disjoint rows others can can' None = tt
  whole_behind_first disjoint rows others can can' (Some x) =
      enough_whole rules disjoint (suc (others_most rows others (Some x))) others rows can' can (opening_asks rules rows (Some x))
      (omega (arith, enough_for_first rules disjoint rows others x))

abbrev both : {A B : Type 0} → List A → List B → List A × List B
both x y = (x, y)

module _ {R X C T I G : Type 0} (v : View R X C T I) (rules : Rules R X C) (caller answerer : Machine T I I R G) (rows others : List R) (box : Option X)
    (disjoint : HasDisjointParts rules) (can : CanCut rules rows) (can' : CanCut rules others) (take_turns : TakeTurns v rules caller answerer rows others box) where
  abbrev all_turns : List (Turn R C)
  all_turns = exchange rules rows others box

  abbrev first : Turn R C
  first = opening_turn rules rows box

  abbrev rest : List (Turn R C)
  rest = behind_first rules rows others box

  is_whole : IsWhole rules (suc (others_most rules rows others box)) others rows (opening_asks rules rows box)
  is_whole = whole_behind_first rules disjoint rows others can can' box

  few : length first.items + count_of_items rest ≡ count_of_items all_turns
  few = sym (ap count_of_items (exchange_is rules rows others box) ∙ count-cons first rest)

  caller_takes : Takes v rules caller answerer.spelling rows others (start caller) rest
  unfolding behind_first
  caller_takes =
      takes_turns v rules caller answerer.spelling rows others take_turns.caller_goes_on (suc (others_most rules rows others box)) take_turns.caller_most
      (opening_asks rules rows box) (length first.items) (start caller) take_turns.begins.hears is_whole (omega (arith, few, take_turns.few_for_caller))

  answerer_takes : Takes v rules answerer caller.spelling others rows (start answerer) (first ∷ rest)
  unfolding behind_first
  answerer_takes =
      let n = others_most rules rows others box in
      let most = take_turns.answerer_most in
      behind_turn v rules answerer caller.spelling others rows n (opening_asks rules rows box) first 0 most
      (run (taken answerer caller.spelling) (start answerer) (v.items_of first)) take_turns.awaits.replies is_whole
      (omega (arith, few, take_turns.few_for_answerer))
      (λ asks sofar p hears whole fits. takes_turns v rules answerer caller.spelling others rows take_turns.answerer_goes_on n most asks sofar p hears whole fits)
      (start answerer) refl

  -- ---- what each says to the first turns of the other

  caller_tells : (n : ℕ) → tells caller answerer.spelling (flat_map v.items_of (take n (answerer_turns all_turns))) ≡ flat_map v.items_of (take (suc n) (caller_turns all_turns))
  caller_tells n =
      ap (λ ts. tells caller answerer.spelling (flat_map v.items_of (take n (answerer_turns ts)))) (exchange_is rules rows others box)
      ∙ ap₂ (λ x y. x ++ y) take_turns.begins.says (caller_takes.said n)
      ∙ ap (λ ts. flat_map v.items_of (take (suc n) ts)) (sym (caller_turns-cons first rest))
      ∙ ap (λ ts. flat_map v.items_of (take (suc n) (caller_turns ts))) (sym (exchange_is rules rows others box))

  answerer_tells : (n : ℕ) → tells answerer caller.spelling (flat_map v.items_of (take n (caller_turns all_turns))) ≡ flat_map v.items_of (take n (answerer_turns all_turns))
  answerer_tells n =
      ap (λ ts. tells answerer caller.spelling (flat_map v.items_of (take n (caller_turns ts)))) (exchange_is rules rows others box)
      ∙ ap₂ (λ x y. x ++ y) take_turns.awaits.silent (answerer_takes.said n)
      ∙ ap (λ ts. flat_map v.items_of (take n (answerer_turns ts))) (sym (exchange_is rules rows others box))

  said_so_far : (n : ℕ) → dialogue caller answerer n ≡ both (flat_map v.items_of (take n (caller_turns all_turns))) (flat_map v.items_of (take n (answerer_turns all_turns)))
  unfolding rounds
  said_so_far zero = refl
  said_so_far (suc n) =
      let mine : tells caller answerer.spelling (dialogue caller answerer n).1 ≡ flat_map v.items_of (take (suc n) (caller_turns all_turns))
      = ap (λ d. tells caller answerer.spelling d.1) (said_so_far n) ∙ caller_tells n in
      ap₂ both mine (ap (tells answerer caller.spelling) mine ∙ answerer_tells (suc n))

  pub all_said : (n : ℕ) → length all_turns ≤ n → dialogue caller answerer n ≡ both (flat_map v.items_of (caller_turns all_turns)) (flat_map v.items_of (answerer_turns all_turns))
  all_said n enough_rounds =
      let fit = few_turns all_turns in
      said_so_far n
      ∙ ap₂ (λ x y. both (flat_map v.items_of x) (flat_map v.items_of y))
      (take_all n (caller_turns all_turns) (omega (arith, fit.0))) (take_all n (answerer_turns all_turns) (omega (arith, fit.1)))

  -- ---- all that each hears

  pub caller_hears : HearsAll caller answerer.spelling (flat_map v.items_of (answerer_turns all_turns)) (to_left all_turns)
  caller_hears =
      let same = exchange_is rules rows others box in
      let is = ap (λ ts. hear caller answerer.spelling (flat_map v.items_of (answerer_turns ts))) same ∙ caller_takes.whole in
      record { over = ap (λ m. m.stand) is; takes = ap rows_of is ∙ ap to_left (sym same) }

  pub answerer_hears : HearsAll answerer caller.spelling (flat_map v.items_of (caller_turns all_turns)) (to_right all_turns)
  answerer_hears =
      let same = exchange_is rules rows others box in
      let is = ap (λ ts. hear answerer caller.spelling (flat_map v.items_of (caller_turns ts))) same ∙ answerer_takes.whole in
      record { over = ap (λ m. m.stand) is; takes = ap rows_of is ∙ ap to_right (sym same) }
