-- Sides that take the turns of an exchange, item by item.
use Rattle.std.proofs.Common.{◌≡◌, ℕ, zero, suc, ◌+◌, ◌<◌, ◌≤◌, List, [], ◌∷◌, ◌++◌, length, take, flat_map, sum_by, append-nil, sym, refl, ap, ap₂, ◌∙◌, subst, arith}
use Rattle.std.proofs.lemmas.List.Sums.{sum_by-cons}
use Rattle.exchange_rules.specs.Rules.{Rules}
use Rattle.exchange_rules.specs.Items.{Ask, Turn, bye, counted as count_of_items, rows_of_turn, rows_of_turns, caller_turns, answerer_turns}
use Rattle.exchange_rules.specs.Answer.{turn, opened}
use Rattle.exchange_rules.specs.Exchange.{turns}
use Rattle.exchange_rules.specs.Premises.{HasDisjointParts, CanCut}
use Rattle.exchange_rules.proofs.Potentials.{caller_turns-cons}
use Rattle.exchange_rules.proofs.Costs.{cost, turn_costs}
use Rattle.session_rules.specs.Machine.{Machine}
use Rattle.session_rules.specs.Reading.{Stand, Waits, Over, Broken, Refused, Move, stay, then, run}
use Rattle.session_rules.specs.Messages.{taken}
use Rattle.session_rules.specs.Turns.{View, HearingAt, Replies, GoesOn}
use Rattle.session_rules.proofs.Runs.{move_of, run_append}
use Rattle.session_rules.proofs.Growing.{says_of}

-- ---- the turns that are counted out are all that there are

module _ {R X C : Type 0} (rules : Rules R X C) where
  abbrev pub IsWhole : ℕ → List R → List R → List (Ask R X) → Type 0
  IsWhole zero l m asks = ⊥
  IsWhole (suc n) l m [] = Unit {0}
  IsWhole (suc n) l m (ask ∷ asks) = IsWhole n m l (opened rules l (ask ∷ asks))

  pub enough_whole : HasDisjointParts rules → (n : ℕ) (l m : List R) → CanCut rules l → CanCut rules m → (asks : List (Ask R X)) → sum_by (cost rules l m) asks < n → IsWhole n l m asks
  enough_whole disjoint zero l m can can' asks h = absurd (omega arith)
  enough_whole disjoint (suc n) l m can can' [] h = tt
  enough_whole disjoint (suc n) l m can can' (ask ∷ asks) h =
      enough_whole disjoint n m l can' can (opened rules l (ask ∷ asks)) (omega (arith, turn_costs rules disjoint l m can ask asks))

pub count-cons : {R C : Type 0} (t : Turn R C) (ts : List (Turn R C)) → count_of_items (t ∷ ts) ≡ length t.items + count_of_items ts
count-cons t ts = sum_by-cons (λ u. length u.items) t ts

pub few_turns : {A : Type 0} (ts : List A) → (length (caller_turns ts) ≤ length ts) × (length (answerer_turns ts) ≤ length ts)
few_turns [] = (omega arith, omega arith)
few_turns (t ∷ []) = (omega arith, omega arith)
few_turns (t ∷ u ∷ ts) =
    let both = few_turns ts in
    (omega (arith, both.0), omega (arith, ap length (caller_turns-cons u ts), both.1))

-- ---- a side

module _ {R X C T I G : Type 0} (v : View R X C T I) (rules : Rules R X C) (side : Machine T I I R G) (spelling : I → List ℕ) (rows others : List R) where
  abbrev pub told : Stand T G → List I → Move T I R G
  told q items = run (taken side spelling) q items

  abbrev pub flat : List (Turn R C) → List I
  flat ts = flat_map v.items_of ts

  -- What comes of turns that alternate between the other side, which begins, and this one: it says its own to each of
  -- the other's, and is over at the end.
  pub record Takes (q : Stand T G) (ts : List (Turn R C)) : Type 0 where
    pub said : (i : ℕ) → (told q (flat (take i (caller_turns ts)))).says ≡ flat (take i (answerer_turns ts))
    pub whole : told q (flat (caller_turns ts)) ≡ move_of Over (flat (answerer_turns ts)) (rows_of_turns (caller_turns ts))

  takes_none : Takes Over []
  unfolding run
  takes_none = record { said = elim [ zero ↦ refl | suc i ↦ refl ]; whole = refl }

  module _ (q : Stand T G) (t u : Turn R C) (rest : List (Turn R C)) (m : Move T I R G) (is : told q (v.items_of t) ≡ m) (says : m.says ≡ v.items_of u) (takes : m.rows ≡ rows_of_turn t) (later : Takes m.stand rest) where
    told_behind : (ts : List (Turn R C)) → told q (flat (t ∷ ts)) ≡ then m (told m.stand (flat ts))
    told_behind ts = run_append (taken side spelling) q (v.items_of t) (flat ts) ∙ ap (λ k. then k (told k.stand (flat ts))) is

    said_more : (i : ℕ) → (told q (flat (take i (caller_turns (t ∷ u ∷ rest))))).says ≡ flat (take i (answerer_turns (t ∷ u ∷ rest)))
    unfolding run
    said_more zero = refl
    said_more (suc i) =
        ap says_of (told_behind (take i (caller_turns rest)))
        ∙ ap₂ (λ x y. x ++ y) says (later.said i)
        ∙ ap (λ ts. flat (take (suc i) ts)) (sym (caller_turns-cons u rest))

    one_turn : Takes q (t ∷ u ∷ rest)
    one_turn = record {
      said = said_more;
      whole =
          told_behind (caller_turns rest)
          ∙ ap (then m) later.whole
          ∙ ap₂ (λ x y. move_of Over (x ++ flat (answerer_turns rest)) (y ++ rows_of_turns (caller_turns rest))) says takes
          ∙ ap (λ ts. move_of Over (flat ts) (rows_of_turns (t ∷ caller_turns rest))) (sym (caller_turns-cons u rest));
    }

  parted : (q : Stand T G) → told q (v.items_of bye) ≡ stay Over → Takes q (bye ∷ [])
  unfolding run
  parted q is =
      let alone : told q (flat (bye ∷ [])) ≡ stay Over = ap (told q) (append-nil (v.items_of bye)) ∙ is in
      record { said = elim [ zero ↦ refl | suc zero ↦ ap says_of alone | suc (suc i) ↦ ap says_of alone ]; whole = alone }

  -- behind a turn of the other side
  pub behind_turn : (n : ℕ) (opens : List (Ask R X)) (t : Turn R C) (counted most : ℕ) (m : Move T I R G)
      → Replies v rules rows t opens counted most m → IsWhole rules (suc n) rows others opens
      → counted + length t.items + count_of_items (turns rules (suc n) rows others opens) ≤ most
      → ((asks : List (Ask R X)) (sofar : ℕ) (p : Stand T G) → HearingAt v rows asks sofar most p → IsWhole rules n others rows asks
      → sofar + count_of_items (turns rules n others rows asks) ≤ most → Takes p (turns rules n others rows asks))
      → (q : Stand T G) → told q (v.items_of t) ≡ m → Takes q (t ∷ turns rules (suc n) rows others opens)
  unfolding turns
  behind_turn n [] t counted most m replies is_whole few later q is =
      one_turn q t (turn rules rows []) [] m is replies.says replies.takes (subst (λ p. Takes p []) (sym replies.stands) takes_none)
  behind_turn n (ask ∷ asks) t counted most m replies is_whole few later q is =
      let own = turn rules rows (ask ∷ asks) in
      let next = opened rules rows (ask ∷ asks) in
      let rest = turns rules n others rows next in
      one_turn q t own rest m is replies.says replies.takes
      (later next (counted + length t.items + length own.items) m.stand replies.stands is_whole (omega (arith, count-cons own rest)))

  module _ (goes_on : GoesOn v rules side spelling rows others) where
    replies_to : (q : Stand T G) (ask : Ask R X) (asks : List (Ask R X)) (counted most : ℕ) → HearingAt v rows (ask ∷ asks) counted most q
        → counted + length (turn rules others (ask ∷ asks)).items ≤ most
        → Replies v rules rows (turn rules others (ask ∷ asks)) (opened rules others (ask ∷ asks)) counted most (told q (v.items_of (turn rules others (ask ∷ asks))))
    replies_to (Waits t at []) ask asks counted most hears few = goes_on.replies t at ask asks counted most hears few
    replies_to (Waits t at (byte ∷ held)) ask asks counted most hears few = absurd hears
    replies_to Over ask asks counted most hears few = absurd hears
    replies_to (Broken at) ask asks counted most hears few = absurd hears
    replies_to (Refused cause) ask asks counted most hears few = absurd hears

    parts_at : (q : Stand T G) (counted most : ℕ) → HearingAt v rows [] counted most q → counted ≤ most → told q (v.items_of bye) ≡ stay Over
    parts_at (Waits t at []) counted most hears few = goes_on.parts t at counted most hears few
    parts_at (Waits t at (byte ∷ held)) counted most hears few = absurd hears
    parts_at Over counted most hears few = absurd hears
    parts_at (Broken at) counted most hears few = absurd hears
    parts_at (Refused cause) counted most hears few = absurd hears

    pub takes_turns : (n : ℕ) (most : ℕ) (asks : List (Ask R X)) (counted : ℕ) (q : Stand T G) → HearingAt v rows asks counted most q → IsWhole rules n others rows asks
        → counted + count_of_items (turns rules n others rows asks) ≤ most → Takes q (turns rules n others rows asks)
    unfolding turns
    takes_turns zero most asks counted q hears is_whole few = absurd is_whole
    takes_turns (suc n) most [] counted q hears is_whole few = parted q (parts_at q counted most hears (omega arith))
    takes_turns (suc zero) most (ask ∷ asks) counted q hears is_whole few = absurd is_whole
    takes_turns (suc (suc n)) most (ask ∷ asks) counted q hears is_whole few =
        let t = turn rules others (ask ∷ asks) in
        let opens = opened rules others (ask ∷ asks) in
        let rest = turns rules (suc n) rows others opens in
        behind_turn n opens t counted most (told q (v.items_of t))
        (replies_to q ask asks counted most hears (omega (arith, count-cons t rest)))
        is_whole (omega (arith, count-cons t rest))
        (λ asks' sofar p h w f. takes_turns n most asks' sofar p h w f) q refl
