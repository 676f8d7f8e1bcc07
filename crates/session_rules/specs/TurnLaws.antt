-- What the laws of sides say that take the turns of an exchange.
use Rattle.std.specs.Prelude.{◌≡◌, ℕ, ◌≤◌, List, length, flat_map, Option}
use Rattle.exchange_rules.specs.Rules.{Rules}
use Rattle.exchange_rules.specs.Items.{counted as count_of_items, caller_turns, answerer_turns, to_left, to_right}
use Rattle.exchange_rules.specs.Exchange.{exchange}
use Rattle.exchange_rules.specs.Premises.{HasDisjointParts, CanCut, CanSend}
use Rattle.session_rules.specs.Machine.{Machine}
use Rattle.session_rules.specs.Reading.{out}
use Rattle.session_rules.specs.Rounds.{Meet}
use Rattle.session_rules.specs.Messages.{dialogue}
use Rattle.session_rules.specs.Talk.{Caller, Answerer}
use Rattle.session_rules.specs.Pairs.{Pair, calling, answering, caller_side, answerer_side, GreetEachOther}
use Rattle.session_rules.specs.Turns.{View, TakeTurns, HearsAll, CanReadTurns, AreExchanged}
use Rattle.session_rules.specs.WholeTurns.{by_turns, as_turns}

-- ---- two sides

module _ (R X C T I G : Type 0) where
  -- two sides that take the turns of an exchange say these in items
  abbrev pub ItemsTellTurns : Type 0
  ItemsTellTurns = (v : View R X C T I) (rules : Rules R X C) (a b : Machine T I I R G) (rows others : List R) (box : Option X) (n : ℕ)
      → HasDisjointParts rules → CanCut rules rows → CanCut rules others
      → TakeTurns v rules a b rows others box → length (exchange rules rows others box) ≤ n
      → dialogue a b n ≡ (
        flat_map v.items_of (caller_turns (exchange rules rows others box)),
        flat_map v.items_of (answerer_turns (exchange rules rows others box)),
      )

  -- the caller is over with the answerer's, and has the rows that it is sent
  abbrev pub CallerHearsTurns : Type 0
  CallerHearsTurns = (v : View R X C T I) (rules : Rules R X C) (a b : Machine T I I R G) (rows others : List R) (box : Option X)
      → HasDisjointParts rules → CanCut rules rows → CanCut rules others → TakeTurns v rules a b rows others box
      → HearsAll a b.spelling (flat_map v.items_of (answerer_turns (exchange rules rows others box)))
      (to_left (exchange rules rows others box))

  -- and so the answerer with the caller's
  abbrev pub AnswererHearsTurns : Type 0
  AnswererHearsTurns = (v : View R X C T I) (rules : Rules R X C) (a b : Machine T I I R G) (rows others : List R) (box : Option X)
      → HasDisjointParts rules → CanCut rules rows → CanCut rules others → TakeTurns v rules a b rows others box
      → HearsAll b a.spelling (flat_map v.items_of (caller_turns (exchange rules rows others box)))
      (to_right (exchange rules rows others box))

-- sides that say and read whole turns take those of an exchange, of any lawful rules
abbrev pub WholeTurnsAreTaken : (R X C : Type 0) → Type 0
WholeTurnsAreTaken R X C = (rules : Rules R X C) (rows others : List R) (box : Option X) (most : ℕ)
    → CanCut rules rows → CanCut rules others → CanSend rules rows → CanSend rules others
    → count_of_items (exchange rules rows others box) ≤ most
    → TakeTurns (as_turns R X C) rules (by_turns rules Caller rows box most) (by_turns rules Answerer others box most) rows others box

-- ---- two sessions

module _ (H P A F R X T I G C : Type 0) where
  -- two sessions whose sides take the turns of an exchange, and which each read what the other writes: whatever they write
  -- are their greetings and these turns, both are done, and each has the rows that the exchange sends it
  abbrev pub TurnsSettle : Type 0
  TurnsSettle = (p : Pair H P A F R T I G) (v : View R X C T I) (rules : Rules R X C) (rows others : List R) (box : Option X) (left right : List ℕ)
      → HasDisjointParts rules → CanCut rules rows → CanCut rules others
      → GreetEachOther p → TakeTurns v rules (caller_side p) (answerer_side p) rows others box
      → CanReadTurns v (caller_side p) (answerer_side p) (exchange rules rows others box)
      → Meet (out (calling p)) (out (answering p)) left right
      → AreExchanged p v (exchange rules rows others box) left right

  -- and there is such a pair
  abbrev pub TurnsMeet : Type 0
  TurnsMeet = (p : Pair H P A F R T I G) (v : View R X C T I) (rules : Rules R X C) (rows others : List R) (box : Option X)
      → HasDisjointParts rules → CanCut rules rows → CanCut rules others
      → GreetEachOther p → TakeTurns v rules (caller_side p) (answerer_side p) rows others box
      → CanReadTurns v (caller_side p) (answerer_side p) (exchange rules rows others box)
      → (left : List ℕ) × (right : List ℕ) × Meet (out (calling p)) (out (answering p)) left right
