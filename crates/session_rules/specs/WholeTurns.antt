-- Sides of an exchange that say and read whole turns, by the rules alone.
use Rattle.std.specs.Prelude.{ℕ, ◌+◌, List, [], ◌∷◌, length, Option, None, Some, nat_le, if◌then◌else◌}
use Rattle.exchange_rules.specs.Rules.{Rules}
use Rattle.exchange_rules.specs.Items.{Ask, Turn, is_bye, rows_of_turn}
use Rattle.exchange_rules.specs.Answer.{turn, opened}
use Rattle.exchange_rules.specs.AnyPeer.{heard, first_opens}
use Rattle.session_rules.specs.Machine.{Wrong, Step, Goes, Ends, Refuses, Machine}
use Rattle.session_rules.specs.Talk.{Role, Caller, Answerer}
use Rattle.session_rules.specs.Turns.{View, opening_turn, opening_asks}

-- a side with rows that has counted so many items of at most so many; it reads the answers to some asks next, or, where
-- there are none, a first turn
pub record TurnPlace (R X : Type 0) : Type 0 where
  pub rows : List R
  pub counted : ℕ
  pub most : ℕ
  pub asks : Option (List (Ask R X))

-- what it opens that was read as the first turn
abbrev pub first_heard : {R X C : Type 0} → Option X → Turn R C → Option (List (Ask R X))
first_heard None t = if is_bye t then Some [] else None
first_heard (Some x) t = first_opens x t.items t.ends_with_bye

-- the answer to what a turn opened; to nothing that is asked a farewell, which is the last
abbrev pub turn_answered : {R X C : Type 0} → Rules R X C → TurnPlace R X → Turn R C → Option (List (Ask R X)) → Step (TurnPlace R X) (Turn R C) R (Unit {0})
turn_answered rules place read None = Refuses tt
turn_answered rules place read (Some []) = Ends (turn rules place.rows [] ∷ []) (rows_of_turn read)
turn_answered rules place read (Some (ask ∷ asks)) =
    Goes (record place {
      counted = place.counted + length read.items + length (turn rules place.rows (ask ∷ asks)).items;
      asks = Some (opened rules place.rows (ask ∷ asks));
    }) (turn rules place.rows (ask ∷ asks) ∷ []) (rows_of_turn read)

-- what comes of a turn, by the asks that it is to answer
abbrev pub turn_read : {R X C : Type 0} → Rules R X C → Option X → TurnPlace R X → Option (List (Ask R X)) → Turn R C → Step (TurnPlace R X) (Turn R C) R (Unit {0})
turn_read rules box place None t = turn_answered rules place t (first_heard box t)
turn_read rules box place (Some []) t = if is_bye t then Ends [] [] else Refuses tt
turn_read rules box place (Some (ask ∷ asks)) t = turn_answered rules place t (heard rules (ask ∷ asks) t)

-- refused where too many items are counted
abbrev pub turn_counted : {R X C : Type 0} → Rules R X C → Option X → TurnPlace R X → Turn R C → Step (TurnPlace R X) (Turn R C) R (Unit {0})
turn_counted rules box place t =
    if nat_le (place.counted + length t.items) place.most then turn_read rules box place place.asks t else Refuses tt

-- what a side says first, and its place then
abbrev pub said_first : {R X C : Type 0} → Rules R X C → Role → List R → Option X → List (Turn R C)
said_first rules Caller rows box = opening_turn rules rows box ∷ []
said_first rules Answerer rows box = []

abbrev pub place_first : {R X C : Type 0} → Rules R X C → Role → List R → Option X → ℕ → TurnPlace R X
place_first rules Caller rows box most = record {
  rows = rows;
  counted = length (opening_turn rules rows box).items;
  most = most;
  asks = Some (opening_asks rules rows box);
}
place_first rules Answerer rows box most = record { rows = rows; counted = 0; most = most; asks = None }

-- the side as a machine that reads turns; they have no bytes
abbrev pub by_turns : {R X C : Type 0} → Rules R X C → Role → List R → Option X → ℕ → Machine (TurnPlace R X) (Turn R C) (Turn R C) R (Unit {0})
by_turns rules role rows box most = record {
  opening = said_first rules role rows box;
  first = place_first rules role rows box most;
  sees = λ place bytes. Wrong;
  step = turn_counted rules box;
  spelling = λ t. [];
}

-- a turn is one item
abbrev pub as_turns : (R X C : Type 0) → View R X C (TurnPlace R X) (Turn R C)
as_turns R X C = record { items_of = λ t. t ∷ []; rows = λ p. p.rows; asks = λ p. p.asks; counted = λ p. p.counted; most = λ p. p.most }
