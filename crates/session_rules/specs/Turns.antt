-- Sides of an exchange that tell each turn of its rules by items.
use Rattle.std.specs.Prelude.{◌≡◌, ℕ, ◌+◌, ◌≤◌, List, [], ◌∷◌, ◌++◌, length, flat_map, Option, None, Some}
use Rattle.exchange_rules.specs.Rules.{Rules}
use Rattle.exchange_rules.specs.Items.{Ask, Turn, bye, counted as count_of_items, rows_of_turn, caller_turns, answerer_turns, to_left, to_right}
use Rattle.exchange_rules.specs.Answer.{turn, opened}
use Rattle.exchange_rules.specs.Exchange.{first_turn, first_asks, exchange}
use Rattle.session_rules.specs.Machine.{Machine}
use Rattle.session_rules.specs.Reading.{Stand, Waits, Over, Broken, Refused, Move, stay, start, run, Done, got, ending}
use Rattle.session_rules.specs.Messages.{taken, CanReadAll, hear}
use Rattle.session_rules.specs.Pairs.{Pair, calling, answering, by_caller, by_answerer}

-- how turns and places are seen
pub record View (R X C T I : Type 0) : Type 0 where
  -- the items that tell a turn, with its end
  pub items_of : Turn R C → List I
  -- the rows of a side
  pub rows : T → List R
  -- the asks whose answers it reads next, where it has read none of them; [] where it reads a farewell; None at any other
  -- place
  pub asks : T → Option (List (Ask R X))
  -- how many items of turns it has said and read, and how many they may be
  pub counted : T → ℕ
  pub most : T → ℕ

-- a side with these rows reads the answers to these asks next
pub record Hearing {R X C T I : Type 0} (v : View R X C T I) (rows : List R) (asks : List (Ask R X)) (counted most : ℕ) (t : T) : Type 0 where
  pub has : v.rows t ≡ rows
  pub hears : v.asks t ≡ Some asks
  pub so_many : v.counted t ≡ counted
  pub so_many_may : v.most t ≡ most

-- so stands a side that waits for an item
abbrev pub HearingAt : {R X C T I G : Type 0} → View R X C T I → List R → List (Ask R X) → ℕ → ℕ → Stand T G → Type 0
HearingAt v rows asks counted most (Waits t at []) = Hearing v rows asks counted most t
HearingAt v rows asks counted most (Waits t at (byte ∷ held)) = ⊥
HearingAt v rows asks counted most Over = ⊥
HearingAt v rows asks counted most (Broken at) = ⊥
HearingAt v rows asks counted most (Refused cause) = ⊥

-- so stands a side that has answered some asks: behind a farewell that answers nothing it is over
abbrev pub Answered : {R X C T I G : Type 0} → View R X C T I → Rules R X C → List R → List (Ask R X) → ℕ → ℕ → Stand T G → Type 0
Answered v rules rows [] counted most stand = stand ≡ Over
Answered v rules rows (ask ∷ asks) counted most stand = HearingAt v rows (opened rules rows (ask ∷ asks)) counted most stand

-- What comes of a turn that opened some asks: the side says the turn that answers them, takes the rows of the other's,
-- and has counted both.
pub record Replies {R X C T I G : Type 0} (v : View R X C T I) (rules : Rules R X C) (rows : List R) (read : Turn R C) (asks : List (Ask R X)) (counted most : ℕ) (m : Move T I R G) : Type 0 where
  pub says : m.says ≡ v.items_of (turn rules rows asks)
  pub takes : m.rows ≡ rows_of_turn read
  pub stands : Answered v rules rows asks (counted + length read.items + length (turn rules rows asks).items) most m.stand

-- a side goes on by the rules, where the other one has other rows: it replies to each turn of that, as long as not too
-- many items are counted, and is over at its farewell
pub record GoesOn {R X C T I G : Type 0} (v : View R X C T I) (rules : Rules R X C) (side : Machine T I I R G) (spelling : I → List ℕ) (rows others : List R) : Type 0 where
  pub replies : (t : T) (at : ℕ) (ask : Ask R X) (asks : List (Ask R X)) (counted most : ℕ)
      → Hearing v rows (ask ∷ asks) counted most t → counted + length (turn rules others (ask ∷ asks)).items ≤ most
      → Replies v rules rows (turn rules others (ask ∷ asks)) (opened rules others (ask ∷ asks)) counted most
      (run (taken side spelling) (Waits t at []) (v.items_of (turn rules others (ask ∷ asks))))
  pub parts : (t : T) (at counted most : ℕ) → Hearing v rows [] counted most t → counted ≤ most
      → run (taken side spelling) (Waits t at []) (v.items_of bye) ≡ stay Over

-- ---- how an exchange begins

-- the first turn, and what it opens; without a box it is a farewell
abbrev pub opening_turn : {R X C : Type 0} → Rules R X C → List R → Option X → Turn R C
opening_turn rules rows None = bye
opening_turn rules rows (Some x) = first_turn rules rows x

abbrev pub opening_asks : {R X C : Type 0} → Rules R X C → List R → Option X → List (Ask R X)
opening_asks rules rows None = []
opening_asks rules rows (Some x) = first_asks rules rows x

-- the caller begins with it
pub record CallerBegins {R X C T I G : Type 0} (v : View R X C T I) (rules : Rules R X C) (side : Machine T I I R G) (rows : List R) (box : Option X) (most : ℕ) : Type 0 where
  pub says : side.opening ≡ v.items_of (opening_turn rules rows box)
  pub hears : Hearing v rows (opening_asks rules rows box) (length (opening_turn rules rows box).items) most side.first

-- the answerer says nothing, and replies to it
pub record Awaits {R X C T I G : Type 0} (v : View R X C T I) (rules : Rules R X C) (side : Machine T I I R G) (spelling : I → List ℕ) (rows others : List R) (box : Option X) (most : ℕ) : Type 0 where
  pub silent : side.opening ≡ []
  pub replies : Replies v rules rows (opening_turn rules others box) (opening_asks rules others box) 0 most
      (run (taken side spelling) (start side) (v.items_of (opening_turn rules others box)))

-- two sides take the turns of the exchange of a caller with rows and an answerer with others; the items of it are not too
-- many for either
pub record TakeTurns {R X C T I G : Type 0} (v : View R X C T I) (rules : Rules R X C) (caller answerer : Machine T I I R G) (rows others : List R) (box : Option X) : Type 0 where
  pub caller_most : ℕ
  pub answerer_most : ℕ
  pub begins : CallerBegins v rules caller rows box caller_most
  pub caller_goes_on : GoesOn v rules caller answerer.spelling rows others
  pub awaits : Awaits v rules answerer caller.spelling others rows box answerer_most
  pub answerer_goes_on : GoesOn v rules answerer caller.spelling others rows
  pub few_for_caller : count_of_items (exchange rules rows others box) ≤ caller_most
  pub few_for_answerer : count_of_items (exchange rules rows others box) ≤ answerer_most

-- it is over with just these items, and has taken these rows
pub record HearsAll {R T I G : Type 0} (side : Machine T I I R G) (spelling : I → List ℕ) (items : List I) (rows : List R) : Type 0 where
  pub over : (hear side spelling items).stand ≡ Over
  pub takes : (hear side spelling items).rows ≡ rows

-- each side can read the items of the other's turns
pub record CanReadTurns {R X C T I G : Type 0} (v : View R X C T I) (caller answerer : Machine T I I R G) (ts : List (Turn R C)) : Type 0 where
  pub caller_can : CanReadAll caller answerer.spelling (start caller) (flat_map v.items_of (answerer_turns ts))
  pub answerer_can : CanReadAll answerer caller.spelling (start answerer) (flat_map v.items_of (caller_turns ts))

-- Two sessions write their greetings and their turns, are done, and have the rows that the other one sent.
pub record AreExchanged {H P A F R X T I G C : Type 0} (p : Pair H P A F R T I G) (v : View R X C T I) (ts : List (Turn R C)) (left right : List ℕ) : Type 0 where
  pub caller_writes : left ≡ by_caller p ++ flat_map p.talk.spelling (flat_map v.items_of (caller_turns ts))
  pub answerer_writes : right ≡ by_answerer p ++ flat_map p.talk.spelling (flat_map v.items_of (answerer_turns ts))
  pub caller_done : ending (calling p) right ≡ Done
  pub caller_got : got (calling p) right ≡ to_left ts
  pub answerer_done : ending (answering p) left ≡ Done
  pub answerer_got : got (answering p) left ≡ to_right ts
