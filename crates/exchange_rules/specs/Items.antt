-- What two sides say: items in turns, and the asks that items leave to the other side.
use Rattle.std.specs.Prelude.{ℕ, Bool, true, false, ◌&&◌, List, [], ◌∷◌, length, flat_map, sum_by}

-- what a side has to answer: a box with the other side's fingerprint of it, or a box with the other side's rows in it
pub data Ask (R X : Type 0) : Type 0 where
  Print : X → List ℕ → Ask R X
  Sent : X → List R → Ask R X

-- what a side says, each of them counted: the fingerprint of the whole box; that both hold the same; a cut with the
-- fingerprints of its parts; the own rows of a box; the own rows of a box that the other side lacks
pub data Item (R C : Type 0) : Type 0 where
  First : List ℕ → Item R C
  Agree : Item R C
  Split : C → List (List ℕ) → Item R C
  Entries : List R → Item R C
  Rest : List R → Item R C

-- a turn: its items, and whether it ends with a farewell or only gives the turn to the other side
pub record Turn (R C : Type 0) : Type 0 where
  pub items : List (Item R C)
  pub ends_with_bye : Bool

-- nothing stands in the list
abbrev pub is_empty : {A : Type 0} → List A → Bool
is_empty [] = true
is_empty (x ∷ xs) = false

-- a farewell alone
abbrev pub bye : {R C : Type 0} → Turn R C
bye = record { items = []; ends_with_bye = true }

abbrev pub is_bye : {R C : Type 0} → Turn R C → Bool
is_bye t = t.ends_with_bye && is_empty t.items

-- the rows in an item, in a turn, in some turns
abbrev pub rows_of_item : {R C : Type 0} → Item R C → List R
rows_of_item (First print) = []
rows_of_item Agree = []
rows_of_item (Split cut prints) = []
rows_of_item (Entries rows) = rows
rows_of_item (Rest rows) = rows

abbrev pub rows_of_turn : {R C : Type 0} → Turn R C → List R
rows_of_turn t = flat_map rows_of_item t.items

abbrev pub rows_of_turns : {R C : Type 0} → List (Turn R C) → List R
rows_of_turns ts = flat_map rows_of_turn ts

-- how many items are said in some turns
abbrev pub counted : {R C : Type 0} → List (Turn R C) → ℕ
counted ts = sum_by (λ t. length t.items) ts

-- every other turn from the first on, and from the second on: those of the side that begins, those of the other side
abbrev pub caller_turns : {T : Type 0} → List T → List T
caller_turns [] = []
caller_turns (t ∷ []) = t ∷ []
caller_turns (t ∷ u ∷ ts) = t ∷ caller_turns ts

abbrev pub answerer_turns : {T : Type 0} → List T → List T
answerer_turns [] = []
answerer_turns (t ∷ ts) = caller_turns ts

-- the rows that are sent to the side that answers, and to the side that begins
abbrev pub to_right : {R C : Type 0} → List (Turn R C) → List R
to_right ts = rows_of_turns (caller_turns ts)

abbrev pub to_left : {R C : Type 0} → List (Turn R C) → List R
to_left ts = rows_of_turns (answerer_turns ts)
