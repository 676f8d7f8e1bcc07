-- A session of two stores without rows, to look at: the caller asks whether both hold the same; the answerer says so, and that
-- it has done; and the caller says that it has done.
use Rattle.std.specs.Prelude.{ℕ, ◌==◌, Bool, true, false, List, [], ◌∷◌, Option, Some, None, Result, Ok, Err, if◌then◌else◌}
use Rattle.willow_entry.specs.Row.{RowValue, same_row}
use Rattle.willow_entry.specs.Entry.{same_bytes}
use Rattle.exchange_rules.specs.Rules.{Rules}
use Rattle.exchange_rules.specs.Items.{Ask, Print, Item}
use Rattle.session_rules.specs.Machine.{Seen, Whole, Part, Wrong}
use Rattle.session_rules.specs.Talk.{Role, Caller, Answerer, Talk}
use Rattle.session_rules.specs.Pairs.{Pair}
use Rattle.session_rules.specs.Telling.{by_digits}
use Rattle.session_rules.specs.Turns.{View}
use Rattle.sync_follow.specs.BothEnds.{BothEnds}

-- what is said, a byte each
pub data Said : Type 0 where
  Asks : Said
  Agrees : Said
  Parts : Said

abbrev pub said_spelling : Said → List ℕ
said_spelling Asks = 0 ∷ []
said_spelling Agrees = 1 ∷ []
said_spelling Parts = 2 ∷ []

abbrev pub said_seen : List ℕ → Seen Said
said_seen [] = Part
said_seen (byte ∷ []) = Whole (if byte == 0 then Asks else (if byte == 1 then Agrees else Parts))
said_seen (byte ∷ next ∷ bytes) = Wrong

-- the caller is to ask, waits for the answer, or is to part; the answerer waits to be asked, is to agree, or waits for the other
-- to part; both are done
pub data Turnstile : Type 0 where
  Asking : Turnstile
  Waiting : Turnstile
  Parting : Turnstile
  Listening : Turnstile
  Agreeing : Turnstile
  Closing : Turnstile
  Gone : Turnstile

abbrev pub stands_first : Role → Turnstile
stands_first Caller = Asking
stands_first Answerer = Listening

abbrev pub says_next : Turnstile → Option (Said × Turnstile)
says_next Asking = Some (Asks, Waiting)
says_next Waiting = None
says_next Parting = Some (Parts, Gone)
says_next Listening = None
says_next Agreeing = Some (Agrees, Closing)
says_next Closing = None
says_next Gone = None

abbrev pub left_to_say : Turnstile → ℕ
left_to_say Asking = 1
left_to_say Waiting = 0
left_to_say Parting = 1
left_to_say Listening = 0
left_to_say Agreeing = 1
left_to_say Closing = 0
left_to_say Gone = 0

abbrev pub hears_said : Turnstile → Said → Result Turnstile ℕ
hears_said Waiting Agrees = Ok Parting
hears_said Listening Asks = Ok Agreeing
hears_said Closing Parts = Ok Gone
hears_said stands said = Err 0

abbrev pub is_gone : Turnstile → Bool
is_gone Asking = false
is_gone Waiting = false
is_gone Parting = false
is_gone Listening = false
is_gone Agreeing = false
is_gone Closing = false
is_gone Gone = true

abbrev pub by_asking : Talk RowValue (Option ℕ) Turnstile Said ℕ
by_asking = record {
  begin = λ role rows agreed. stands_first role;
  said = says_next;
  to_say = left_to_say;
  heard = hears_said;
  is_done = is_gone;
  row_in = λ said. None;
  sees = λ stands. said_seen;
  spelling = said_spelling;
}

-- ---- the exchange whose turns these are

-- one box has all rows, and all rows are few enough to be sent
abbrev pub of_one_box : Rules RowValue (Unit {0}) (Unit {0})
of_one_box = record {
  same_row = same_row;
  same_print = same_bytes;
  has = λ box row. true;
  print = λ rows. [];
  choice = λ rows. None;
  parts = λ box cut. [];
  is_legal = λ box rows. true;
}

abbrev pub turn_said : Bool → List (Item RowValue (Unit {0})) → Said
turn_said false items = Asks
turn_said true [] = Parts
turn_said true (item ∷ items) = Agrees

abbrev pub asks_due : Turnstile → Option (List (Ask RowValue (Unit {0})))
asks_due Asking = None
asks_due Waiting = Some (Print tt [] ∷ [])
asks_due Parting = None
asks_due Listening = None
asks_due Agreeing = None
asks_due Closing = Some []
asks_due Gone = None

abbrev pub counted_so_far : Turnstile → ℕ
counted_so_far Asking = 0
counted_so_far Waiting = 1
counted_so_far Parting = 2
counted_so_far Listening = 0
counted_so_far Agreeing = 1
counted_so_far Closing = 2
counted_so_far Gone = 2

abbrev pub as_asked : View RowValue (Unit {0}) (Unit {0}) Turnstile Said
as_asked = record {
  items_of = λ t. turn_said t.ends_with_bye t.items ∷ [];
  rows = λ stands. [];
  asks = asks_due;
  counted = counted_so_far;
  most = λ stands. 2;
}

-- ---- the two sides, and what they write

abbrev pub askers : Pair ℕ ℕ (Option ℕ) ℕ RowValue Turnstile Said ℕ
askers = record {
  greeting = by_digits;
  talk = by_asking;
  caller = record { role = Caller; hello = 9; proof = 15 };
  answerer = record { role = Answerer; hello = 6; proof = 16 };
  caller_offers = λ agreed. [];
  answerer_offers = λ agreed. [];
}

abbrev pub small_ends : BothEnds ℕ ℕ (Option ℕ) ℕ (Unit {0}) Turnstile Said ℕ (Unit {0})
small_ends = record {
  pair = askers;
  rules = of_one_box;
  view = as_asked;
  caller_rows = [];
  server_rows = [];
  box = tt;
  by_caller = 9 ∷ 15 ∷ 0 ∷ 2 ∷ [];
  by_server = 6 ∷ 16 ∷ 1 ∷ [];
}
