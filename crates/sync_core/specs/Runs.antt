-- Many steps of a side: what it says until it hears, what it makes of a turn that it hears, and what two sides say that
-- hear each other.
use Rattle.std.specs.Prelude.{◌≡◌, ℕ, zero, suc, ◌+◌, ◌≤◌, List, [], ◌∷◌, length, Option, None, Some, Result, Ok, Err, IsOkAnd}
use Rattle.willow_entry.specs.Row.{RowValue}
use Rattle.sync_msg.specs.Items.{ItemValue}
use Rattle.sync_msg.specs.declared.refusal.CoreRefusal.{CoreRefusal}
use Rattle.sync_core.specs.Flat.{AskValue, TurnValue, turn_items}
use Rattle.sync_core.specs.Place.{Doing, Saying, Replying, Beginning, Hearing, HearingRows, Parting, Finished, Refused, Place, most_items, answering}
use Rattle.sync_core.specs.Steps.{said, heard, waiting}
use Rattle.sync_core.specs.Held.{to_count}

-- ---- what is said

-- an item, and what is said behind it
abbrev pub with_item : ItemValue → List ItemValue × Place → List ItemValue × Place
with_item item run = (item ∷ run.0, run.1)

-- what is said from a next item on
abbrev pub said_from : (Place → List ItemValue × Place) → Place → Option (ItemValue × Place) → List ItemValue × Place
said_from behind place None = ([], place)
said_from behind place (Some step) = with_item step.0 (behind step.1)

-- at most so many items that a side says, one after the other, and its place then
unfoldable pub says : ℕ → Place → List ItemValue × Place
says zero place = ([], place)
says (suc most) place = said_from (says most) place (said place)

-- how many items a side says before it hears
abbrev pub left_to_say : Doing → ℕ
left_to_say (Saying items asks) = length items
left_to_say Replying = 1
left_to_say Beginning = 0
left_to_say (Hearing asks opens) = 0
left_to_say (HearingRows asks left read opens) = 0
left_to_say Parting = 0
left_to_say Finished = 0
left_to_say (Refused cause) = 0

-- all of them, and its place then
abbrev pub says_all : Place → List ItemValue × Place
says_all place = says (left_to_say place.doing) place

-- the place of a side that has said a turn which opened these asks
abbrev pub place_after : Place → TurnValue → List AskValue → Place
place_after place t asks = record place { sent = place.sent + to_count (turn_items place.version t); doing = waiting asks }

-- ---- what is heard

-- what becomes of one that was not refused
abbrev pub heard_from : {A : Type 0} → (A → Result A CoreRefusal) → Result A CoreRefusal → Result A CoreRefusal
heard_from behind (Ok x) = behind x
heard_from behind (Err cause) = Err cause

-- the place of a side that hears some items, one after the other; or why the first of them is refused that is
unfoldable pub hears : Place → List ItemValue → Result Place CoreRefusal
hears place [] = Ok place
hears place (item ∷ items) = heard_from (λ next. hears next items) (heard place item)

-- it is to hear the answers to some asks
abbrev pub HearsAnswers : Place → List AskValue → Type 0
HearsAnswers place asks = place.doing ≡ Hearing asks []

-- it has heard nothing yet, and the peer begins
abbrev pub HearsFirst : Place → Type 0
HearsFirst place = place.doing ≡ Beginning

-- it has said its farewell, and the peer's is due
abbrev pub HearsLast : Place → Type 0
HearsLast place = place.doing ≡ Parting

-- with the items of the turn no more are counted than may be
abbrev pub HasRoom : Place → TurnValue → Type 0
HasRoom place t = place.sent + place.read + to_count (turn_items place.version t) ≤ most_items place.area place.rows

-- what a side does that has heard a turn which opened these asks: it answers them, or says farewell where there is none
abbrev pub replying : ℕ → List RowValue → List AskValue → Doing
replying version rows [] = Replying
replying version rows (ask ∷ asks) = answering version rows (ask ∷ asks)

-- its place then
abbrev pub place_behind : Place → TurnValue → List AskValue → Place
place_behind place t opens = record place { read = place.read + to_count (turn_items place.version t); doing = replying place.version place.rows opens }

-- its place behind the last farewell
abbrev pub place_at_end : Place → Place
place_at_end place = record place { doing = Finished }

-- ---- two sides

-- Of two sides of one version the first says the first of these turns, which the second hears, then the second says the
-- next, and so on to the last, behind which both are done.
unfoldable pub SayTurns : List TurnValue → Place → Place → Type 0
SayTurns [] writer reader = (writer.doing ≡ Finished) × (reader.doing ≡ Finished)
SayTurns (t ∷ ts) writer reader =
    ((says_all writer).0 ≡ turn_items writer.version t) × IsOkAnd (hears reader (turn_items writer.version t)) (λ next. SayTurns ts next (says_all writer).1)
