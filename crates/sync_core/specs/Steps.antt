-- One step of a side: what it says next, and what becomes of an item that it reads.
use Rattle.std.specs.Prelude.{ℕ, zero, suc, ◌+◌, ◌-◌, Bool, true, not, List, [], ◌∷◌, ◌++◌, Option, None, Some, Result, Ok, Err, nat_eq, nat_le, if◌then◌else◌}
use Rattle.std.specs.Ordering.{is_lt}
use Rattle.spelling.specs.Answers.{cause_if}
use Rattle.willow_area.specs.Boxes.{Ranges}
use Rattle.willow_area.specs.Cuts.{can_cut, lower_part, upper_part}
use Rattle.willow_area.specs.declared.cut.CutAt.{CutAt}
use Rattle.willow_entry.specs.Row.{RowValue, inner_place_cmp}
use Rattle.block_store.specs.InBox.{is_in}
use Rattle.exchange_rules.specs.AnyPeer.{part_asks}
use Rattle.exchange_rules.specs.Items.{Print, Sent}
use Rattle.range_split.specs.Parts.{can_cut_at, parts_at}
use Rattle.sync_msg.specs.Items.{ItemValue, is_counted}
use Rattle.sync_msg.specs.declared.item.Item.{Item}
use Rattle.sync_msg.specs.declared.item.Item.TheVariants.{First, Agree, Split, Parts, Entries, Rest, Row, EndTurn, Bye}
use Rattle.sync_msg.specs.declared.refusal.CoreRefusal.{CoreRefusal}
use Rattle.sync_msg.specs.declared.refusal.CoreRefusal.TheVariants.{BadCut, ItemMismatch, EntryOutside, RowsOutOfOrder, TooManyItems}
use Rattle.sync_core.specs.Flat.{AskValue}
use Rattle.sync_core.specs.Place.{Doing, Saying, Replying, Beginning, Hearing, HearingRows, Parting, Finished, Refused, Place, most_items, answering}

-- 1 for an item that counts
abbrev pub count_one : {R : Type 0} → Item R → ℕ
count_one item = if is_counted item then 1 else 0

-- ---- what is said

-- what a side does that has said a turn: it hears the answers to what it opened, or it has said its farewell
abbrev pub waiting : List AskValue → Doing
waiting [] = Parting
waiting (ask ∷ asks) = Hearing (ask ∷ asks) []

-- what it does that still has to say some items
abbrev pub going_on : List ItemValue → List AskValue → Doing
going_on [] asks = waiting asks
going_on (item ∷ items) asks = Saying (item ∷ items) asks

-- the next item that it says, and what it does then
abbrev pub next_said : Doing → Option (ItemValue × Doing)
next_said (Saying [] asks) = None
next_said (Saying (item ∷ items) asks) = Some (item, going_on items asks)
next_said Replying = Some (Bye, Finished)
next_said Beginning = None
next_said (Hearing asks opens) = None
next_said (HearingRows asks left read opens) = None
next_said Parting = None
next_said Finished = None
next_said (Refused cause) = None

-- the item is said
abbrev pub said_at : Place → Option (ItemValue × Doing) → Option (ItemValue × Place)
said_at place None = None
said_at place (Some step) = Some (step.0, record place { sent = place.sent + count_one step.0; doing = step.1 })

-- the next item that a side says, and its place then
unfoldable pub said : Place → Option (ItemValue × Place)
said place = said_at place (next_said place.doing)

-- ---- what is heard

-- a side that has an ask answered but for some rows: where none is due, rows that were told for a fingerprint open
-- what they leave to tell
abbrev pub hearing_rows : AskValue → List AskValue → ℕ → List RowValue → List AskValue → Doing
hearing_rows (Print area print) asks zero read opens = Hearing asks (opens ++ Sent area read ∷ [])
hearing_rows (Sent area sent) asks zero read opens = Hearing asks opens
hearing_rows ask asks (suc left) read opens = HearingRows (ask ∷ asks) (suc left) read opens

-- which rows of a list are remembered when one more is read: of one that is to be answered all, else the last
abbrev pub remembered : AskValue → List RowValue → RowValue → List RowValue
remembered (Print area print) read row = read ++ row ∷ []
remembered (Sent area sent) read row = row ∷ []

-- the box of an ask
abbrev pub box_of : AskValue → Ranges
box_of (Print area print) = area
box_of (Sent area sent) = area

-- the row is above the last of those read, by subspace and path
abbrev pub is_above_last : List RowValue → RowValue → Bool
is_above_last [] row = true
is_above_last (last ∷ []) row = is_lt (inner_place_cmp last row)
is_above_last (r ∷ s ∷ read) row = is_above_last (s ∷ read) row

-- refused by a cause, where there is one
abbrev pub unless : {A : Type 0} → Option CoreRefusal → A → Result A CoreRefusal
unless None x = Ok x
unless (Some cause) x = Err cause

-- why a row is refused that is read for a box behind others
abbrev pub row_cause : Ranges → List RowValue → RowValue → Option CoreRefusal
row_cause area read row =
    if not (is_in area row) then Some EntryOutside else cause_if (not (is_above_last read row)) RowsOutOfOrder

-- a row that is read for an ask
abbrev pub row_heard : AskValue → List AskValue → ℕ → List RowValue → List AskValue → RowValue → Result Doing CoreRefusal
row_heard ask asks left read opens row =
    unless (row_cause (box_of ask) read row) (hearing_rows ask asks (left - 1) (remembered ask read row) opens)

-- a cut in two of the asked box, with the fingerprints of its parts
abbrev pub cut_heard : Ranges → List AskValue → List AskValue → CutAt → List ℕ → List ℕ → Result Doing CoreRefusal
cut_heard area asks opens at lower upper =
    unless (cause_if (not (can_cut area at)) BadCut)
    (Hearing asks (opens ++ Print (lower_part area at) lower ∷ Print (upper_part area at) upper ∷ []))

-- a cut of the asked box in parts, with the fingerprint of each
abbrev pub parts_heard : Ranges → List AskValue → List AskValue → List CutAt → List (List ℕ) → Result Doing CoreRefusal
parts_heard area asks opens points prints =
    unless (cause_if (not (can_cut_at area points)) BadCut) (Hearing asks (opens ++ part_asks (parts_at area points) prints))

-- A head that answers an ask. A cut in two may come in version 1 alone, one in parts not there.
abbrev pub head_heard : ℕ → AskValue → List AskValue → List AskValue → ItemValue → Result Doing CoreRefusal
head_heard version (Print area print) asks opens Agree = Ok (Hearing asks opens)
head_heard version (Print area print) asks opens (Split at lower upper) =
    if nat_eq version 1 then cut_heard area asks opens at lower upper else Err ItemMismatch
head_heard version (Print area print) asks opens (Parts points prints) =
    if nat_eq version 1 then Err ItemMismatch else parts_heard area asks opens points prints
head_heard version (Print area print) asks opens (Entries count) = Ok (hearing_rows (Print area print) asks count [] opens)
head_heard version (Sent area sent) asks opens (Rest count) = Ok (hearing_rows (Sent area sent) asks count [] opens)
head_heard version ask asks opens item = Err ItemMismatch

-- the end of a turn whose asks are all answered: a farewell exactly where it opened nothing
abbrev pub end_heard : ℕ → List RowValue → List AskValue → ItemValue → Result Doing CoreRefusal
end_heard version rows [] Bye = Ok Replying
end_heard version rows (ask ∷ asks) EndTurn = Ok (answering version rows (ask ∷ asks))
end_heard version rows asks item = Err ItemMismatch

-- an item of a turn that the side reads, where no row is due
abbrev pub turn_heard : ℕ → List RowValue → List AskValue → List AskValue → ItemValue → Result Doing CoreRefusal
turn_heard version rows [] opens item = end_heard version rows opens item
turn_heard version rows (ask ∷ asks) opens item = head_heard version ask asks opens item

-- the first item that the side reads that does not begin
abbrev pub first_heard : Option Ranges → ItemValue → Result Doing CoreRefusal
first_heard None Bye = Ok Replying
first_heard (Some area) (First print) = Ok (Hearing [] (Print area print ∷ []))
first_heard area item = Err ItemMismatch

-- a row where rows are due
abbrev pub due_heard : List AskValue → ℕ → List RowValue → List AskValue → ItemValue → Result Doing CoreRefusal
due_heard (ask ∷ asks) left read opens (Row row) = row_heard ask asks left read opens row
due_heard asks left read opens item = Err ItemMismatch

-- the peer's farewell where it is due
abbrev pub bye_heard : ItemValue → Result Doing CoreRefusal
bye_heard Bye = Ok Finished
bye_heard item = Err ItemMismatch

-- what a side does that has read an item, but for the number of items; or why it is refused
abbrev pub next_heard : ℕ → Option Ranges → List RowValue → Doing → ItemValue → Result Doing CoreRefusal
next_heard version area rows Beginning item = first_heard area item
next_heard version area rows (Hearing asks opens) item = turn_heard version rows asks opens item
next_heard version area rows (HearingRows asks left read opens) item = due_heard asks left read opens item
next_heard version area rows Parting item = bye_heard item
next_heard version area rows doing item = Err ItemMismatch

-- the items that a side has sent and read, with one more that it reads
abbrev pub items_with : Place → ItemValue → ℕ
items_with place item = place.sent + place.read + count_one item

-- the place of a side that reads an item which may come, or why it is refused: first by the number of items
abbrev pub heard_within : Place → ItemValue → Result Doing CoreRefusal → Result Place CoreRefusal
heard_within place item (Err ItemMismatch) = Err ItemMismatch
heard_within place item outcome =
    if nat_le (items_with place item) (most_items place.area place.rows)
    then counted_in place item outcome
    else Err (TooManyItems (items_with place item))
  where
    counted_in : Place → ItemValue → Result Doing CoreRefusal → Result Place CoreRefusal
    counted_in place item (Err cause) = Err cause
    counted_in place item (Ok doing) = Ok (record place { read = place.read + count_one item; doing = doing })

-- the place of a side that has read an item, or why it is refused
unfoldable pub heard : Place → ItemValue → Result Place CoreRefusal
heard place item = heard_within place item (next_heard place.version place.area place.rows place.doing item)

-- the place of a side that has refused: all else is as it was
abbrev pub refused : Place → CoreRefusal → Place
refused place cause = record place { doing = Refused cause }
