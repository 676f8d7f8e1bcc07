-- What contracts see of a side in memory.
use Rattle.std.specs.Prelude.{◌≡◌, ℕ, ◌+◌, ◌*◌, ◌<◌, ◌≤◌, List, [], ◌∷◌, map, length, filter_map, slice_get, option_map, Option, None, Some, Result, Err}
use Rattle.willow_entry.specs.Row.{RowValue}
use Rattle.block_store.specs.BoxKinds.{IsOfOneNamespace}
use Rattle.block_store.specs.InBox.{rows_in}
use Rattle.exchange_rules.specs.Items.{Print, Sent}
use Rattle.sync_msg.specs.Items.{ItemValue}
use Rattle.sync_msg.specs.declared.item.Item.TheVariants as items
use Rattle.sync_core.specs.SyncRules.{IsVersion}
use Rattle.sync_core.specs.Flat.{AskValue}
use Rattle.sync_core.specs.Place.{Doing, Saying, Replying, Beginning, Hearing, HearingRows, Parting, Finished, Refused, Place, most_items}
use Rattle.sync_core.specs.declared.stage.TheConstants.{SNAPSHOT_MAX}
use Rattle.sync_core.specs.Steps.{count_one, hearing_rows, due_heard}
use Rattle.sync_msg.specs.declared.refusal.CoreRefusal.{CoreRefusal}
use Rattle.sync_msg.specs.declared.refusal.CoreRefusal.TheVariants.{ItemMismatch}
use Rattle.sync_msg.specs.declared.item.Item.{Item}
use Rattle.sync_core.specs.declared.ask.Ask.{Ask}
use Rattle.sync_core.specs.declared.ask.Ask.TheVariants as ask
use Rattle.sync_core.specs.declared.ask.Owed.{Owed}
use Rattle.sync_core.specs.declared.ask.Owed.TheVariants as owed
use Rattle.sync_core.specs.declared.work.Phase.{Phase}
use Rattle.sync_core.specs.declared.work.Phase.TheVariants as phase
use Rattle.sync_core.specs.declared.work.Due.{Due}
use Rattle.sync_core.specs.declared.work.Ear.{Ear}
use Rattle.sync_core.specs.declared.work.Work.{Work}

-- the item that is said, where a row is named by its position; none where no row stands there
abbrev pub item_at : List RowValue → Item ℕ → Option ItemValue
item_at rows (items.First print) = Some (items.First print)
item_at rows items.Agree = Some items.Agree
item_at rows (items.Split at lower upper) = Some (items.Split at lower upper)
item_at rows (items.Parts points prints) = Some (items.Parts points prints)
item_at rows (items.Entries count) = Some (items.Entries count)
item_at rows (items.Rest count) = Some (items.Rest count)
item_at rows (items.Row at) = option_map items.Row (slice_get rows at)
item_at rows items.EndTurn = Some items.EndTurn
item_at rows items.Bye = Some items.Bye

-- the items that are said
abbrev pub items_at : List RowValue → List (Item ℕ) → List ItemValue
items_at rows outs = filter_map (item_at rows) outs

-- each of them is one of these items
abbrev pub Tell : List RowValue → List (Item ℕ) → List ItemValue → Type 0
Tell rows outs said = map (item_at rows) outs ≡ map Some said

-- an ask that this side has to answer
abbrev pub ask_value : Ask → AskValue
ask_value (ask.Print area print) = Print area print
ask_value (ask.Sent area rows) = Sent area rows.items

-- an ask that the peer has to answer; of a box whose rows were sent these are the own rows of it
abbrev pub owed_value : List RowValue → Owed → AskValue
owed_value rows (owed.Print area print) = Print area print
owed_value rows (owed.Rest area) = Sent area (rows_in area rows)

-- a side that hears a turn, with the rows that are due
abbrev pub hearing_of : List AskValue → List AskValue → Option Due → Doing
hearing_of asks opens None = Hearing asks opens
hearing_of asks opens (Some due) = HearingRows asks due.left due.rows.items opens

abbrev pub hearing_in : List RowValue → Ear → Doing
hearing_in rows ear = hearing_of (map (owed_value rows) ear.owed.items) (map ask_value ear.opens.items) ear.due

-- so many rows are due for the first of the asks, with those read for it
abbrev pub settled : List AskValue → List AskValue → ℕ → List RowValue → Doing
settled [] opens left read = Hearing [] opens
settled (ask ∷ asks) opens left read = hearing_rows ask asks left read opens

-- an item where rows are due
abbrev pub due_in : List AskValue → List AskValue → Option Due → ItemValue → Result Doing CoreRefusal
due_in asks opens None item = Err ItemMismatch
due_in asks opens (Some due) item = due_heard asks due.left due.rows.items opens item

-- what a side with these rows is doing
abbrev pub doing_in : List RowValue → Phase → Work → Doing
doing_in rows phase.Saying work = Saying (items_at rows work.items.items) (map (owed_value rows) work.ear.owed.items)
doing_in rows phase.Replying work = Replying
doing_in rows phase.Beginning work = Beginning
doing_in rows phase.Hearing work = hearing_in rows work.ear
doing_in rows phase.Parting work = Parting
doing_in rows phase.Finished work = Finished
doing_in rows (phase.Refused cause) work = Refused cause

abbrev pub doing_of : List RowValue → Work → Doing
doing_of rows work = doing_in rows work.phase work

-- a turn that is said has an item left
abbrev pub HasNext : Phase → ℕ → Type 0
HasNext phase.Saying left = 0 < left
HasNext phase.Replying left = Unit {0}
HasNext phase.Beginning left = Unit {0}
HasNext phase.Hearing left = Unit {0}
HasNext phase.Parting left = Unit {0}
HasNext phase.Finished left = Unit {0}
HasNext (phase.Refused cause) left = Unit {0}

-- there is an item to say
abbrev pub CanSay : Phase → ℕ → Type 0
CanSay phase.Saying left = 0 < left
CanSay phase.Replying left = Unit {0}
CanSay phase.Beginning left = ⊥
CanSay phase.Hearing left = ⊥
CanSay phase.Parting left = ⊥
CanSay phase.Finished left = ⊥
CanSay (phase.Refused cause) left = ⊥

-- a row stands at each position that is still to be named
abbrev pub AreNamed : List RowValue → List (Item ℕ) → Type 0
AreNamed rows outs = Tell rows outs (items_at rows outs)

-- that is so, and what is to be said is not all said
pub record IsReady (rows : List RowValue) (work : Work) : Type 0 where
  pub named : AreNamed rows work.items.items
  pub next : HasNext work.phase (length work.items.items)

-- how many of some items count
abbrev pub to_count : List ItemValue → ℕ
to_count [] = 0
to_count (item ∷ items) = count_one item + to_count items

-- how many counted items a side says before it reads another
abbrev pub owing : Doing → ℕ
owing (Saying items asks) = to_count items
owing Replying = 0
owing Beginning = 0
owing (Hearing asks opens) = length opens
owing (HearingRows asks left read opens) = length opens + 1
owing Parting = 0
owing Finished = 0
owing (Refused cause) = 0

-- What a side keeps to. Each item read opens four asks at most, and the first turn says one item.
pub record IsSteady (place : Place) (most : ℕ) (work : Work) : Type 0 where
  pub version : IsVersion place.version
  pub one : IsOfOneNamespace place.rows
  pub few : length place.rows ≤ SNAPSHOT_MAX
  pub limit : most ≡ most_items place.area place.rows
  pub ready : IsReady place.rows work
  pub said : place.sent + owing place.doing ≤ 4 * place.read + 1
  pub heard : place.read ≤ most
