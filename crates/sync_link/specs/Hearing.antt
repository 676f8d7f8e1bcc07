-- What comes of an item that a side of an exchange reads, as bytes and rows.
use Rattle.std.specs.Prelude.{◌≡◌, ℕ, zero, suc, List, [], ◌∷◌, ◌++◌, Option, None, Some, Ok, Err, option_to_list}
use Rattle.willow_entry.specs.Row.{RowValue}
use Rattle.sync_msg.specs.Items.{ItemValue}
use Rattle.sync_msg.specs.declared.item.Item.{Item}
use Rattle.sync_msg.specs.declared.item.Item.TheVariants.{First, Agree, Split, Parts, Entries, Rest, Row, EndTurn, Bye}
use Rattle.sync_msg.specs.declared.refusal.CoreRefusal.{CoreRefusal}
use Rattle.sync_core.specs.Flat.{row_in}
use Rattle.sync_core.specs.Place.{Place}
use Rattle.sync_core.specs.Steps.{heard}
use Rattle.sync_link.specs.Speaking.{SaysAll}

-- The item is heard: its row comes, if it is one, and the side says what is due then.
pub record HearsItem (old new : Place) (item : ItemValue) (out_old out_new : List ℕ) (rows_old rows_new : List RowValue) : Type 0 where
  pub next : Place
  pub heard_to : heard old item ≡ Ok next
  pub says : SaysAll next new out_old out_new
  pub takes : rows_new ≡ rows_old ++ option_to_list (row_in item)

-- The item is refused: nothing is said, and no row comes.
pub record RefusesItem (old : Place) (item : ItemValue) (cause : CoreRefusal) (out_old out_new : List ℕ) (rows_old rows_new : List RowValue) : Type 0 where
  pub refused : heard old item ≡ Err cause
  pub silent : out_new ≡ out_old
  pub none : rows_new ≡ rows_old

abbrev pub TakesIn : Place → Place → ItemValue → Option CoreRefusal → List ℕ → List ℕ → List RowValue → List RowValue → Type 0
TakesIn old new item None out_old out_new rows_old rows_new = HearsItem old new item out_old out_new rows_old rows_new
TakesIn old new item (Some cause) out_old out_new rows_old rows_new = RefusesItem old item cause out_old out_new rows_old rows_new

-- ---- the lists that are announced

-- how many rows follow the item as its list
abbrev pub rows_announced : {R : Type 0} → Item R → ℕ
rows_announced (First print) = 0
rows_announced Agree = 0
rows_announced (Split at lower upper) = 0
rows_announced (Parts points prints) = 0
rows_announced (Entries count) = count
rows_announced (Rest count) = count
rows_announced (Row row) = 0
rows_announced EndTurn = 0
rows_announced Bye = 0

-- the numbers of rows of the lists, with one list more, unless it has none
abbrev pub with_list : List ℕ → ℕ → List ℕ
with_list counts zero = counts
with_list counts (suc n) = counts ++ suc n ∷ []

-- the same by an item, which counts for nothing where it is refused
abbrev pub counts_announced : {R : Type 0} → List ℕ → Item R → Option CoreRefusal → List ℕ
counts_announced counts item None = with_list counts (rows_announced item)
counts_announced counts item (Some cause) = counts
