-- All that a side says, whatever it reads.
use Rattle.std.specs.Prelude.{List, [], ◌∷◌, ◌++◌, filter_map, Result, Ok, Err}
use Rattle.willow_entry.specs.Row.{RowValue}
use Rattle.sync_msg.specs.Items.{ItemValue}
use Rattle.sync_msg.specs.declared.refusal.CoreRefusal.{CoreRefusal}
use Rattle.sync_core.specs.Flat.{row_in}
use Rattle.sync_core.specs.Place.{Place}
use Rattle.sync_core.specs.Steps.{heard}
use Rattle.sync_core.specs.Runs.{says_all}

-- what is said behind an item, where it is not refused
abbrev pub said_behind : (Place → List ItemValue) → Result Place CoreRefusal → List ItemValue
said_behind behind (Ok next) = behind next
said_behind behind (Err cause) = []

-- what a side says that reads these items one after the other, each once it has said all that it is to say before; behind one
-- that is refused it says nothing more
unfoldable pub talks : Place → List ItemValue → List ItemValue
talks place [] = (says_all place).0
talks place (item ∷ items) = (says_all place).0 ++ said_behind (λ next. talks next items) (heard (says_all place).1 item)

-- the rows that stand in it, in order
abbrev pub rows_said : Place → List ItemValue → List RowValue
rows_said place items = filter_map row_in (talks place items)
