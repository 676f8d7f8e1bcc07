-- A turn in memory that grows by answers.
use Rattle.std.specs.Prelude.{◌≡◌, ℕ, List, ◌++◌, map, Some}
use Rattle.willow_area.specs.Boxes.{Ranges}
use Rattle.willow_area.specs.declared.cut.CutAt.{CutAt}
use Rattle.willow_entry.specs.Row.{RowValue}
use Rattle.exchange_rules.specs.Answer.{Reply}
use Rattle.sync_core.specs.Flat.{items_of}
use Rattle.sync_core.specs.Held.{item_at, owed_value}
use Rattle.sync_core.specs.declared.answer.Turn.{Turn}

-- an answer of the rules
abbrev pub ReplyValue : Type 0
ReplyValue = Reply RowValue Ranges (List CutAt)

-- the items of the answer are said behind those that were, as the version tells them, and what it opens is opened
pub record Adds (version : ℕ) (rows : List RowValue) (old new : Turn) (reply : ReplyValue) : Type 0 where
  pub items : map (item_at rows) new.items.items ≡ map (item_at rows) old.items.items ++ map Some (items_of version reply.item)
  pub opens : map (owed_value rows) new.opens.items ≡ map (owed_value rows) old.opens.items ++ reply.opens
