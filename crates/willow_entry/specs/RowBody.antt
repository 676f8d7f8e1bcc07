-- The bodies of rows: an entry, and behind it a token and nothing else.
use Rattle.std.specs.Prelude.{◌≡◌, List, ℕ, ◌++◌, Option, Some, None}
use Rattle.willow_entry.specs.EntryForm.{entry_spelling, IsEntry}
use Rattle.spelling.specs.Form.{AreBytes}
use Rattle.willow_entry.specs.Row.{RowValue}

-- the bytes of a row in a frame
unfoldable pub row_body : RowValue → List ℕ
row_body r = entry_spelling r.entry ++ r.token

-- the row that the body spells, or that none of the grammar is spelled so
abbrev pub ReadsBody : (RowValue → Type 0) → List ℕ → Option RowValue → Type 0
ReadsBody fits body (Some r) = fits r × (body ≡ row_body r)
ReadsBody fits body None = (r : RowValue) → fits r → body ≡ row_body r → ⊥

-- an entry within its limits and any bytes as token
abbrev pub IsBareRow : RowValue → Type 0
IsBareRow r = IsEntry r.entry × AreBytes r.token
