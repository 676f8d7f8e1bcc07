-- What is signed of an entry.
use Rattle.std.specs.Prelude.{ℕ, List, ◌∷◌}
use Rattle.willow_entry.specs.declared.entry.Entry.{Entry}
use Rattle.willow_entry.specs.EntryForm.{entry_spelling}

-- the letter E, and the entry
unfoldable pub entry_message : Entry → List ℕ
entry_message e = 69 ∷ entry_spelling e
