-- The token that bytes spell, and the row whose entry and whose body are kept.
use Rattle.std.specs.Prelude.{ℕ, List, [], drop, length, None}
use Rattle.spelling.specs.Front.{Front, Whole, Part, Wrong}
use Rattle.willow_entry.specs.EntryForm.{entry_spelling}
use Rattle.willow_entry.specs.declared.entry.Entry.{Entry}
use Rattle.mc_cap.specs.declared.capability.Mode.TheVariants.{Read}
use Rattle.cap_codec.specs.declared.token.WriteToken.{WriteToken}
use Rattle.cap_codec.specs.Reading.{token_at}
use Rattle.cap_codec.specs.Rows.{RawValue}

-- what stands for the token of bytes that spell none
abbrev pub no_token : WriteToken
no_token = record { capability = record { mode = Read; namespace = []; user = []; initial = None; chain = [] }; signature = [] }

-- the whole value in front, or the other
abbrev pub whole_or : {A : Type 0} → A → Front A → A
whole_or other (Whole x rest) = x
whole_or other Part = other
whole_or other Wrong = other

-- the token that the bytes spell
unfoldable pub token_of : List ℕ → WriteToken
token_of bytes = whole_or no_token (token_at bytes)

-- the entry, with the token that a body spells behind the entry's bytes
abbrev pub spelled_row : Entry → List ℕ → RawValue
spelled_row entry body = record { entry = entry; token = token_of (drop (length (entry_spelling entry)) body) }
