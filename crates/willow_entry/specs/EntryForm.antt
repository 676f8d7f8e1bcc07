-- How entries are spelled, and how they are read.
use Rattle.std.specs.Prelude.{ℕ, ◌<◌, ◌^◌, List, ◌++◌}
use Rattle.std.specs.Int.{w64, to_be_bytes}
use Rattle.spelling.specs.Front.{Front, Whole, ◌>>=◌}
use Rattle.spelling.specs.Memory.{Behind, IsWhole}
use Rattle.spelling.specs.Reading.{bytes_at, number_at}
use Rattle.spelling.specs.Spelling.{AreSoManyBytes}
use Rattle.willow_path.specs.Key.{IsKey, key_at}
use Rattle.willow_path.specs.Path.{IsPath}
use Rattle.willow_path.specs.PathSpelling.{path_spelling, path_at}
use Rattle.willow_entry.specs.declared.entry.Entry.{Entry}

-- namespace key, subspace key, path, timestamp, payload length, digest; the highest byte of a number first
unfoldable pub entry_spelling : Entry → List ℕ
entry_spelling e =
    e.namespace ++ (e.subspace ++ (path_spelling e.path ++ (to_be_bytes w64 e.timestamp ++ (to_be_bytes w64 e.length ++ e.digest.0))))

-- the fields are within their limits
pub record IsEntry (e : Entry) : Type 0 where
  pub namespace : IsKey e.namespace
  pub subspace : IsKey e.subspace
  pub path : IsPath e.path
  pub timestamp : e.timestamp < 2 ^ 64
  pub length_fits : e.length < 2 ^ 64
  pub digest : AreSoManyBytes 32 e.digest.0

-- An entry asks for memory behind its path.
abbrev pub EntryAsks : List ℕ → Type 0
EntryAsks bytes = Behind (key_at bytes) (λ namespace others. Behind (key_at others) (λ subspace rest. IsWhole (path_at rest)))

-- an entry
unfoldable pub entry_at : List ℕ → Front Entry
entry_at bytes = do
  namespace ← key_at bytes
  subspace ← key_at namespace.1
  path ← path_at subspace.1
  timestamp ← number_at w64 path.1
  length ← number_at w64 timestamp.1
  digest ← bytes_at 32 length.1
  Whole (record { namespace = namespace.0; subspace = subspace.0; path = path.0; timestamp = timestamp.0; length = length.0; digest = record { 0 = digest.0 } }) digest.1
