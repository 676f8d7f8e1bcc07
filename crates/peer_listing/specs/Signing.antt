-- What a writer signs of an entry.
use Rattle.std.specs.Prelude.{ℕ, List, ◌++◌}
use Rattle.scheme_core.specs.Open.{open_signature}
use Rattle.willow_entry.specs.Message.{entry_message}
use Rattle.willow_entry.specs.declared.entry.Entry.{Entry}

-- the bytes that the open signature of an entry is the digest of: the key of its subspace, and its message
abbrev pub signed_bytes : Entry → List ℕ
signed_bytes e = e.subspace ++ entry_message e

-- the open signature of an entry by the key of its subspace
abbrev pub own_signature : Entry → List ℕ
own_signature e = open_signature e.subspace (entry_message e)
