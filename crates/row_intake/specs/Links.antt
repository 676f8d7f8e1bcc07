-- What a call does to a link that it only reads, or only writes.
use Rattle.std.specs.Prelude.{◌≡◌, ℕ, List}
use Rattle.std.specs.Io.KnownBytes.{Consumes}
use Rattle.willow_outside.specs.Facts.{LinkFacts}
use Rattle.willow_outside.specs.Told.{Extends}

-- what there is to read stays as it was, and what is counted of that
pub record ReadsNothing (before now : LinkFacts) : Type 0 where
  pub left : now.left ≡ before.left
  pub taken : now.taken ≡ before.taken
  pub faults : now.read_faults ≡ before.read_faults
  pub ends : now.ends ≡ before.ends

-- what was written stays as it was, and what is counted of that
pub record WritesNothing (before now : LinkFacts) : Type 0 where
  pub held : now.held ≡ before.held
  pub faults : now.write_faults ≡ before.write_faults

-- The link gave just these bytes, and all else of it is as it was.
pub record GaveBytes (before now : LinkFacts) (bytes : List ℕ) : Type 0 where
  pub left : Consumes before.left now.left bytes
  pub taken : Extends before.taken now.taken bytes
  pub held : now.held ≡ before.held
  pub reads : now.read_faults ≡ before.read_faults
  pub writes : now.write_faults ≡ before.write_faults
  pub ends : now.ends ≡ before.ends
