-- What the objects of the outside tell of themselves. What is told is Some; files, sockets and terminals tell None.
use Rattle.std.specs.Prelude.{ℕ, List}
use Rattle.std.specs.declared.option.Option.{Option}

-- the bytes still to come, how many reads failed, and how many met the end
pub record SourceFacts : Type 0 where
  pub left : Option (List ℕ)
  pub faults : ℕ
  pub ends : ℕ

-- all bytes taken so far, and how many writes failed
pub record SinkFacts : Type 0 where
  pub held : Option (List ℕ)
  pub faults : ℕ

-- the bytes that each name holds, if it holds some
abbrev pub Names : Type 0
Names = List ℕ → Option (List ℕ)

-- what the names hold, and how many gets and puts failed
pub record ShelfFacts : Type 0 where
  pub names : Option Names
  pub read_faults : ℕ
  pub write_faults : ℕ

-- the draws to come, and how many draws failed
pub record NoiseFacts : Type 0 where
  pub draws : Option (List (List ℕ))
  pub faults : ℕ

-- a link's two directions: the bytes still to come, all that its reads gave, all that its writes took,
-- how many reads and writes failed, and how many reads met the end
pub record LinkFacts : Type 0 where
  pub left : Option (List ℕ)
  pub taken : Option (List ℕ)
  pub held : Option (List ℕ)
  pub read_faults : ℕ
  pub write_faults : ℕ
  pub ends : ℕ

-- how many calls failed, how many accepts were made, how many links are handed out and not back, the places asked for,
-- and the links given back
pub record DoorFacts : Type 0 where
  pub faults : ℕ
  pub accepts : ℕ
  pub out : ℕ
  pub asked : Option (List (List ℕ))
  pub back : Option (List LinkFacts)

-- what a disk holds, and how many reads and writes failed
pub record DiskFacts : Type 0 where
  pub contents : Option (List ℕ)
  pub read_faults : ℕ
  pub write_faults : ℕ

-- how many calls failed, how many disks are handed out and not back, the bytes with which each name opens, the names
-- that were opened, and the disks given back
pub record BayFacts : Type 0 where
  pub faults : ℕ
  pub out : ℕ
  pub names : Option Names
  pub asked : Option (List (List ℕ))
  pub back : Option (List DiskFacts)
