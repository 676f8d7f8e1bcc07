-- Objects in memory as values: what they have, which of their calls are to fail, and their counts.
use Rattle.std.specs.Prelude.{ℕ, List}
use Rattle.std.specs.declared.string.String.{String}
use Rattle.std.specs.declared.vec.Vec.{Vec}
use Rattle.std.specs.declared.alloc.Global.{Global}
use Rattle.std.specs.BTreeMap.{BTreeMap}
use Rattle.willow_outside.specs.DiskRecord.{MemoryDisk}
use Rattle.willow_outside.specs.Plan.{Plan}

-- the bytes to give, and the most of them that a call moves
pub record MemorySource : Type 0 where
  pub left : List ℕ
  pub plan : Plan
  pub most : ℕ
  pub faults : ℕ
  pub ends : ℕ

-- the bytes to give, where no call fails
pub record FaultlessSource : Type 0 where
  pub left : List ℕ
  pub ends : ℕ

-- the bytes taken, and the most of them that a call moves
pub record MemorySink : Type 0 where
  pub held : List ℕ
  pub plan : Plan
  pub most : ℕ
  pub faults : ℕ

-- the bytes to give, those given and those taken, and the most of them that a call moves
pub record MemoryLink : Type 0 where
  pub left : List ℕ
  pub taken : List ℕ
  pub held : List ℕ
  pub plan : Plan
  pub most : ℕ
  pub read_faults : ℕ
  pub write_faults : ℕ
  pub ends : ℕ

-- the bytes under each name
pub record MemoryShelf : Type 0 where
  pub contents : BTreeMap (String Global) (Vec ℕ Global)
  pub plan : Plan
  pub read_faults : ℕ
  pub write_faults : ℕ

-- the draws to come
pub record MemoryNoise : Type 0 where
  pub draws : List (List ℕ)
  pub plan : Plan
  pub faults : ℕ

-- the links to hand out, those that came back, how many are out, the places that were asked for, and how many accepts
-- were made
pub record MemoryDoor (L : Type 0) : Type 0 where
  pub to_come : List L
  pub back : List L
  pub out : ℕ
  pub asked : List (List ℕ)
  pub accepts : ℕ
  pub plan : Plan
  pub faults : ℕ

-- the bytes with which each name opens, which calls of each disk are to fail, the disks that came back, how many are
-- out, and the names that were opened
pub record MemoryBay : Type 0 where
  pub contents : BTreeMap (String Global) (Vec ℕ Global)
  pub disk_fails : List ℕ
  pub back : List MemoryDisk
  pub out : ℕ
  pub asked : List (List ℕ)
  pub plan : Plan
  pub faults : ℕ
