-- What a call that takes indices off a key file does to the shelf, and what the calls for one name do together.
use Rattle.std.specs.Prelude.{◌≡◌, ℕ, ◌+◌, ◌<◌, ◌≤◌, ◌⊎◌, List, Result, Ok, Err, Some, None}
use Rattle.std.specs.declared.vec.Vec.{Vec}
use Rattle.std.specs.declared.alloc.Global.{Global}
use Rattle.spelling.specs.declared.ending.End.{End}
use Rattle.spelling.specs.declared.ending.End.TheVariants.{Refused, NoMemory}
use Rattle.willow_outside.specs.Facts.{ShelfFacts}
use Rattle.willow_outside.specs.Names.{GetsName, name_put}
use Rattle.willow_outside.specs.Counts.{Rose, HasRisen}
use Rattle.std.specs.Option.{option_map}
use Rattle.lms_core.specs.declared.reserve.KeyRefusal.{KeyRefusal}
use Rattle.lms_core.specs.declared.reserve.KeyRefusal.TheVariants.{ShelfRead, Missing, BadKeyFile, KeySpent, ShelfWrite}
use Rattle.lms_core.specs.Accepts.{leaves}
use Rattle.lms_core.specs.Key.{Key, IsKey, key_file, raised}
use Rattle.lms_core.specs.Use.{Use, uses_from}

-- the name holds the file of a key, if that is told
pub record HoldsKey (shelf : ShelfFacts) (name : List ℕ) (k : Key) : Type 0 where
  pub key : IsKey k
  pub file : GetsName shelf.names name (Some (key_file k))

-- the shelf with the file of a key put under the name, and nothing else changed
abbrev pub PutsKey : ShelfFacts → ShelfFacts → List ℕ → Key → Type 0
PutsKey old new name k = new.names ≡ option_map (name_put name (key_file k)) old.names

-- All names hold what they held.
abbrev pub KeepsNames : ShelfFacts → ShelfFacts → Type 0
KeepsNames old new = new.names ≡ old.names

-- No name was put: all hold what they held, and no write failed.
pub record IsOnlyRead (old new : ShelfFacts) : Type 0 where
  pub names : KeepsNames old new
  pub write_faults : new.write_faults ≡ old.write_faults

-- No read and no write failed.
pub record HasNoShelfFault (old new : ShelfFacts) : Type 0 where
  pub read_faults : new.read_faults ≡ old.read_faults
  pub write_faults : new.write_faults ≡ old.write_faults

-- The signers of the next indices are handed out, in order, and the file's next index is higher by as many.
pub record HandsOut (name : List ℕ) (count : ℕ) (old new : ShelfFacts) (signers : List Use) (k : Key) : Type 0 where
  pub held : HoldsKey old name k
  pub room : k.next + count ≤ leaves k.height
  pub signers_are : signers ≡ uses_from k k.next count
  pub put : PutsKey old new name (raised count k)

-- The key has fewer indices left than were asked for.
pub record IsSpent (name : List ℕ) (count next : ℕ) (old new : ShelfFacts) (k : Key) : Type 0 where
  pub held : HoldsKey old name k
  pub short : leaves k.height < k.next + count
  pub told : next ≡ k.next
  pub kept : IsOnlyRead old new

-- The write failed, and the file is the old or the new one.
pub record FailsToPut (name : List ℕ) (count : ℕ) (old new : ShelfFacts) (k : Key) : Type 0 where
  pub held : HoldsKey old name k
  pub room : k.next + count ≤ leaves k.height
  pub rose : Rose old.write_faults new.write_faults
  pub kept_or_put : KeepsNames old new ⊎ PutsKey old new name (raised count k)

-- The name holds bytes that are no key file.
pub record HoldsNoKey (name : List ℕ) (old : ShelfFacts) (bytes : List ℕ) : Type 0 where
  pub held : GetsName old.names name (Some bytes)
  pub no_key : (k : Key) → IsKey k → bytes ≡ key_file k → ⊥

-- what a call for so many indices of the key under a name answers, and what it does to the shelf
abbrev pub Reserves : List ℕ → ℕ → ShelfFacts → ShelfFacts → Result (Vec Use Global) (End KeyRefusal) → Type 0
Reserves name count old new (Ok signers) = (k : Key) × HandsOut name count old new signers.items k
Reserves name count old new (Err (Refused ShelfRead)) = Rose old.read_faults new.read_faults × IsOnlyRead old new
Reserves name count old new (Err (Refused Missing)) = GetsName old.names name None × IsOnlyRead old new
Reserves name count old new (Err (Refused BadKeyFile)) = ((bytes : List ℕ) × HoldsNoKey name old bytes) × IsOnlyRead old new
Reserves name count old new (Err (Refused (KeySpent next))) = (k : Key) × IsSpent name count next old new k
Reserves name count old new (Err (Refused ShelfWrite)) = (k : Key) × FailsToPut name count old new k
Reserves name count old new (Err NoMemory) = KeepsNames old new

-- How the counts of faults move: only that of the call that failed, and none at want of memory, which hides no fault.
abbrev pub CountsReserve : {A : Type 0} → ShelfFacts → ShelfFacts → Result A (End KeyRefusal) → Type 0
CountsReserve old new (Ok signers) = HasNoShelfFault old new
CountsReserve old new (Err (Refused ShelfRead)) = HasRisen old.read_faults new.read_faults × (new.write_faults ≡ old.write_faults)
CountsReserve old new (Err (Refused Missing)) = HasNoShelfFault old new
CountsReserve old new (Err (Refused BadKeyFile)) = HasNoShelfFault old new
CountsReserve old new (Err (Refused (KeySpent next))) = HasNoShelfFault old new
CountsReserve old new (Err (Refused ShelfWrite)) = HasRisen old.write_faults new.write_faults × (new.read_faults ≡ old.read_faults)
CountsReserve old new (Err NoMemory) = HasNoShelfFault old new
