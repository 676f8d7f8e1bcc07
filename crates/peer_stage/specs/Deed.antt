-- A command as a value: what it does, what it needs, and which counts tell its faults.
use Rattle.std.specs.Prelude.{◌≡◌, ◌≢◌, ◌≤◌, ◌⊎◌, Result, Err}
use Rattle.peer_stage.specs.World.{World, NeverFall, Unfailed}
use Rattle.peer_stage.specs.Status.{status_of}
use Rattle.peer_stage.specs.declared.outcome.Done.{Done}
use Rattle.peer_stage.specs.declared.outcome.Stop.{Stop}
use Rattle.peer_stage.specs.declared.outcome.Stop.TheVariants as stop

-- relations of the objects before a command and after it
pub record Deed : Type 1 where
  -- how it may leave the objects, by its end
  pub meets : World → World → Result Done Stop → Type 0
  -- what it needs to come to its end
  pub ready : World → World → Type 0
  -- a count of what it reads rose
  pub reads : World → World → Type 0
  -- a count of what it writes rose
  pub writes : World → World → Type 0
  -- a fault was counted that stopped nothing, and memory was wanting behind it
  pub wants_later : World → World → Type 0
  -- it is not built yet
  pub unbuilt : Type 0

-- What every command owes, by the status of its end.
pub record IsLawful (deed : Deed) : Type 0 where
  -- no count falls
  pub counts : (old new : World) (end : Result Done Stop) → deed.meets old new end → NeverFall old new
  -- no fault is passed over: but with 3, 4 and 7 every count of faults is as before
  pub unfailed : (old new : World) (end : Result Done Stop) → deed.meets old new end
      → status_of end ≢ 3 → status_of end ≢ 4 → status_of end ≢ 7 → Unfailed old new
  -- want of memory hides no fault: with 7 too, but for what it went on from
  pub want : (old new : World) (end : Result Done Stop) → deed.meets old new end → status_of end ≡ 7 → Unfailed old new ⊎ deed.wants_later old new
  -- it ends with 2 exactly where it is not built, and then touches nothing
  pub usage : (old new : World) (end : Result Done Stop) → deed.meets old new end → status_of end ≡ 2 → deed.unbuilt × (new ≡ old)
  pub no_run : (old new : World) (end : Result Done Stop) → deed.meets old new end → deed.unbuilt → status_of end ≡ 2
  -- with 3 and 4 only where a count rose of what it reads or writes
  pub read_fault : (old new : World) (end : Result Done Stop) → deed.meets old new end → status_of end ≡ 3 → deed.reads old new
  pub write_fault : (old new : World) (end : Result Done Stop) → deed.meets old new end → status_of end ≡ 4 → deed.writes old new
  -- where it is ready and no such count rose, with 0, 1 or 7
  pub ends : (old new : World) (end : Result Done Stop) → deed.meets old new end → deed.ready old new
      → (deed.reads old new → ⊥) → (deed.writes old new → ⊥) → status_of end ≢ 7 → status_of end ≤ 1

-- ---- a command that is not built yet

-- it is told as no command, and touches nothing
abbrev pub IsUnbuilt : World → World → Result Done Stop → Type 0
IsUnbuilt old new (Err stop.Usage) = new ≡ old
IsUnbuilt old new end = ⊥

abbrev pub not_built : Deed
not_built =
    record {
      meets = IsUnbuilt;
      ready = λ old new. ⊥;
      reads = λ old new. ⊥;
      writes = λ old new. ⊥;
      wants_later = λ old new. ⊥;
      unbuilt = Unit {0};
    }
