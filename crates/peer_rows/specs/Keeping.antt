-- The log of a join, and the rows that were judged for it.
use Rattle.std.specs.Prelude.{◌≡◌, ℕ, ◌≤◌, List, [], ◌++◌, map, Result, Ok, Err}
use Rattle.cap_codec.specs.Rows.{RawValue}
use Rattle.auth_entry.specs.Authorised.{verdict}
use Rattle.lms_core.specs.Use.{peer_rules}
use Rattle.ns_state.specs.declared.live_log.TheConstants.{LOG_LIMIT}
use Rattle.peer_stage.specs.declared.outcome.Stop.{Stop}
use Rattle.peer_stage.specs.declared.outcome.Stop.TheVariants as stop
use Rattle.peer_rows.specs.Logged.{IsLogOf, PassesLog}
use Rattle.peer_rows.specs.Stored.{WantsAtRow}
use Rattle.peer_rows.specs.declared.keeping.Keeping.{Keeping}

-- these rows came, in order: the log is that of the first of them, each that would be stored with room, and of the others
-- the verdicts are held
pub record HoldsJudged (namespace : List ℕ) (rows : List RawValue) (keeping : Keeping) : Type 0 where
  pub kept : List RawValue
  pub held : List RawValue
  pub parts : rows ≡ kept ++ held
  pub is_log : IsLogOf namespace kept keeping.log.kept keeping.log.counts
  pub fits : keeping.log.counts.stored ≤ LOG_LIMIT
  pub judged : keeping.judged.items ≡ map (verdict peer_rules namespace) held

-- the log is that of all these rows, each that would be stored with room, and none is held
pub record HasKept (namespace : List ℕ) (rows : List RawValue) (keeping : Keeping) : Type 0 where
  pub is_log : IsLogOf namespace rows keeping.log.kept keeping.log.counts
  pub fits : keeping.log.counts.stored ≤ LOG_LIMIT
  pub none_held : keeping.judged.items ≡ []

-- how it ends that what is held is taken into the log, where these are all rows: no full log is told as want of memory
abbrev pub KeepsAll : List ℕ → List RawValue → Keeping → Result (Unit {0}) Stop → Type 0
KeepsAll namespace rows keeping (Ok u) = HasKept namespace rows keeping
KeepsAll namespace rows keeping (Err stop.LogFull) = PassesLog namespace rows
KeepsAll namespace rows keeping (Err stop.NoMemory) = WantsAtRow namespace rows keeping.log
KeepsAll namespace rows keeping (Err e) = ⊥
