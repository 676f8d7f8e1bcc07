-- What a feed that is written does to its link.
use Rattle.std.specs.Prelude.{◌≡◌, ℕ, List, ◌++◌, length, Result, Ok, Err}
use Rattle.willow_outside.specs.Counts.{CountsCause, HasRisen}
use Rattle.willow_outside.specs.declared.fault.Fault.{Fault}
use Rattle.willow_outside.specs.Facts.{LinkFacts}
use Rattle.willow_outside.specs.Told.{Extends}
use Rattle.willow_entry.specs.Row.{RowValue}
use Rattle.session_rules.specs.Rounds.{IsFront}
use Rattle.session_end.specs.declared.end.SessionEnd.{SessionEnd}
use Rattle.session_end.specs.declared.end.SessionEnd.TheVariants.{LinkWrite, NoMemory}
use Rattle.row_intake.specs.Links.{ReadsNothing}
use Rattle.sync_follow.specs.Feeds.{feed_spelling}
use Rattle.sync_follow.specs.declared.feeding.Fed.{Fed}

-- a front of these bytes was written
abbrev pub HoldsFront : LinkFacts → LinkFacts → List ℕ → Type 0
HoldsFront old new bytes = (written : List ℕ) × IsFront written bytes × Extends old.held new.held written

-- The feed of these rows was written whole, and these are its numbers: how many rows it has, and how long the log was then.
pub record IsFed (rows : List RowValue) (seen : ℕ) (old new : LinkFacts) (fed : Fed) : Type 0 where
  pub held : Extends old.held new.held (feed_spelling rows)
  pub faults : new.write_faults ≡ old.write_faults
  pub count : fed.count ≡ length rows
  pub to : fed.to ≡ seen

-- It was; or a write failed, by the count, or memory was wanting, behind a front of it. No other end is answered.
abbrev pub WritesFeed : List RowValue → ℕ → LinkFacts → LinkFacts → Result Fed SessionEnd → Type 0
WritesFeed rows seen old new (Ok fed) = IsFed rows seen old new fed
WritesFeed rows seen old new (Err LinkWrite) = HoldsFront old new (feed_spelling rows) × HasRisen old.write_faults new.write_faults
WritesFeed rows seen old new (Err NoMemory) = HoldsFront old new (feed_spelling rows) × (new.write_faults ≡ old.write_faults)
WritesFeed rows seen old new (Err e) = ⊥

-- ---- a piece at a time

-- Of some bytes those before these were written, and nothing failed.
pub record HasWritten (old new : LinkFacts) (bytes left : List ℕ) : Type 0 where
  pub written : List ℕ
  pub joined : bytes ≡ written ++ left
  pub held : Extends old.held new.held written
  pub faults : new.write_faults ≡ old.write_faults
  pub unread : ReadsNothing old new

-- some bytes were written but for these; or a write failed or memory was wanting, behind a front of them
abbrev pub WritesOn : {A : Type 0} → List ℕ → List ℕ → LinkFacts → LinkFacts → Result A Fault → Type 0
WritesOn bytes left old new (Ok x) = HasWritten old new bytes left
WritesOn bytes left old new (Err fault) = HoldsFront old new bytes × CountsCause old.write_faults new.write_faults fault

-- the feed of these rows was written whole; or a write failed or memory was wanting, behind a front of it
abbrev pub WritesRows : List RowValue → LinkFacts → LinkFacts → Result ℕ Fault → Type 0
WritesRows rows old new (Ok count) = Extends old.held new.held (feed_spelling rows) × (new.write_faults ≡ old.write_faults) × (count ≡ length rows)
WritesRows rows old new (Err fault) = HoldsFront old new (feed_spelling rows) × CountsCause old.write_faults new.write_faults fault
