-- What is promised of every session, over its record: the second and the third sentence of the headline, and who is told what.
use Rattle.std.specs.Prelude.{◌≡◌, ℕ, ◌+◌, ◌≤◌, Bool, List, length, Ok, Err}
use Rattle.willow_outside.specs.Facts.{LinkFacts}
use Rattle.willow_entry.specs.Row.{RowValue, join}
use Rattle.auth_entry.specs.Authorised.{AuthorisedValue}
use Rattle.ns_cell.specs.Passes.{PassValue, FirstFound}
use Rattle.session_end.specs.declared.end.SessionEnd.TheVariants.{NoMemory}
use Rattle.sync_link.specs.Sessions.{Party, AreSameInCommon, box_with}
use Rattle.sync_link.specs.Run.{Answer, Runs}
use Rattle.sync_link.specs.Ran.{Ran, side, opening_of, store_of, LiesAbove, BringSame, HasProved, AreAlike, TellsGranted, IsOther, AreAuthorised, AreToldApart, most_counted, own_common, other_common}
use Rattle.sync_link.specs.declared.plan.SessionReport.{SessionReport}

-- `fresh`: where memory was not wanting, the opening store is what is live of the whole log as it stood in the session's first
-- turn. `keeps`: the store behind the session covers it. `above`: at Ok it lies at or above the join of the opening
-- store with the rows that the other side offers in the area that both may read, if that one's bytes were read, its rows are authorised and
-- fingerprints tell rows apart. `bound`: at Ok it said and read no more counted items than the rows allow that both offer there, if
-- that one's bytes were read. `alike`: what is written, what comes and how it ends is as in any other session that brings the
-- same, has the same rows in that area and reads the same bytes. `granted`: rows and fingerprints are told only to one that may
-- read them.
pub record SessionPromises {p : List ℕ → Party} (ran : Ran p) : Type 0 where
  pub fresh : (ran.answer ≡ Err NoMemory → ⊥) → FirstFound ran.before ran.did.log ran.after
  pub keeps : LiesAbove (store_of ran) (opening_of ran)
  pub above : (report : SessionReport) (q : Party) (others : List RowValue) → ran.answer ≡ Ok report → IsOther ran q others → AreAuthorised ran others → AreToldApart ran q others
      → LiesAbove (store_of ran) (join (opening_of ran) (other_common ran q others))
  pub bound : (report : SessionReport) (q : Party) (others : List RowValue) → ran.answer ≡ Ok report → IsOther ran q others
      → report.sent + report.read ≤ most_counted (box_with (side ran) q.hello) (length (own_common ran q)) (length (other_common ran q others))
  pub alike : (q : List ℕ → Party) (other : Ran q) → BringSame (side ran) (side other) → (HasProved ran → HasProved other → (side other).signature ≡ (side ran).signature)
      → other.did.bytes ≡ ran.did.bytes → AreSameInCommon (side ran) ran.did.bytes (opening_of ran) (opening_of other) → AreAlike ran other
  pub granted : TellsGranted ran

-- so it is of this session, whatever it did
abbrev pub KeepsSessionPromises : (List ℕ → Party) → (List ℕ → List ℕ → Bool) → PassValue AuthorisedValue → PassValue AuthorisedValue → LinkFacts → LinkFacts → ℕ → ℕ → Answer → Type 0
KeepsSessionPromises p gives before after link link' faults faults' answer =
    (did : Runs p gives before after link link' faults faults' answer)
    → SessionPromises {p = p} (record { gives = gives; before = before; after = after; link = link; link' = link'; faults = faults; faults' = faults'; answer = answer; did = did })
