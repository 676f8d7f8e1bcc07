-- A session with another side is done, but for faults, a full log and want of memory.
use Rattle.std.proofs.Common.{◌≡◌, ◌∙◌, ◌⊎◌, ℕ, List, inl, inr, refl, sym, subst}
use Rattle.std.specs.Prelude.{Ok, Err}
use Rattle.willow_entry.specs.Row.{RowValue}
use Rattle.session_end.specs.declared.end.SessionEnd.{SessionEnd}
use Rattle.session_end.specs.declared.end.SessionEnd.TheVariants as ending
use Rattle.sync_link.specs.Ran.{Ran, HasOther, IsDone, IsFaultless, SignsWell}
use Rattle.sync_link.specs.Run.{Answer}
use Rattle.sync_link.specs.Sessions.{Party}
use Rattle.sync_link.specs.declared.plan.SessionReport.{SessionReport}
use Rattle.sync_link.proofs.EndedRuns.{runs_end}
use Rattle.peer_run.specs.Closing.{IsForWant}

-- no row met a full log
abbrev pub IsUnfilled : Answer → Type 0
IsUnfilled answer = (missed : ℕ) → answer ≡ Err (ending.LogFull missed) → ⊥

module _ {p : List ℕ → Party} (ran : Ran p) (q : Party) (others : List RowValue) (other : HasOther ran q others) (signs : SignsWell ran) (faultless : IsFaultless ran) where
  pub done_so : (answer : Answer) → ran.answer ≡ answer → IsUnfilled answer → (IsForWant answer → ⊥) → (report : SessionReport) × (answer ≡ Ok report)
  done_so (Ok report) is unfilled want = (report, refl)
  done_so (Err e) is unfilled want = absurd (by e is (runs_end p ran q others other signs faultless) unfilled want) where
    by : (end : SessionEnd) → ran.answer ≡ Err end → IsDone ran.answer ⊎ (ran.answer ≡ Err ending.NoMemory) → IsUnfilled (Err end) → (IsForWant (Err end) → ⊥) → ⊥
    by end at (inr memory) not_full not_wanted = not_wanted (subst IsForWant (sym memory ∙ at) tt)
    by (ending.LogFull missed) at (inl over) not_full not_wanted = not_full missed refl
    by ending.NoMemory at (inl over) not_full not_wanted = not_wanted tt
    by end at (inl over) not_full not_wanted = subst IsDone at over
