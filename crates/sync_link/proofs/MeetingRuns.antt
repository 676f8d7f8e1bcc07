-- Two sessions that each read what the other wrote.
use Rattle.std.proofs.Common.{◌≡◌, ◌⊎◌, inl, inr, ℕ, List, Err, sym, subst}
use Rattle.willow_entry.specs.Row.{RowValue}
use Rattle.session_end.specs.declared.end.SessionEnd.TheVariants.{NoMemory}
use Rattle.session_rules.specs.Rounds.{IsFront}
use Rattle.session_rules.proofs.Growing.{front_under, out_grows}
use Rattle.sync_link.specs.Sessions.{Party, session_of, out}
use Rattle.sync_link.specs.Settling.{IsOpening, Accepts}
use Rattle.sync_link.specs.Run.{IsSilent}
use Rattle.sync_link.specs.Ran.{Ran, side, opening_of, CanMeetAs, IsOther}
use Rattle.sync_link.proofs.GrantedRuns.{IsWanting, front_of, wanting_or_not}
use Rattle.sync_link.proofs.MetSides.{passes_at}
use Rattle.sync_link.proofs.Reaching.{front_trans}

module _ (p q : List ℕ → Party) (one : Ran p) (other : Ran q) (can : CanMeetAs one other) (memory : other.answer ≡ Err NoMemory → IsSilent other.did.bytes other.did.written → ⊥)
    (hears : IsFront one.did.bytes other.did.written) (heard : IsFront other.did.bytes one.did.written) where
  abbrev theirs : List RowValue
  theirs = opening_of other

  -- whatever the other wrote is a front of what is due to all that was written to it
  written_front : IsFront other.did.written (out (side other) theirs one.did.written)
  written_front =
      front_trans other.did.written (out (side other) theirs other.did.bytes) (out (side other) theirs one.did.written)
      (front_of (out (side other) theirs other.did.bytes) other.did.written other.answer other.did.wrote)
      (front_under (out (side other) theirs) (out_grows (session_of (side other) theirs)) other.did.bytes one.did.written heard)

  opens : IsOpening (side one).namespace theirs
  opens = subst (λ n. IsOpening n theirs) can.same_namespace (by_case other.did.begun (wanting_or_not other.answer))
    where
      by_case : IsOpening (side other).namespace theirs ⊎ IsSilent other.did.bytes other.did.written → IsWanting other.answer ⊎ (IsWanting other.answer → ⊥) → IsOpening (side other).namespace theirs
      by_case (inl opening) some = opening
      by_case (inr silent) (inl wanting) = absurd (memory wanting silent)
      by_case (inr silent) (inr never) = other.did.opens never

  accepts : Accepts (side one) (side other)
  accepts = record {
    hello_fits = other.did.own_fits;
    hello_passes = passes_at (side other) (side one) (side other).hello (sym can.same_rules) (sym can.same_namespace) other.did.own_passes;
    proof_fits = other.did.proof_fits;
    proved = can.accepts;
  }

  pub runs_meet : IsOther one (side other) theirs
  runs_meet = record { roles = can.roles; same_rules = can.same_rules; same_namespace = can.same_namespace; accepts = accepts; is_accepted = can.is_accepted; opens = opens; hears = front_trans one.did.bytes other.did.written (out (side other) theirs one.did.written) hears written_front }
