-- A session that was done, which read what another side writes: both meet.
use Rattle.std.proofs.Common.{◌≡◌, ◌⊎◌, ℕ, List, length, map, Ok, Err, refl, sym, ◌∙◌, subst}
use Rattle.willow_entry.specs.Row.{RowValue}
use Rattle.cap_codec.specs.Rows.{row_of}
use Rattle.session_end.specs.declared.end.SessionEnd.TheVariants.{LinkRead, LinkWrite, ClosedEarly, BadMessage, Hello, Core, SignFault, LogFull, NoMemory}
use Rattle.exchange_rules.specs.Items.{to_left, to_right}
use Rattle.session_rules.specs.Reading as reading
use Rattle.session_rules.specs.Rounds.{IsOver, Meet}
use Rattle.session_rules.proofs.Growing.{same_over}
use Rattle.sync_link.specs.Sessions.{Party, SessionCause, session_of, out, got, ending}
use Rattle.sync_link.specs.Settling.{IsOpening, CanMeet, AreDone, turns_between}
use Rattle.row_intake.specs.Answers.{AreAllOf, IsAllOf}
use Rattle.sync_link.specs.Run.{Answer, Ends}
use Rattle.sync_link.specs.Ran.{Ran, side, opening_of, IsDone, HearsFrom}
use Rattle.sync_link.proofs.Settled.{settled}

-- The two can meet, in either role.
abbrev pub MeetAs : Party → Party → Type 0
MeetAs p q = CanMeet p q ⊎ CanMeet q p

-- the other side of a session, which can meet this one
pub record IsMet {p : List ℕ → Party} (ran : Ran p) (q : Party) (others : List RowValue) : Type 0 where
  pub can_meet : MeetAs (side ran) q
  pub opens : IsOpening (side ran).namespace others
  pub hears : HearsFrom ran q others

done_all : {A : Type 0} (all part : List A) (answer : Answer) → IsDone answer → IsAllOf all part answer → part ≡ all
done_all all part (Ok report) done e = e
done_all all part (Err LinkRead) done e = absurd done
done_all all part (Err LinkWrite) done e = absurd done
done_all all part (Err (ClosedEarly at)) done e = absurd done
done_all all part (Err (BadMessage at)) done e = absurd done
done_all all part (Err (Hello cause)) done e = absurd done
done_all all part (Err (Core cause)) done e = absurd done
done_all all part (Err SignFault) done e = absurd done
done_all all part (Err (LogFull missed)) done e = e
done_all all part (Err NoMemory) done e = absurd done

done_came : (all part : List RowValue) (answer : Answer) → IsDone answer → AreAllOf all part answer → part ≡ all
done_came all part (Ok report) done e = e
done_came all part (Err LinkRead) done e = absurd done
done_came all part (Err LinkWrite) done e = absurd done
done_came all part (Err (ClosedEarly at)) done e = absurd done
done_came all part (Err (BadMessage at)) done e = absurd done
done_came all part (Err (Hello cause)) done e = absurd done
done_came all part (Err (Core cause)) done e = absurd done
done_came all part (Err SignFault) done e = absurd done
done_came all part (Err (LogFull missed)) done e = e
done_came all part (Err NoMemory) done e = absurd done

done_ends : (end : reading.Ending SessionCause) (n : ℕ) (answer : Answer) → IsDone answer → Ends end n answer → end ≡ reading.Done
done_ends end n (Ok report) done e = e
done_ends end n (Err LinkRead) done e = absurd done
done_ends end n (Err LinkWrite) done e = absurd done
done_ends end n (Err (ClosedEarly at)) done e = absurd done
done_ends end n (Err (BadMessage at)) done e = absurd done
done_ends end n (Err (Hello cause)) done e = absurd done
done_ends end n (Err (Core cause)) done e = absurd done
done_ends end n (Err SignFault) done e = absurd done
done_ends end n (Err (LogFull missed)) done e = e
done_ends end n (Err NoMemory) done e = absurd done

remembers : (answer : Answer) → IsDone answer → answer ≡ Err NoMemory → ⊥
remembers answer done e = absurd (subst IsDone e done)

done_over : {G : Type 0} (end : reading.Ending G) → end ≡ reading.Done → IsOver end
done_over end is more = apart (sym is ∙ more)
  where
    apart : {G : Type 0} → ◌≡◌ {A = reading.Ending G} reading.Done reading.More → ⊥
    apart e = cc

module _ (p : List ℕ → Party) (ran : Ran p) (q : Party) (others : List RowValue) (other : IsMet ran q others) where
  abbrev pub party : Party
  party = side ran

  abbrev pub rows : List RowValue
  rows = opening_of ran

  abbrev pub bytes : List ℕ
  bytes = ran.did.bytes

  -- all that the other side writes
  abbrev pub others_bytes : List ℕ
  others_bytes = out q others ran.did.written

  -- what is read of it later counts for nothing
  pub same_all : IsOver (ending party rows bytes) → (out party rows others_bytes ≡ out party rows bytes) × (got party rows others_bytes ≡ got party rows bytes) × (ending party rows others_bytes ≡ ending party rows bytes)
  same_all over =
      subst (λ all. (out party rows all ≡ out party rows bytes) × (got party rows all ≡ got party rows bytes) × (ending party rows all ≡ ending party rows bytes)) (sym other.hears.joined)
      (same_over (session_of party rows) bytes other.hears.behind over)

  -- where all that is due was written, both sides read what the other writes
  pub meets : IsOver (ending party rows bytes) → ran.did.written ≡ out party rows bytes → Meet (out party rows) (out q others) ran.did.written others_bytes
  meets over wrote = record { left_writes = wrote ∙ sym (same_all over).0; right_writes = refl }

  pub meets_back : IsOver (ending party rows bytes) → ran.did.written ≡ out party rows bytes → Meet (out q others) (out party rows) others_bytes ran.did.written
  meets_back over wrote = record { left_writes = refl; right_writes = wrote ∙ sym (same_all over).0 }

  module _ (own : IsOpening party.namespace rows) (over : IsOver (ending party rows bytes)) (wrote : ran.did.written ≡ out party rows bytes) where
    pub as_caller : CanMeet party q → AreDone party q rows others ran.did.written others_bytes
    as_caller can = settled party q can rows others ran.did.written others_bytes own other.opens (meets over wrote)

    pub as_answerer : CanMeet q party → AreDone q party others rows others_bytes ran.did.written
    as_answerer can =
        settled q party can others rows others_bytes ran.did.written
        (subst (λ n. IsOpening n others) can.same_namespace other.opens) (subst (λ n. IsOpening n rows) can.same_namespace own)
        (meets_back over wrote)

    pub got_as_caller : CanMeet party q → got party rows bytes ≡ to_left (turns_between party q rows others)
    got_as_caller can = sym (same_all over).1 ∙ (as_caller can).caller_got

    pub got_as_answerer : CanMeet q party → got party rows bytes ≡ to_right (turns_between q party others rows)
    got_as_answerer can = sym (same_all over).1 ∙ (as_answerer can).answerer_got

  -- ---- where it is done

  module _ (done : IsDone ran.answer) where
    pub done_end : ending party rows bytes ≡ reading.Done
    done_end = done_ends (ending party rows bytes) (length bytes) ran.answer done ran.did.ended

    pub is_over : IsOver (ending party rows bytes)
    is_over = done_over (ending party rows bytes) done_end

    pub all_written : ran.did.written ≡ out party rows bytes
    all_written = done_all (out party rows bytes) ran.did.written ran.answer done ran.did.wrote

    pub all_sent : map row_of ran.did.rows ≡ got party rows bytes
    all_sent = done_came (got party rows bytes) (map row_of ran.did.rows) ran.answer done ran.did.sent

    pub own_opens : IsOpening party.namespace rows
    own_opens = ran.did.opens (remembers ran.answer done)
