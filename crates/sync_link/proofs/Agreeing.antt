-- The area that both sides may read, piece by piece.
use Rattle.std.proofs.Common.{◌≡◌, ◌⊎◌, inl, inr, ℕ, Bool, true, false, cond, List, [], ◌++◌, map, append_assoc, Option, Result, Ok, Err, IfOk, sym, ap, ◌∙◌, subst}
use Rattle.willow_area.specs.declared.area.Area.{Area}
use Rattle.willow_entry.specs.Row.{RowValue}
use Rattle.scheme_core.specs.Rules.{Rules}
use Rattle.sync_hello.specs.declared.hello.Hello.{Hello}
use Rattle.sync_core.specs.Place.{Place}
use Rattle.session_rules.specs.Reading as reading
use Rattle.session_rules.specs.Reading.{Stand, Waits, Over, Broken, Refused, Move, move, start}
use Rattle.session_rules.specs.Greeting.{HasHello}
use Rattle.session_rules.specs.Session.{Proving, Talking}
use Rattle.session_rules.proofs.Runs.{run_append}
use Rattle.sync_link.specs.Greetings.{greeting}
use Rattle.sync_link.specs.Places.{has_finished, offers_of, places}
use Rattle.sync_link.specs.Sessions.{Party, SessionStage, SessionMessage, SessionCause, own_part, session_of}
use Rattle.sync_link.specs.Signing.{SignsFor, anyone}
use Rattle.sync_link.specs.Standing.{Side, MayBe, ReadsPiece, party_of, within}
use Rattle.sync_link.specs.Awaited.{stand_in, stand_of}
use Rattle.sync_link.specs.Progress.{Progress, KeepsArea, AgreesOn, GoesWell, HasRead, MeetsIn, TalksOn}
use Rattle.sync_link.specs.Held.{area_agreed, progress_with}
use Rattle.sync_link.specs.Taking.{Holds, waiting_side}
use Rattle.sync_link.specs.Talking.{AreOffered, BeginsExchange, BeginsOffered, area_between, box_between, first_with}
use Rattle.sync_link.specs.declared.side.awaited.Cause.TheVariants as causes
use Rattle.sync_link.specs.declared.side.awaited.Awaited.{Awaited}
use Rattle.sync_link.specs.declared.side.awaited.Awaited.TheVariants as awaited
use Rattle.sync_link.specs.declared.side.awaited.Exchange.{Exchange}
use Rattle.sync_link.specs.declared.side.participant.Participant.{Participant}
use Rattle.sync_link.proofs.Greeted.{hello_longer, waits_hello}
use Rattle.sync_link.proofs.Signed.{held_signs, signs_before, signs_behind}

-- ---- where a side talks

pub talks_well : (q : Stand SessionStage SessionCause) → TalksOn q → GoesWell q
talks_well (Waits s at held) talks = tt
talks_well Over talks = tt
talks_well (Broken at) talks = absurd talks
talks_well (Refused cause) talks = absurd talks

pub talks_done : (q : Stand SessionStage SessionCause) → reading.ending_of q ≡ reading.Done → TalksOn q
talks_done (Waits s at held) e = absurd (apart e)
  where
    apart : ◌≡◌ {A = reading.Ending SessionCause} reading.More reading.Done → ⊥
    apart e = cc
talks_done Over e = tt
talks_done (Broken at) e = absurd (apart at e)
  where
    apart : (at : ℕ) → ◌≡◌ {A = reading.Ending SessionCause} (reading.BadMessage at) reading.Done → ⊥
    apart at e = cc
talks_done (Refused cause) e = absurd (apart cause e)
  where
    apart : (cause : SessionCause) → ◌≡◌ {A = reading.Ending SessionCause} (reading.Refusal cause) reading.Done → ⊥
    apart cause e = cc

pub talks_in : (place : Place) (at : ℕ) (held : List ℕ) → TalksOn (stand_in place at held)
talks_in place at held = by_test (has_finished place.doing)
  where
    by_test : (b : Bool) → TalksOn (cond b Over (Waits (Talking (within place)) at held))
    by_test true = tt
    by_test false = tt

-- wherever the message that is due begins, and whatever is held of it
pub talks_still : {R : Type 0} (due : Awaited R) (at then_at : ℕ) (held then_held : List ℕ) → TalksOn (stand_of due at held) → TalksOn (stand_of due then_at then_held)
talks_still awaited.Hello at then_at held then_held talks = absurd talks
talks_still (awaited.Proof other) at then_at held then_held talks = absurd talks
talks_still (awaited.Items exchange) at then_at held then_held talks = talks_in exchange.core then_at then_held
talks_still (awaited.Nothing causes.Bad) at then_at held then_held talks = absurd talks
talks_still (awaited.Nothing (causes.Hello cause)) at then_at held then_held talks = absurd talks
talks_still (awaited.Nothing (causes.Core cause)) at then_at held then_held talks = absurd talks

-- ---- as an exchange begins

pub begun_offered : {R S E : Type 0} (value : R → RowValue) (participant : Participant R S) (other : Hello) (rows : List RowValue) (area : Option Area) (result : Result (Exchange R) E) (out_old out_new : List ℕ)
    → AreOffered participant.interest (box_between participant.role participant.hello other) (map value participant.snapshot) rows → area ≡ area_between participant.role participant.hello other
    → IfOk result (λ exchange. BeginsExchange (first_with participant other rows) exchange out_old out_new) → IfOk result (λ exchange. exchange.area ≡ area)
    → IfOk result (λ exchange. BeginsOffered value participant other exchange out_old out_new)
begun_offered value participant other rows area (Ok exchange) out_old out_new offered both begins kept = record { rows = rows; offered = offered; begins = begins; area = kept ∙ both }
begun_offered value participant other rows area (Err e) out_old out_new offered both begins kept = tt

-- ---- one piece behind another

pub agrees_append : (a b c : Progress) (bytes more out_a out_b : List ℕ) (rows_a rows_b : List RowValue) (signature : List ℕ) → ReadsPiece a.side b.side bytes out_a out_b rows_a rows_b → MayBe b.side.signature signature
    → KeepsArea a b bytes signature → KeepsArea b c more signature → KeepsArea a c (bytes ++ more) signature
agrees_append a b c bytes more out_a out_b rows_a rows_b signature f may first second talks = by_second (second talks)
  where
    by_first : c.area ≡ b.area → (TalksOn a.side.stand × (b.area ≡ a.area)) ⊎ MeetsIn a.side bytes signature b.area → (TalksOn a.side.stand × (c.area ≡ a.area)) ⊎ MeetsIn a.side (bytes ++ more) signature c.area
    by_first same (inl k) = inl (k.0, same ∙ k.1)
    by_first same (inr m) = inr (signs_before anyone a.side bytes more signature m.0, same ∙ m.1)

    by_second : (TalksOn b.side.stand × (c.area ≡ b.area)) ⊎ MeetsIn b.side more signature c.area → (TalksOn a.side.stand × (c.area ≡ a.area)) ⊎ MeetsIn a.side (bytes ++ more) signature c.area
    by_second (inl k) = by_first k.1 (first k.0)
    by_second (inr m) = inr (
      signs_behind anyone a.side b.side bytes more out_a out_b rows_a rows_b signature f may m.0,
      subst (λ (x : Side). c.area ≡ area_between x.role x.hello m.0.other) f.kept m.1,
    )

-- behind the bytes that are held
pub agrees_behind : {R S : Type 0} (rules : Rules) (value : R → RowValue) (old : Participant R S) (due : Awaited R) (at : ℕ) (held piece : List ℕ) (new : Progress) (signature : List ℕ) → Holds rules value old due held
    → KeepsArea (progress_with rules value old due at []) new (held ++ piece) signature → KeepsArea (progress_with rules value old due at held) new piece signature
agrees_behind rules value old due at held piece new signature holds agrees talks = by_either (agrees talks)
  where
    by_either : (TalksOn (stand_of due at []) × (new.area ≡ area_agreed due)) ⊎ MeetsIn (waiting_side rules value old due at []) (held ++ piece) signature new.area
        → (TalksOn (stand_of due at held) × (new.area ≡ area_agreed due)) ⊎ MeetsIn (waiting_side rules value old due at held) piece signature new.area
    by_either (inl k) = inl (talks_still due at at [] held k.0, k.1)
    by_either (inr m) =
        let g = held_signs anyone rules value old due at held piece holds signature m.0 in
        inr (g.0, m.1 ∙ ap (area_between old.role old.hello) (sym g.1))

-- ---- behind all that was read

module _ (old new : Progress) (bytes piece written : List ℕ) (taken : List RowValue) (signature : List ℕ) where
  abbrev p : Party
  p = party_of old.side signature

  pub agreed_on : HasRead p old.side.rows old bytes written taken → KeepsArea old new piece signature → TalksOn new.side.stand → AgreesOn p (bytes ++ piece) new.area
  agreed_on h agrees talks = by_either (agrees talks)
    where
      both : (m : SignsFor anyone old.side piece signature) → (reading.read (session_of p old.side.rows) (start (session_of p old.side.rows)) (bytes ++ m.front)).stand ≡ Waits (Proving m.other) m.at m.held
      both m =
          ap (λ (k : Move SessionStage SessionMessage RowValue SessionCause). k.stand) (run_append (move (session_of p old.side.rows)) (start (session_of p old.side.rows)) bytes m.front)
          ∙ ap (λ q. (reading.read (session_of p old.side.rows) q m.front).stand) (sym h.stands)
          ∙ m.waits

      by_either : (TalksOn old.side.stand × (new.area ≡ old.area)) ⊎ MeetsIn old.side piece signature new.area → AgreesOn p (bytes ++ piece) new.area
      by_either (inl k) =
          let a = h.agreed k.0 in
          record {
            other = a.other;
            stands = hello_longer (greeting p.rules p.namespace) places (own_part p) (offers_of p.interest old.side.rows) bytes piece a.other a.stands;
            is = k.1 ∙ a.is;
          }
      by_either (inr m) =
          let g = greeting p.rules p.namespace in
          let offers = offers_of p.interest old.side.rows in
          let met = m.0 in
          record {
            other = met.other;
            stands =
                subst (λ l. HasHello g l met.other) (append_assoc bytes met.front met.behind ∙ ap (λ l. bytes ++ l) (sym met.joined))
                (hello_longer g places (own_part p) offers (bytes ++ met.front) met.behind met.other (waits_hello g places (own_part p) offers (bytes ++ met.front) met.other met.at met.held (both met)));
            is = m.1;
          }
