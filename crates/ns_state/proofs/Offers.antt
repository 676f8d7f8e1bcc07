-- What a state answers to an offer is the machine's step.
use Rattle.std.proofs.Common.{◌≡◌, ℕ, Bool, true, false, cond, nat_lt, List, [], ◌∷◌, ◌++◌, length, Option, Some, None, Result, Ok, Err, OnOk, sym, ap, ◌∙◌, subst, lt-ltb, arith}
use Rattle.std.specs.List.{list_any}
use Rattle.std.proofs.lemmas.List.{map-append, length-map}
use Rattle.std.proofs.lemmas.Bool.{lt-ltb, false_from_ne_true, ltb-true}
use Rattle.std.proofs.lemmas.Simd.{map-map}
use Rattle.spelling.specs.declared.ending.End.{End}
use Rattle.spelling.specs.declared.ending.End.TheVariants.{Refused, NoMemory}
use Rattle.willow_entry.specs.declared.row.LogRow.{LogRow}
use Rattle.willow_entry.specs.LogRow.{LogValue, log_value}
use Rattle.willow_entry.specs.Row.{RowValue, is_covering, live, new, HasCovering}
use Rattle.willow_entry.proofs.Live.{live-covered}
use Rattle.willow_entry.proofs.Between.{covering_from_at}
use Rattle.ns_state.specs.declared.live_log.LogFull.{LogFull}
use Rattle.ns_state.specs.declared.state.Told.{Told}
use Rattle.ns_state.specs.declared.state.Told.TheVariants.{Stored, Kept}
use Rattle.ns_state.specs.declared.live_log.TheConstants.{LOG_LIMIT}
use Rattle.ns_state.specs.Log.{values, logged}
use Rattle.ns_state.specs.Machine.{Reply, StoredAt, Covered, Full, Offer, is_covered, reply, log_after, next}
use Rattle.ns_state.specs.Answer.{IsAnswer, IsGrown, IsOffer, IsPlaced}
use Rattle.ns_state.proofs.NewRows.{covered_test, uncovered_test, new-with_covered}
use Rattle.ns_state.proofs.Logs.{values_more, new_last, covers_last}

module _ {R : Type 0} (value : R → RowValue) (log : List (LogRow R)) (offered : LogRow R) where
  seen : is_covered (logged value log) (value offered.row) ≡ list_any (λ s. is_covering s (value offered.row)) (values value log)
  seen = ap (list_any (λ s. is_covering s (value offered.row))) (map-map (λ (l : LogValue). l.row) (log_value value) log)

  reply-covered : HasCovering (values value log) (value offered.row) → reply (logged value log) (Offer (log_value value offered)) ≡ Covered
  unfolding reply
  reply-covered h = ap (λ b. cond b Covered (cond (nat_lt (length (logged value log)) LOG_LIMIT) (StoredAt (length (logged value log))) Full)) (seen ∙ covered_test (values value log) (value offered.row) h)

  reply-uncovered : (HasCovering (values value log) (value offered.row) → ⊥) → (b : Bool) → nat_lt (length log) LOG_LIMIT ≡ b → reply (logged value log) (Offer (log_value value offered)) ≡ cond b (StoredAt (length log)) Full
  unfolding reply
  reply-uncovered none b test =
      ap (λ c. cond c Covered (cond (nat_lt (length (logged value log)) LOG_LIMIT) (StoredAt (length (logged value log))) Full)) (seen ∙ uncovered_test (values value log) (value offered.row) none)
      ∙ ap (λ n. cond (nat_lt n LOG_LIMIT) (StoredAt n) Full) (length-map log (log_value value))
      ∙ ap (λ c. cond c (StoredAt (length log)) Full) test

  after_reply : (r : Reply) → reply (logged value log) (Offer (log_value value offered)) ≡ r → next (logged value log) (Offer (log_value value offered)) ≡ log_after (logged value log) (Offer (log_value value offered)) r
  after_reply r e = ap (log_after (logged value log) (Offer (log_value value offered))) e

  pub offer_from_answer : (log' : List (LogRow R)) (result : Result Told (End LogFull)) → IsAnswer value log offered log' result → IsOffer (logged value log) (log_value value offered) (logged value log') result
  offer_from_answer log' (Ok (Stored at)) is =
      let replied : reply (logged value log) (Offer (log_value value offered)) ≡ StoredAt at = reply-uncovered is.uncovered true (lt-ltb (length log) LOG_LIMIT is.room) ∙ ap StoredAt (sym is.at_is) in
      record {
        told = replied;
        log_is = ap (logged value) is.log_is ∙ map-append (log_value value) log (offered ∷ []) ∙ sym (after_reply (StoredAt at) replied);
      }
  offer_from_answer log' (Ok (Kept at)) is =
      let replied = reply-covered (covering_from_at (values value log) at (value offered.row) is.covers) in
      record { told = replied; log_is = ap (logged value) is.log_is ∙ sym (after_reply Covered replied) }
  offer_from_answer log' (Err (Refused full)) is =
      let test : nat_lt (length log) LOG_LIMIT ≡ false = false_from_ne_true (nat_lt (length log) LOG_LIMIT) (λ t. absurd (omega (arith, ltb-true (length log) LOG_LIMIT t, is.0.length_is))) in
      let replied = reply-uncovered is.0.uncovered false test in
      record { told = replied; log_is = ap (logged value) is.1 ∙ sym (after_reply Full replied) }
  offer_from_answer log' (Err NoMemory) is = record { told = tt; log_is = tt }

-- ---- what is new and what is live then

module _ {R : Type 0} (value : R → RowValue) (log log' : List (LogRow R)) (offered : LogRow R) (fresh : new (values value log) ≡ values value log) where
  pub placed_new : (at : Option ℕ) → IsPlaced value log offered log' at → values value log' ≡ new (values value log ++ value offered.row ∷ [])
  placed_new (Some at) is = new_last value log log' offered fresh is.uncovered is.log_is
  placed_new None is = ap (values value) is.1 ∙ sym (new-with_covered (values value log) (value offered.row) is.0 ∙ fresh)

  pub grown_new : (result : Result (Option ℕ) (End LogFull)) → IsGrown value log offered log' result → OnOk result (values value log' ≡ new (values value log ++ value offered.row ∷ []))
  grown_new (Ok at) is = placed_new at is
  grown_new (Err e) is = tt

  pub answer_new : (result : Result Told (End LogFull)) → IsAnswer value log offered log' result → OnOk result (values value log' ≡ new (values value log ++ value offered.row ∷ []))
  answer_new (Ok (Stored at)) is = placed_new (Some at) is
  answer_new (Ok (Kept at)) is = placed_new None (covering_from_at (values value log) at (value offered.row) is.covers, is.log_is)
  answer_new (Err e) is = tt

  pub answer_live : (result : Result Told (End LogFull)) → IsAnswer value log offered log' result → OnOk result (live (values value log') ≡ live (values value log ++ value offered.row ∷ []))
  answer_live (Ok (Stored at)) is = ap live (ap (values value) is.log_is ∙ values_more value log offered)
  answer_live (Ok (Kept at)) is = ap (λ l. live (values value l)) is.log_is ∙ sym (live-covered (values value log) (value offered.row) (covering_from_at (values value log) at (value offered.row) is.covers))
  answer_live (Err e) is = tt

  pub answer_covers : (result : Result Told (End LogFull)) → IsAnswer value log offered log' result → OnOk result (HasCovering (values value log') (value offered.row))
  answer_covers (Ok (Stored at)) is = covers_last value log log' offered is.log_is
  answer_covers (Ok (Kept at)) is = subst (λ l. HasCovering (values value l) (value offered.row)) (sym is.log_is) (covering_from_at (values value log) at (value offered.row) is.covers)
  answer_covers (Err e) is = tt
