-- Rows that are held, and the room that the log has for them.
use Rattle.std.proofs.Common.{◌≡◌, ℕ, ◌+◌, ◌≤◌, List, [], ◌++◌, length, map, refl, sym, ap, ◌∙◌, subst, append_assoc, append-nil, arith, length-append}
use Rattle.std.proofs.lemmas.List.{length-map}
use Rattle.willow_entry.specs.Row.{is_covering}
use Rattle.cap_codec.specs.Rows.{RawValue}
use Rattle.lms_core.specs.Use.{peer_rules}
use Rattle.auth_entry.specs.Authorised.{verdict}
use Rattle.ns_state.specs.declared.live_log.TheConstants.{LOG_LIMIT}
use Rattle.peer_rows.specs.Logged.{authorised_rows, FitsLog, IsLogOf}
use Rattle.peer_rows.specs.Keeping.{HasKept, HoldsJudged}
use Rattle.peer_rows.specs.Stored.{IsWholeLog}
use Rattle.peer_rows.specs.declared.keeping.Keeping.{Keeping}
use Rattle.peer_rows.specs.declared.log.Log.{Log}
use Rattle.peer_rows.proofs.AuthorisedRows.{authorised_parts, authorised_few}
use Rattle.peer_rows.proofs.NewRows.{new_after-more}

-- with room for all that are held, and for more behind them, none of them meets a full log
pub held_fit : (namespace : List ℕ) (rows : List RawValue) (keeping : Keeping) → HoldsJudged namespace rows keeping → (more : List RawValue) → keeping.log.counts.stored + length keeping.judged.items + length more ≤ LOG_LIMIT
    → FitsLog namespace (rows ++ more)
held_fit namespace rows keeping h more room =
    let behind = h.held ++ more in
    rw (ap (λ (l : List RawValue). l ++ more) h.parts ∙ append_assoc h.kept h.held more, authorised_parts namespace h.kept behind)
    (omega (
      arith,
      room,
      ap length h.judged,
      length-map h.held (verdict peer_rules namespace),
      length-append h.held more,
      h.is_log.counted.stored,
      new_after-more is_covering [] (authorised_rows namespace h.kept) (authorised_rows namespace behind),
      authorised_few namespace behind,
    ))

module _ (namespace : List ℕ) (rows : List RawValue) (keeping : Keeping) (h : HasKept namespace rows keeping) where
  -- of rows that are all kept none is held
  pub kept_holds : HoldsJudged namespace rows keeping
  kept_holds = record { kept = rows; held = []; parts = sym (append-nil rows); is_log = h.is_log; fits = h.fits; judged = h.none_held }

  -- behind them more are held
  pub holds_more : (more : List RawValue) (keeping' : Keeping) → keeping'.log ≡ keeping.log → keeping'.judged.items ≡ map (verdict peer_rules namespace) more → HoldsJudged namespace (rows ++ more) keeping'
  holds_more more keeping' same judged = record {
    kept = rows;
    held = more;
    parts = refl;
    is_log = subst (λ (log : Log). IsLogOf namespace rows log.kept log.counts) (sym same) h.is_log;
    fits = subst (λ (log : Log). log.counts.stored ≤ LOG_LIMIT) (sym same) h.fits;
    judged = judged;
  }

  pub kept_whole : IsWholeLog namespace rows keeping.log
  kept_whole = record { is_log = h.is_log; fits_log = omega (arith, h.fits, h.is_log.counted.stored) }

-- nothing is held behind rows of which the log is
pub whole_holds : (namespace : List ℕ) (rows : List RawValue) (keeping : Keeping) → IsWholeLog namespace rows keeping.log → keeping.judged.items ≡ [] → HoldsJudged namespace rows keeping
whole_holds namespace rows keeping whole none =
    kept_holds namespace rows keeping (record { is_log = whole.is_log; fits = omega (arith, whole.fits_log, whole.is_log.counted.stored); none_held = none })
