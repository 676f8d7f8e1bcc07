-- What becomes of the numbers of the rows that came with one row more.
use Rattle.std.proofs.Common.{◌≡◌, inl, inr, ℕ, zero, suc, ◌+◌, ◌<◌, ◌≤◌, List, [], ◌∷◌, ◌++◌, length, Option, Some, None, Ok, Err, refl, sym, ap, ◌∙◌, subst, arith, append_assoc, append-nil, length-append}
use Rattle.std.proofs.lemmas.List.{length-map, map-append}
use Rattle.std.proofs.lemmas.List.Elements.{All-from_recursion, Contains-push}
use mathlib.Core.List.{IsPrefix}
use Rattle.spelling.specs.declared.ending.End.TheVariants as ends
use Rattle.log_rule.proofs.Prefixes.{prefix_whole}
use Rattle.willow_entry.specs.Row.{RowValue, HasCovering, IsCoveringAt}
use Rattle.willow_entry.specs.declared.row.LogRow.{LogRow}
use Rattle.willow_entry.proofs.Between.{covering_from_at}
use Rattle.mc_cap.specs.declared.refusal.RowRefusal.{RowRefusal}
use Rattle.mc_cap.specs.declared.refusal.RefusedRow.{RefusedRow}
use Rattle.ns_state.specs.Answer.{IsAnswer, IsFull}
use Rattle.ns_state.specs.Log.{values}
use Rattle.ns_state.specs.declared.live_log.LogFull.{LogFull}
use Rattle.ns_state.specs.declared.state.Told.{Told}
use Rattle.ns_state.specs.declared.state.Told.TheVariants.{Stored, Kept}
use Rattle.ns_state.specs.declared.live_log.TheConstants.{LOG_LIMIT}
use Rattle.row_intake.specs.Kept.{uncovered, IsPart, CoversOrIsFull}
use Rattle.row_intake.specs.Tallies.{first_with, with_refused, with_told, HasGrown, IsTally}
use Rattle.row_intake.specs.declared.tally.Tally.{Tally}
use Rattle.row_intake.proofs.PartsOf.{part_more, part_with}
use Rattle.row_intake.proofs.CoveredRows.{uncovered-append, covered_all, covered_one, uncovered_one, none_more, rows_behind}

module _ {R : Type 0} (value : R → RowValue) where
  -- ---- the list of one's own

  pub grown_none : (start own : List (LogRow R)) → own ≡ start → HasGrown value [] start own
  grown_none start own same = record { grown = []; own_is = same ∙ sym (append-nil start); part = tt }

  -- it grew by no more, whatever rows come behind
  pub grown_more : (rows more : List RowValue) (start own own' : List (LogRow R)) → HasGrown value rows start own → own' ≡ own → HasGrown value (rows ++ more) start own'
  grown_more rows more start own own' grew same = record {
    grown = grew.grown;
    own_is = same ∙ grew.own_is;
    part = part_more (values value grew.grown) rows more grew.part;
  }

  -- it grew by the row that came last
  pub grown_stored : (rows : List RowValue) (start own own' : List (LogRow R)) (new : LogRow R) → HasGrown value rows start own → own' ≡ own ++ new ∷ [] → HasGrown value (rows ++ value new.row ∷ []) start own'
  grown_stored rows start own own' new grew stored = record {
    grown = grew.grown ++ new ∷ [];
    own_is = stored ∙ ap (λ (l : List (LogRow R)). l ++ new ∷ []) grew.own_is ∙ append_assoc start grew.grown (new ∷ []);
    part = rw (map-append (λ (l : LogRow R). value l.row) grew.grown (new ∷ [])) (part_with (values value grew.grown) rows (value new.row) grew.part);
  }

  -- ---- the numbers

  -- no row came yet
  pub tally_none : (seen : List (LogRow R)) → IsTally value [] 0 None 0 seen (record { rows = 0; stored = 0; kept = 0; missed = 0; refused = 0; first = None })
  tally_none seen = record {
    all = refl;
    stored = refl;
    kept = refl;
    refused = refl;
    first_is = refl;
    missed = refl;
    full = λ some. absurd (omega arith);
  }

  module _ (rows : List RowValue) (count : ℕ) (first : Option RefusedRow) (grown : ℕ) (seen : List (LogRow R)) (tally : Tally) (t : IsTally value rows count first grown seen tally) where
    -- all authorised rows that were offered are covered, or the log is full
    pub tally_keeps : CoversOrIsFull (values value seen) rows
    tally_keeps = by_number tally.missed refl
      where
        by_number : (n : ℕ) → tally.missed ≡ n → CoversOrIsFull (values value seen) rows
        by_number zero e = inl (All-from_recursion (HasCovering (values value seen)) rows (covered_all (values value seen) rows (sym t.missed ∙ e)))
        by_number (suc n) e = inr (length-map seen (λ (l : LogRow R). value l.row) ∙ t.full (omega arith))

    -- one row more that is not authorised
    pub tally_refused : (refusal : RowRefusal) (tally' : Tally) → tally' ≡ with_refused refusal tally → IsTally value rows (count + 1) (first_with refusal count first) grown seen tally'
    tally_refused refusal tally' e = subst (λ x. IsTally value rows (count + 1) (first_with refusal count first) grown seen x) (sym e) (record {
      all = ap (λ n. n + 1) t.all;
      stored = t.stored;
      kept = t.kept;
      refused = omega (arith, t.refused);
      first_is = ap (λ (n : ℕ). first_with refusal n tally.first) t.all ∙ ap (first_with refusal count) t.first_is;
      missed = t.missed;
      full = t.full;
    })

    -- ---- the log is as long as before or longer

    module _ (seen' : List (LogRow R)) (longer : IsPrefix seen seen') (few : length seen' ≤ LOG_LIMIT) where
      -- a full log stays as it is
      full_stays : 0 < tally.missed → seen ≡ seen'
      full_stays some = prefix_whole seen seen' longer (omega (arith, t.full some, few))

      full_on : 0 < tally.missed → length seen' ≡ LOG_LIMIT
      full_on some = ap length (sym (full_stays some)) ∙ t.full some

      uncovered_on : uncovered (values value seen') rows ≡ tally.missed
      uncovered_on = by_number tally.missed refl
        where
          by_number : (n : ℕ) → tally.missed ≡ n → uncovered (values value seen') rows ≡ tally.missed
          by_number zero is = rw (rows_behind value seen seen' longer) (none_more (values value seen) (values value longer.0) rows (sym t.missed ∙ is)) ∙ sym is
          by_number (suc n) is = ap (λ (l : List (LogRow R)). uncovered (values value l) rows) (sym (full_stays (omega arith))) ∙ sym t.missed

      module _ (row : RowValue) where
        uncovered_push : uncovered (values value seen') (rows ++ row ∷ []) ≡ tally.missed + uncovered (values value seen') (row ∷ [])
        uncovered_push = uncovered-append (values value seen') rows (row ∷ []) ∙ ap (λ (n : ℕ). n + uncovered (values value seen') (row ∷ [])) uncovered_on

        one_more : length (rows ++ row ∷ []) ≡ length rows + 1
        one_more = length-append rows (row ∷ [])

        -- one more that the log did not cover before
        pub tally_stored : (at : ℕ) → HasCovering (values value seen') row → IsTally value (rows ++ row ∷ []) (count + 1) first (grown + 1) seen' (with_told (Ok (Stored at)) tally)
        tally_stored at covers = record {
          all = ap (λ n. n + 1) t.all;
          stored = ap (λ n. n + 1) t.stored;
          kept = omega (arith, t.kept, one_more);
          refused = omega (arith, t.refused, one_more);
          first_is = t.first_is;
          missed = omega (arith, uncovered_push, covered_one (values value seen') row covers);
          full = full_on;
        }

        -- one more that it covered
        pub tally_kept : (at : ℕ) → HasCovering (values value seen') row → IsTally value (rows ++ row ∷ []) (count + 1) first grown seen' (with_told (Ok (Kept at)) tally)
        tally_kept at covers = record {
          all = ap (λ n. n + 1) t.all;
          stored = t.stored;
          kept = omega (arith, t.kept, one_more);
          refused = omega (arith, t.refused, one_more);
          first_is = t.first_is;
          missed = omega (arith, uncovered_push, covered_one (values value seen') row covers);
          full = full_on;
        }

        -- one more for which it had no room
        pub tally_missed : (full : LogFull) → (HasCovering (values value seen') row → ⊥) → length seen' ≡ LOG_LIMIT → IsTally value (rows ++ row ∷ []) (count + 1) first grown seen' (with_told (Err full) tally)
        tally_missed full none is = record {
          all = ap (λ n. n + 1) t.all;
          stored = t.stored;
          kept = omega (arith, t.kept, one_more);
          refused = omega (arith, t.refused, one_more);
          first_is = t.first_is;
          missed = omega (arith, uncovered_push, uncovered_one (values value seen') row none);
          full = λ some. is;
        }

-- ---- by what a log answers

-- the last row of a log is covered by it
last_covers : {R : Type 0} (value : R → RowValue) (log log' : List (LogRow R)) (row : LogRow R) → log' ≡ log ++ row ∷ [] → HasCovering (values value log') (value row.row)
last_covers {R} value log log' row e =
    rw (e, map-append (λ (l : LogRow R). value l.row) log (row ∷ []))
    (value row.row, Contains-push (values value log) (value row.row), inl refl)

-- how many rows a list of one's own grew by
abbrev pub stored_by : Told → ℕ
stored_by (Stored at) = 1
stored_by (Kept at) = 0

module _ {R : Type 0} (value : R → RowValue) (rows : List RowValue) (count : ℕ) (first : Option RefusedRow) (grown : ℕ) (seen log seen' : List (LogRow R)) (tally : Tally) (t : IsTally value rows count first grown seen tally)
    (longer : IsPrefix seen log) (few : length seen' ≤ LOG_LIMIT) (offered : LogRow R) where
  longer_by : (back : List (LogRow R)) → seen' ≡ log ++ back → IsPrefix seen seen'
  longer_by back e = (longer.0 ++ back, sym (append_assoc seen longer.0 back) ∙ ap (λ (l : List (LogRow R)). l ++ back) longer.1 ∙ sym e)

  same_log : seen' ≡ log → IsPrefix seen seen'
  same_log e = longer_by [] (e ∙ sym (append-nil log))

  pub told_more : (told : Told) → IsAnswer value log offered seen' (Ok told) → IsTally value (rows ++ value offered.row ∷ []) (count + 1) first (grown + stored_by told) seen' (with_told (Ok told) tally)
  told_more (Stored at) a = tally_stored value rows count first grown seen tally t seen' (longer_by (offered ∷ []) a.log_is) few (value offered.row) at (last_covers value log seen' offered a.log_is)
  told_more (Kept at) a =
      subst (λ n. IsTally value (rows ++ value offered.row ∷ []) (count + 1) first n seen' (with_told (Ok (Kept at)) tally)) (omega arith)
      (tally_kept value rows count first grown seen tally t seen' (same_log a.log_is) few (value offered.row) at
      (covering_from_at (values value seen') at (value offered.row) (subst (λ (l : List (LogRow R)). IsCoveringAt (values value l) at (value offered.row)) (sym a.log_is) a.covers)))

  pub missed_more : (full : LogFull) → IsAnswer value log offered seen' (Err (ends.Refused full)) → IsTally value (rows ++ value offered.row ∷ []) (count + 1) first grown seen' (with_told (Err full) tally)
  missed_more full a =
      let f = subst (λ (l : List (LogRow R)). IsFull value l offered.row full.front) (sym a.1) a.0 in
      tally_missed value rows count first grown seen tally t seen' (same_log a.1) few (value offered.row) full f.uncovered f.length_is
