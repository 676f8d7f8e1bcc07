-- What becomes of the numbers of the rows that came with one row more that was judged.
use Rattle.std.proofs.Common.{◌≡◌, ℕ, ◌+◌, List, [], ◌∷◌, ◌++◌, length, Option, Some, None, Ok, Err, refl, sym, ap, ◌∙◌, subst, arith, append_assoc, append-nil, length-append}
use Rattle.std.proofs.lemmas.List.{map-append}
use Rattle.spelling.specs.Answers.{first_some}
use Rattle.spelling.specs.declared.ending.End.TheVariants as ends
use Rattle.scheme_core.specs.Rules.{Rules}
use Rattle.willow_entry.specs.Row.{RowValue}
use Rattle.willow_entry.specs.declared.row.LogRow.{LogRow}
use Rattle.mc_cap.specs.declared.refusal.RowRefusal.{RowRefusal}
use Rattle.mc_cap.specs.declared.refusal.RefusedRow.{RefusedRow}
use Rattle.cap_codec.specs.Rows.{RawValue, row_of}
use Rattle.auth_entry.specs.Authorised.{AuthorisedValue, row_refusal}
use Rattle.auth_entry.specs.Rows.{entry_row, authorised_rows, first_refused}
use Rattle.sync_link.proofs.AuthorisedRows.{authorised-append, authorised-push, authorised-skip, first_refused-same, first_refused-with}
use Rattle.log_rule.proofs.Prefixes.{prefix_self, prefix_trans}
use Rattle.ns_state.specs.declared.live_log.LogFull.{LogFull}
use Rattle.ns_state.specs.declared.state.Told.{Told}
use Rattle.ns_state.specs.declared.state.Told.TheVariants.{Stored, Kept}
use Rattle.ns_cell.specs.Answers.{IsOffered, offered}
use Rattle.ns_cell.specs.Passes.{PassValue, IsPass, IsLater}
use Rattle.row_intake.specs.Kept.{CoversOrIsFull, IsPart}
use Rattle.row_intake.specs.Tallies as numbers
use Rattle.row_intake.specs.Tallies.{first_with, with_refused, with_told}
use Rattle.row_intake.specs.declared.tally.Tally.{Tally}
use Rattle.row_intake.proofs.PartsOf.{part_more, part_with}
use Rattle.row_intake.proofs.Tallying.{tally_keeps, tally_none, tally_refused, told_more, missed_more, stored_by}
use Rattle.sync_link.specs.Kept.{log_rows}
use Rattle.sync_link.specs.Tallies.{HasGrown, IsTally}

-- ---- a pass later

pub later_self : {R : Type 0} (pass : PassValue R) → IsLater pass pass
later_self pass = record { cell = refl; number = refl; seen = prefix_self pass.seen; turns = prefix_self pass.turns }

pub later_trans : {R : Type 0} (one two three : PassValue R) → IsLater one two → IsLater two three → IsLater one three
later_trans one two three a b = record { cell = b.cell ∙ a.cell; number = b.number ∙ a.number; seen = prefix_trans one.seen two.seen three.seen a.seen b.seen; turns = prefix_trans one.turns two.turns three.turns a.turns b.turns }

-- the same numbers of equal rows
numbers_as : (a a' : List RowValue) (n n' : ℕ) (f f' : Option RefusedRow) (g g' : ℕ) (seen : List (LogRow AuthorisedValue)) (tally tally' : Tally) → a ≡ a' → n ≡ n' → f ≡ f' → g ≡ g' → tally ≡ tally'
    → numbers.IsTally entry_row a n f g seen tally → numbers.IsTally entry_row a' n' f' g' seen tally'
numbers_as a a' n n' f f' g g' seen tally tally' ea en ef eg et t =
    subst (λ x. numbers.IsTally entry_row a' n' f' g' seen x) et
    (subst (λ x. numbers.IsTally entry_row a' n' f' x seen tally) eg
    (subst (λ x. numbers.IsTally entry_row a' n' x g seen tally) ef
    (subst (λ x. numbers.IsTally entry_row a' x f g seen tally) en
    (subst (λ x. numbers.IsTally entry_row x n f g seen tally) ea t))))

one_more : (rows : List RawValue) (row : RawValue) → length rows + 1 ≡ length (rows ++ row ∷ [])
one_more rows row = sym (length-append rows (row ∷ []))

module _ (rules : Rules) (namespace : List ℕ) (start : PassValue AuthorisedValue) where
  abbrev all : List RawValue → List RowValue
  all rows = authorised_rows rules namespace rows

  -- the own list grew by no more, whatever rows come behind
  pub grown_on : (rows more : List RawValue) (pass pass' : PassValue AuthorisedValue) → HasGrown rules namespace start rows pass → IsLater pass pass' → pass'.own ≡ pass.own → HasGrown rules namespace start (rows ++ more) pass'
  grown_on rows more pass pass' h later own = record {
    grew = record {
      grown = h.grew.grown;
      own_is = own ∙ h.grew.own_is;
      part = subst (IsPart (log_rows h.grew.grown)) (sym (authorised-append rules namespace rows more)) (part_more (log_rows h.grew.grown) (all rows) (all more) h.grew.part);
    };
    later = later_trans start pass pass' h.later later;
  }

  -- ---- no row yet

  pub none_offered : (pass : PassValue AuthorisedValue) → IsLater start pass → pass.own ≡ start.own → IsPass entry_row pass → IsTally rules namespace start [] pass (record { rows = 0; stored = 0; kept = 0; missed = 0; refused = 0; first = None })
  unfolding first_some
  none_offered pass later own is_pass = record {
    has_grown = record { grew = record { grown = []; own_is = own ∙ sym (append-nil start.own); part = tt }; later = later };
    pass = is_pass;
    counts = tally_none entry_row pass.seen;
  }

  -- ---- what the log has

  -- all authorised rows that were offered are covered, or the log is full
  pub offered_kept : (rows : List RawValue) (pass : PassValue AuthorisedValue) (tally : Tally) → IsTally rules namespace start rows pass tally → CoversOrIsFull (log_rows pass.seen) (all rows)
  offered_kept rows pass tally t = tally_keeps entry_row (all rows) (length rows) (first_refused rules namespace rows) (length t.has_grown.grew.grown) pass.seen tally t.counts

  -- ---- one row more

  module _ (rows : List RawValue) (row : RawValue) (pass : PassValue AuthorisedValue) (tally : Tally) (t : IsTally rules namespace start rows pass tally) where
    abbrev grown : List (LogRow AuthorisedValue)
    grown = t.has_grown.grew.grown

    pub offered_refused : (refusal : RowRefusal) → row_refusal rules namespace row ≡ Some refusal → (tally' : Tally) → tally' ≡ with_refused refusal tally → IsTally rules namespace start (rows ++ row ∷ []) pass tally'
    offered_refused refusal is tally' e =
        let same : all (rows ++ row ∷ []) ≡ all rows = authorised-skip rules namespace rows row refusal is ∙ append-nil (all rows) in
        record {
          has_grown = record {
            grew = record { grown = grown; own_is = t.has_grown.grew.own_is; part = subst (IsPart (log_rows grown)) (sym same) t.has_grown.grew.part };
            later = t.has_grown.later;
          };
          pass = t.pass;
          counts =
              numbers_as (all rows) (all (rows ++ row ∷ [])) (length rows + 1) (length (rows ++ row ∷ [])) (first_with refusal (length rows) (first_refused rules namespace rows)) (first_refused rules namespace (rows ++ row ∷ [])) (length grown) (length grown) pass.seen tally' tally'
              (sym same) (one_more rows row) (sym (first_refused-with rules namespace rows row refusal is)) refl refl
              (tally_refused entry_row (all rows) (length rows) (first_refused rules namespace rows) (length grown) pass.seen tally t.counts refusal tally' e);
        }

    module _ (pass' : PassValue AuthorisedValue) (none : row_refusal rules namespace row ≡ None) (later : IsLater pass pass') (is_pass : IsPass entry_row pass') where
      abbrev entry : AuthorisedValue
      entry = record { namespace = namespace; row = row }

      pushed : all (rows ++ row ∷ []) ≡ all rows ++ row_of row ∷ []
      pushed = authorised-push rules namespace rows row none

      counts_as : (g g' : ℕ) (tally' : Tally) → g ≡ g' → numbers.IsTally entry_row (all rows ++ row_of row ∷ []) (length rows + 1) (first_refused rules namespace rows) g pass'.seen tally'
          → numbers.IsTally entry_row (all (rows ++ row ∷ [])) (length (rows ++ row ∷ [])) (first_refused rules namespace (rows ++ row ∷ [])) g' pass'.seen tally'
      counts_as g g' tally' e c =
          numbers_as (all rows ++ row_of row ∷ []) (all (rows ++ row ∷ [])) (length rows + 1) (length (rows ++ row ∷ [])) (first_refused rules namespace rows) (first_refused rules namespace (rows ++ row ∷ [])) g g' pass'.seen tally' tally'
          (sym pushed) (one_more rows row) (sym (first_refused-same rules namespace rows row none)) e refl c

      -- the row is not new in the own list
      unstored : pass'.own ≡ pass.own → HasGrown rules namespace start (rows ++ row ∷ []) pass'
      unfolding grown_on
      unstored own = record {
        grew = record {
          grown = grown;
          own_is = own ∙ t.has_grown.grew.own_is;
          part = subst (IsPart (log_rows grown)) (sym (authorised-append rules namespace rows (row ∷ []))) (part_more (log_rows grown) (all rows) (all (row ∷ [])) t.has_grown.grew.part);
        };
        later = later_trans start pass pass' t.has_grown.later later;
      }

      told_counts : (told : Told) (h : IsOffered entry_row pass entry pass' (Ok told)) → numbers.IsTally entry_row (all rows ++ row_of row ∷ []) (length rows + 1) (first_refused rules namespace rows) (length grown + stored_by told) pass'.seen (with_told (Ok told) tally)
      told_counts told h = told_more entry_row (all rows) (length rows) (first_refused rules namespace rows) (length grown) pass.seen h.log pass'.seen tally t.counts h.seen is_pass.log.few (offered pass entry) told h.answer

      told_on : (told : Told) → IsOffered entry_row pass entry pass' (Ok told) → IsTally rules namespace start (rows ++ row ∷ []) pass' (with_told (Ok told) tally)
      unfolding unstored
      told_on (Stored at) h =
          let new : LogRow AuthorisedValue = offered pass entry in
          record {
            has_grown = record {
              grew = record {
                grown = grown ++ new ∷ [];
                own_is = h.own ∙ ap (λ (l : List (LogRow AuthorisedValue)). l ++ new ∷ []) t.has_grown.grew.own_is ∙ append_assoc start.own grown (new ∷ []);
                part = subst (IsPart (log_rows (grown ++ new ∷ []))) (sym pushed) (rw (map-append (λ (l : LogRow AuthorisedValue). entry_row l.row) grown (new ∷ [])) (part_with (log_rows grown) (all rows) (row_of row) t.has_grown.grew.part));
              };
              later = later_trans start pass pass' t.has_grown.later later;
            };
            pass = is_pass;
            counts = counts_as (length grown + 1) (length (grown ++ new ∷ [])) (with_told (Ok (Stored at)) tally) (sym (length-append grown (new ∷ []))) (told_counts (Stored at) h);
          }
      told_on (Kept at) h = record {
        has_grown = unstored (h.own ∙ append-nil pass.own);
        pass = is_pass;
        counts = counts_as (length grown + 0) (length grown) (with_told (Ok (Kept at)) tally) (omega arith) (told_counts (Kept at) h);
      }

      pub offered_told : (told : Told) → IsOffered entry_row pass entry pass' (Ok told) → (tally' : Tally) → tally' ≡ with_told (Ok told) tally → IsTally rules namespace start (rows ++ row ∷ []) pass' tally'
      offered_told told h tally' e = subst (IsTally rules namespace start (rows ++ row ∷ []) pass') (sym e) (told_on told h)

      pub offered_missed : (full : LogFull) → IsOffered entry_row pass entry pass' (Err (ends.Refused full)) → (tally' : Tally) → tally' ≡ with_told (Err full) tally → IsTally rules namespace start (rows ++ row ∷ []) pass' tally'
      unfolding unstored
      offered_missed full h tally' e = subst (IsTally rules namespace start (rows ++ row ∷ []) pass') (sym e) (record {
        has_grown = unstored (h.own ∙ append-nil pass.own);
        pass = is_pass;
        counts =
            counts_as (length grown) (length grown) (with_told (Err full) tally) refl
            (missed_more entry_row (all rows) (length rows) (first_refused rules namespace rows) (length grown) pass.seen h.log pass'.seen tally t.counts h.seen is_pass.log.few (offered pass entry) full h.answer);
      })

      pub offered_unanswered : IsOffered entry_row pass entry pass' (Err ends.NoMemory) → HasGrown rules namespace start (rows ++ row ∷ []) pass'
      offered_unanswered h = unstored (h.own ∙ append-nil pass.own)
