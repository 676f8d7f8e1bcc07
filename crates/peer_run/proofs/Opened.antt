-- How the log of an image goes on by one row.
use Rattle.std.proofs.Common.{◌≡◌, ℕ, ◌+◌, ◌<◌, ◌^◌, true, List, [], ◌∷◌, ◌++◌, length, map, Option, Some, None, Result, refl, sym, ap, ◌∙◌, subst, append_assoc, append-nil, arith, length-append}
use Rattle.std.specs.Prelude.{Ok, Err}
use Rattle.spelling.specs.Answers.{or_else, first_some}
use Rattle.spelling.specs.declared.ending.End.{End}
use Rattle.spelling.specs.declared.ending.End.TheVariants.{Refused, NoMemory}
use Rattle.willow_entry.specs.declared.row.LogRow.{LogRow}
use Rattle.willow_entry.specs.Pruning.{new_after}
use Rattle.willow_entry.specs.Row.{new, HasCovering}
use Rattle.lms_core.specs.Use.{peer_rules}
use Rattle.cap_codec.specs.Rows.{RawValue, row_of}
use Rattle.auth_entry.specs.Authorised.{AuthorisedValue, row_refusal, verdict}
use Rattle.auth_entry.proofs.Verdicts.{AreJudged, first_judged, none_judged}
use Rattle.mc_cap.specs.declared.refusal.RefusedRow.{RefusedRow}
use Rattle.mc_cap.specs.declared.refusal.RowRefusal.{RowRefusal}
use Rattle.ns_state.specs.Answer.{IsAnswer}
use Rattle.ns_state.specs.Log.{StateValue, values}
use Rattle.ns_state.specs.declared.live_log.LogFull.{LogFull}
use Rattle.ns_state.specs.declared.state.Told.{Told}
use Rattle.ns_state.specs.declared.state.Told.TheVariants.{Stored, Kept}
use Rattle.log_rule.specs.Views.{AreOf}
use Rattle.peer_rows.specs.Images.{log_stop}
use Rattle.auth_entry.specs.Rows.{entry_row}
use Rattle.peer_rows.specs.Logged.{authorised_rows, PassesLog}
use Rattle.peer_rows.specs.RowLogs.{ArePastLog, HasTaken}
use Rattle.peer_rows.proofs.Logged.{authorised_none, authorised_some, authorised_rows-more, authorised_rows-same, first-more, first-same, number}
use Rattle.peer_rows.proofs.Offered.{PassesLog-longer}
use Rattle.peer_rows.proofs.Taken.{placed_row, refused_row}
use Rattle.peer_run.specs.Opening.{IsOpened, OpensLog, TakesRow, with_refused}
use Rattle.peer_stage.specs.declared.outcome.Stop.{Stop}
use Rattle.peer_run.specs.declared.opening.Opening.{Opening}

-- rows of one pass with one more
all_of : {R : Type 0} (pass : ℕ) (log : List (LogRow R)) (row : LogRow R) → AreOf pass log → row.pass ≡ pass → AreOf pass (log ++ row ∷ [])
all_of pass [] row all is = (is, tt)
all_of pass (l ∷ log) row all is = (all.0, all_of pass log row all.1 is)

module _ (n : List ℕ) (seen : List RawValue) (x : Opening) (r : RawValue) (is : IsOpened n seen x) where
  -- a row that is not authorised is left out
  pub opened_refused : (refusal : RowRefusal) → row_refusal peer_rules n r ≡ Some refusal → IsOpened n (seen ++ r ∷ []) (with_refused refusal x)
  opened_refused refusal e =
      let same = authorised_rows-same n seen r (authorised_some n r refusal e) in
      record {
        of_namespace = is.of_namespace;
        held = is.held ∙ ap new (sym same);
        own = is.own;
        counted = omega (arith, is.counted, length-append seen (r ∷ []));
        first_is = ap (λ (o : Option RefusedRow). or_else o (Some (number (x.rows + 1) refusal))) is.first_is ∙ sym (first-more n seen r (Some refusal) x.rows is.counted e);
      }

  -- one that is goes to the log, unless a row of it covers it
  module _ (entry : AuthorisedValue) (state : StateValue AuthorisedValue) (fine : row_refusal peer_rules n r ≡ None) (row_is : entry.row ≡ r) where
    abbrev offered : LogRow AuthorisedValue
    offered = record { pass = 0; row = entry }

    -- the state with the number of rows
    abbrev counted_with : Opening
    counted_with = record { state = state; rows = x.rows + 1; first = x.first }

    more : authorised_rows n (seen ++ r ∷ []) ≡ authorised_rows n seen ++ row_of entry.row ∷ []
    more = authorised_rows-more n seen r (authorised_none n r fine) ∙ ap (λ (s : RawValue). authorised_rows n seen ++ row_of s ∷ []) (sym row_is)

    kept_so : state.namespace ≡ x.state.namespace → AreOf 0 state.log → HasTaken entry_row (authorised_rows n seen ++ row_of entry.row ∷ []) state → IsOpened n (seen ++ r ∷ []) counted_with
    kept_so same own taken =
        record {
          of_namespace = same ∙ is.of_namespace;
          held = taken ∙ ap new (sym more);
          own = own;
          counted = omega (arith, is.counted, length-append seen (r ∷ []));
          first_is = is.first_is ∙ sym (first-same n seen r fine);
        }

    pub opened_kept : (told : Told) → state.namespace ≡ x.state.namespace → IsAnswer entry_row x.state.log offered state.log (Ok told) → HasCovering (values entry_row state.log) (row_of entry.row) → IsOpened n (seen ++ r ∷ []) counted_with
    opened_kept (Stored at) same answer covers =
        kept_so same (subst (AreOf 0) (sym answer.log_is) (all_of 0 x.state.log offered is.own refl))
        (placed_row entry_row (authorised_rows n seen) x.state state offered is.held (Some at) true refl answer).0
    opened_kept (Kept at) same answer covers =
        kept_so same (subst (AreOf 0) (sym answer.log_is) is.own)
        (placed_row entry_row (authorised_rows n seen) x.state state offered is.held None _ refl (subst (λ (log : List (LogRow AuthorisedValue)). HasCovering (values entry_row log) (row_of entry.row)) answer.log_is covers, answer.log_is)).0

    pub opened_past : (full : LogFull) → IsAnswer entry_row x.state.log offered state.log (Err (Refused full)) → PassesLog n (seen ++ r ∷ [])
    opened_past full answer = subst ArePastLog (sym more) (refused_row entry_row (authorised_rows n seen) x.state state offered is.held (Refused full) answer)

    -- memory is asked for where the log has room
    pub opened_room : IsAnswer entry_row x.state.log offered state.log (Err NoMemory) → PassesLog n (seen ++ r ∷ []) → ⊥
    opened_room answer past = refused_row entry_row (authorised_rows n seen) x.state state offered is.held NoMemory answer (subst ArePastLog more past)

-- where it is refused, one too many would be stored
pub opened_stopped : (n : List ℕ) (seen : List RawValue) (x x' : Opening) (entry : AuthorisedValue) (state : StateValue AuthorisedValue) (e : End LogFull) → row_refusal peer_rules n entry.row ≡ None → IsOpened n seen x
    → IsAnswer entry_row x.state.log (record { pass = 0; row = entry }) state.log (Err e) → TakesRow n seen entry.row x' (Err e)
opened_stopped n seen x x' entry state (Refused full) fine is answer = opened_past n seen x entry.row is entry state fine refl full answer
opened_stopped n seen x x' entry state NoMemory fine is answer = opened_room n seen x entry.row is entry state fine refl answer

-- ---- all rows

-- of all rows, whose verdicts came, some were taken, and these verdicts are left
pub record HasOpened (n : List ℕ) (all : List RawValue) (verdicts : List (Result AuthorisedValue RowRefusal)) (x : Opening) : Type 0 where
  pub seen : List RawValue
  pub left : List RawValue
  pub parts : all ≡ seen ++ left
  pub judged : verdicts ≡ map (verdict peer_rules n) left
  pub so_far : IsOpened n seen x

-- none was taken yet
pub opened_start : (n : List ℕ) (all : List RawValue) (verdicts : List (Result AuthorisedValue RowRefusal)) (state : StateValue AuthorisedValue) → verdicts ≡ map (verdict peer_rules n) all → state.namespace ≡ n → state.log ≡ []
    → HasOpened n all verdicts (record { state = state; rows = 0; first = None })
unfolding new_after first_some
opened_start n all verdicts state judged of_namespace empty = record { seen = []; left = all; parts = refl; judged = judged; so_far = start } where
  start : IsOpened n [] (record { state = state; rows = 0; first = None })
  start = record { of_namespace = of_namespace; held = ap (values entry_row) empty; own = subst (AreOf 0) (sym empty) tt; counted = refl; first_is = refl }

-- what is so by the taking of a row that was judged so, however it ends
abbrev TakesJudged : Result AuthorisedValue RowRefusal → Opening → Opening → Result (Unit {0}) (End LogFull) → Type 0
TakesJudged judged x x' result = (n : List ℕ) (seen : List RawValue) (row : RawValue) → judged ≡ verdict peer_rules n row → IsOpened n seen x → TakesRow n seen row x' result

module _ (n : List ℕ) (all : List RawValue) (judged : Result AuthorisedValue RowRefusal) (verdicts rest : List (Result AuthorisedValue RowRefusal)) (x : Opening) (h : HasOpened n all verdicts x) (next : verdicts ≡ judged ∷ rest) where
  first : AreJudged peer_rules n h.left judged rest
  first = first_judged peer_rules n h.left judged rest (sym next ∙ h.judged)

  parts_on : all ≡ (h.seen ++ first.row ∷ []) ++ first.others
  parts_on = h.parts ∙ ap (λ (l : List RawValue). h.seen ++ l) first.parts ∙ sym (append_assoc h.seen (first.row ∷ []) first.others)

  -- fewer are counted than there are
  pub opened_below : length all < 2 ^ 64 → x.rows + 1 < 2 ^ 64
  opened_below few = omega (arith, few, h.so_far.counted, ap length h.parts, ap length first.parts, length-append h.seen h.left)

  -- the next one is on a row, in the namespace of the log
  pub opened_here : (row : RawValue) × (judged ≡ verdict peer_rules x.state.namespace row)
  opened_here = (first.row, first.judged_is ∙ ap (λ (m : List ℕ). verdict peer_rules m first.row) (sym h.so_far.of_namespace))

  pub opened_on : (x' : Opening) → TakesJudged judged x x' (Ok tt) → HasOpened n all rest x'
  opened_on x' takes = record { seen = h.seen ++ first.row ∷ []; left = first.others; parts = parts_on; judged = first.rest_are; so_far = takes n h.seen first.row first.judged_is h.so_far }

  -- where one of the rows is refused they are too many
  pub opened_stops : (x' : Opening) (e : End LogFull) → TakesJudged judged x x' (Err e) → OpensLog n all (Err (log_stop e))
  opened_stops x' e takes = told e (takes n h.seen first.row first.judged_is h.so_far)
    where
      told : (d : End LogFull) → TakesRow n h.seen first.row x' (Err d) → OpensLog n all (Err (log_stop d))
      told (Refused full) past = subst (λ (rows : List RawValue). PassesLog n rows) (sym parts_on) (PassesLog-longer n (h.seen ++ first.row ∷ []) first.others past)
      told NoMemory past = tt

-- all were taken
pub opened_all : (n : List ℕ) (all : List RawValue) (verdicts : List (Result AuthorisedValue RowRefusal)) (x : Opening) → HasOpened n all verdicts x → verdicts ≡ [] → IsOpened n all x
opened_all n all verdicts x h none =
    subst (λ (rows : List RawValue). IsOpened n rows x) (sym (append-nil h.seen) ∙ ap (λ (l : List RawValue). h.seen ++ l) (sym (none_judged peer_rules n h.left verdicts none h.judged)) ∙ sym h.parts) h.so_far

-- the same rows, told as those of an image and more behind them
pub opens_as : (n is_n : List ℕ) (rows are_rows : List RawValue) (end : Result Opening Stop) → n ≡ is_n → rows ≡ are_rows → OpensLog n rows end → OpensLog is_n are_rows end
opens_as n is_n rows are_rows end named same opens = subst (λ (m : List ℕ). OpensLog m are_rows end) named (subst (λ (l : List RawValue). OpensLog n l end) same opens)
