-- How a log goes on by one row that is offered.
use Rattle.std.proofs.Common.{◌≡◌, ℕ, ◌+◌, ◌≤◌, Bool, cond, List, [], ◌∷◌, ◌++◌, length, map, Option, Some, None, is_some, refl, sym, ap, ◌∙◌, subst, inl, arith, length-append, append_assoc}
use Rattle.std.specs.Prelude.{Err}
use Rattle.std.specs.List.{All}
use Rattle.willow_entry.proofs.Members.{contains_from_member, member_append_right}
use Rattle.std.proofs.lemmas.List.{append-nil, map-append, length-map}
use Rattle.spelling.specs.declared.ending.End.{End}
use Rattle.spelling.specs.declared.ending.End.TheVariants.{Refused, NoMemory}
use Rattle.willow_entry.specs.declared.row.LogRow.{LogRow}
use Rattle.willow_entry.specs.Row.{RowValue, live, new, is_covering, HasCovering}
use Rattle.willow_entry.proofs.Live.{live-new}
use Rattle.ns_state.specs.Log.{StateValue, values}
use Rattle.ns_state.specs.Answer.{IsGrown, IsPlaced}
use Rattle.ns_state.specs.declared.live_log.LogFull.{LogFull}
use Rattle.ns_state.specs.declared.live_log.TheConstants.{LOG_LIMIT}
use Rattle.ns_state.proofs.NewRows.{covering_of_new, new_covering, new-with_covered, new-with_uncovered}
use Rattle.peer_rows.specs.RowLogs.{HasTaken, ArePastLog, GoesOn, IsRefusal, OffersRow}
use Rattle.peer_rows.proofs.NewRows.{new_after-longer, new_after-more}

module _ {R : Type 0} (value : R → RowValue) (seen : List RowValue) (log : StateValue R) (taken : HasTaken value seen log) where
  -- what is live of a log is what is live of the rows that were offered
  pub taken_live : live (values value log.log) ≡ live seen
  taken_live = ap live taken ∙ live-new seen

  -- it is as long as there are new ones
  pub taken_many : length log.log ≡ length (new seen)
  taken_many = sym (length-map log.log (λ (l : LogRow _). value l.row)) ∙ ap length taken

-- ---- one more row

module _ {R : Type 0} (value : R → RowValue) (seen : List RowValue) (old log : StateValue R) (offered : LogRow R) (taken : HasTaken value seen old) where
  abbrev row : RowValue
  row = value offered.row

  covers_seen : HasCovering (values value old.log) row → HasCovering seen row
  covers_seen covered = covering_of_new seen row (subst (λ rows. HasCovering rows row) taken covered)

  uncovered_seen : (HasCovering (values value old.log) row → ⊥) → HasCovering seen row → ⊥
  uncovered_seen none covered = none (subst (λ rows. HasCovering rows row) (sym taken) (new_covering seen row covered))

  -- where there is room for it the rows go on by it, if none covers it
  pub placed_row : (at : Option ℕ) (stored : Bool) → stored ≡ is_some at → IsPlaced value old.log offered log.log at → HasTaken value (seen ++ row ∷ []) log × GoesOn seen row stored
  placed_row (Some at) stored tells is =
      let one = new-with_uncovered seen row (uncovered_seen is.uncovered) in (
        ap (values value) is.log_is ∙ map-append (λ (l : LogRow _). value l.row) old.log (offered ∷ []) ∙ ap (λ rows. rows ++ row ∷ []) taken ∙ sym one,
        subst (GoesOn seen row) (sym tells) one,
      )
  placed_row None stored tells is =
      let none = new-with_covered seen row (covers_seen is.0) in
      (ap (values value) is.1 ∙ taken ∙ sym none, subst (GoesOn seen row) (sym tells) (none ∙ sym (append-nil (new seen))))

  -- where it is refused it is one too many
  pub refused_row : (e : End LogFull) → IsGrown value old.log offered log.log (Err e) → OffersRow value seen row log (Err e)
  refused_row (Refused full) is = rw (new-with_uncovered seen row (uncovered_seen is.0.uncovered)) (omega (arith, taken_many value seen old taken, is.0.length_is, length-append (new seen) (row ∷ [])))
  refused_row NoMemory is = λ past. omega (arith, past, new_after-more is_covering [] seen (row ∷ []), taken_many value seen old taken, is.1)

-- how long a log is then
pub placed_many : {R : Type 0} (value : R → RowValue) (log log' : List (LogRow R)) (offered : LogRow R) (at : Option ℕ) (stored : Bool) → stored ≡ is_some at → IsPlaced value log offered log' at
    → length log' ≡ length log + (cond stored 1 0)
placed_many value log log' offered (Some at) stored tells is = rw tells (omega (arith, ap length is.log_is, length-append log (offered ∷ [])))
placed_many value log log' offered None stored tells is = rw tells (omega (arith, ap length is.1))

pub refused_full : {R : Type 0} (value : R → RowValue) (log log' : List (LogRow R)) (offered : LogRow R) (e : End LogFull) → IsGrown value log offered log' (Err e) → IsRefusal e → LOG_LIMIT ≤ length log
refused_full value log log' offered (Refused full) is refusal = omega (arith, is.0.length_is)
refused_full value log log' offered NoMemory is refusal = absurd refusal

-- with more rows behind them they are too many as well
pub past_longer : (rows more : List RowValue) → ArePastLog rows → ArePastLog (rows ++ more)
past_longer rows more past = omega (arith, past, new_after-longer is_covering [] rows more)

-- ---- several rows

-- these rows were offered behind those before, of all, and these are left
pub record HasOffered {R : Type 0} (value : R → RowValue) (before : StateValue R) (all rows left : List R) (log : StateValue R) : Type 0 where
  pub took : (seen : List RowValue) → HasTaken value seen before → HasTaken value (seen ++ map value rows) log
  pub of_namespace : log.namespace ≡ before.namespace
  pub more : length before.log ≤ length log.log
  pub few : length log.log ≤ length before.log + length rows
  pub whole : all ≡ rows ++ left

-- one of several is too many, so they are
pub past_among : {R : Type 0} (value : R → RowValue) (seen : List RowValue) (all rows left : List R) (row : R) → all ≡ rows ++ row ∷ left → ArePastLog ((seen ++ map value rows) ++ value row ∷ []) → ArePastLog (seen ++ map value all)
past_among {R} value seen all rows left row is past =
    let parts : seen ++ map value all ≡ ((seen ++ map value rows) ++ value row ∷ []) ++ map value left =
    ap (λ (l : List R). seen ++ map value l) is ∙ ap (λ (l : List RowValue). seen ++ l) (map-append value rows (row ∷ left)) ∙ sym (append_assoc seen (map value rows) (value row ∷ map value left)) ∙ sym (append_assoc (seen ++ map value rows) (value row ∷ []) (map value left)) in
    subst ArePastLog (sym parts) (past_longer ((seen ++ map value rows) ++ value row ∷ []) (map value left) past)

-- the row that comes next is of the namespace of all
pub next_here : {R : Type 0} (value : R → RowValue) (n : List ℕ) (all rows left : List R) (row : R) → all ≡ rows ++ row ∷ left → All (λ (r : RowValue). r.entry.namespace ≡ n) (map value all) → (value row).entry.namespace ≡ n
next_here value n all rows left row is here =
    let at = contains_from_member (map value rows ++ map value (row ∷ left)) (value row) (member_append_right (map value rows) (map value (row ∷ left)) (value row) (inl refl)) in
    let parts = ap (map value) is ∙ map-append value rows (row ∷ left) in
    subst (λ (r : RowValue). r.entry.namespace ≡ n) at.2 (subst (All (λ (r : RowValue). r.entry.namespace ≡ n)) parts here at.0 (value row) at.1)
