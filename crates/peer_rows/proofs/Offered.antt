-- A log to which nothing was offered, and how a log goes on by several rows.
use Rattle.std.proofs.Common.{◌≡◌, ℕ, ◌+◌, ◌-◌, ◌^◌, ◌<◌, ◌≤◌, inr, List, [], ◌∷◌, ◌++◌, map, length, None, Result, refl, sym, ap, subst, ◌∙◌, append_assoc, arith, length-append}
use Rattle.std.proofs.lemmas.List.{append-nil}
use Rattle.spelling.specs.Answers.{first_some}
use Rattle.willow_entry.specs.Pruning.{new_after}
use Rattle.lms_core.specs.Use.{peer_rules}
use Rattle.cap_codec.specs.Rows.{RawValue}
use Rattle.mc_cap.specs.declared.refusal.RowRefusal.{RowRefusal}
use Rattle.auth_entry.specs.Authorised.{AuthorisedValue, verdict}
use Rattle.auth_entry.proofs.Verdicts.{AreJudged, first_judged, none_judged}
use Rattle.peer_stage.specs.declared.outcome.JoinCounts.{JoinCounts}
use Rattle.ns_state.specs.Log.{StateValue, values}
use Rattle.ns_state.specs.declared.live_log.LogFull.{LogFull}
use Rattle.ns_state.specs.declared.live_log.TheConstants.{LOG_LIMIT}
use Rattle.auth_entry.specs.Rows.{entry_row}
use Rattle.peer_rows.specs.Logged.{authorised_rows, AreCounts, IsLogOf, Offers, PassesLog}
use Rattle.peer_rows.specs.Stored.{OffersAll, TakesAll}
use Rattle.std.specs.Prelude.{Ok, Err}
use Rattle.std.specs.Result.{IsErrAnd}
use Rattle.std.proofs.lemmas.Result.{err_from_is_err_and}
use Rattle.spelling.specs.declared.ending.End.{End}
use Rattle.spelling.specs.declared.ending.End.TheVariants.{Refused, NoMemory}
use Rattle.peer_rows.specs.declared.log.Log.{Log}
use Rattle.peer_rows.proofs.AuthorisedRows.{authorised_parts}
use Rattle.peer_rows.proofs.Taken.{past_longer}

-- nothing is counted yet
abbrev pub no_counts : JoinCounts
no_counts = record { rows = 0; stored = 0; kept = 0; refused = 0; first = None }

counts_none : (namespace : List ℕ) → AreCounts namespace [] no_counts
unfolding new_after first_some
counts_none namespace = record { all = refl; stored = refl; kept = refl; refused = refl; first = refl }

pub IsLogOf-start : (namespace : List ℕ) (log : Log) → log.kept ≡ record { namespace = namespace; log = [] } → log.counts ≡ no_counts → IsLogOf namespace [] log.kept log.counts
unfolding new_after
IsLogOf-start namespace log empty none = record {
  of_namespace = ap (λ (kept : StateValue AuthorisedValue). kept.namespace) empty;
  taken = ap (λ (kept : StateValue AuthorisedValue). values entry_row kept.log) empty;
  counted = subst (λ (counts : JoinCounts). AreCounts namespace [] counts) (sym none) (counts_none namespace);
}

-- ---- more rows

-- a full log is full however many rows come behind
pub PassesLog-longer : (n : List ℕ) (rows more : List RawValue) → PassesLog n rows → PassesLog n (rows ++ more)
PassesLog-longer n rows more passes = rw (authorised_parts n rows more) (past_longer (authorised_rows n rows) (authorised_rows n more) passes)

-- of these rows, whose verdicts came, some were taken to whatever log of rows there was before, and these verdicts are left
pub record HasOffered (namespace : List ℕ) (rows : List RawValue) (before : Log) (verdicts : List (Result AuthorisedValue RowRefusal)) (log : Log) : Type 0 where
  pub taken : List RawValue
  pub left : List RawValue
  pub parts : rows ≡ taken ++ left
  pub judged : verdicts ≡ map (verdict peer_rules namespace) left
  pub is_log : (seen : List RawValue) → IsLogOf namespace seen before.kept before.counts → IsLogOf namespace (seen ++ taken) log.kept log.counts
  pub fits : log.counts.stored ≤ LOG_LIMIT

pub none_offered : (namespace : List ℕ) (rows : List RawValue) (before : Log) (verdicts : List (Result AuthorisedValue RowRefusal)) → verdicts ≡ map (verdict peer_rules namespace) rows → before.counts.stored ≤ LOG_LIMIT
    → HasOffered namespace rows before verdicts before
none_offered namespace rows before verdicts judged fits = record {
  taken = [];
  left = rows;
  parts = refl;
  judged = judged;
  is_log = λ seen is. subst (λ (l : List RawValue). IsLogOf namespace l before.kept before.counts) (sym (append-nil seen)) is;
  fits = fits;
}

-- ---- the next of them

-- what is so by the offer of a row that was judged so, however it ends
abbrev OffersJudged : Result AuthorisedValue RowRefusal → Log → Log → Result (Unit {0}) (End LogFull) → Type 0
OffersJudged judged log log' result =
    (namespace : List ℕ) (seen : List RawValue) (row : RawValue) → judged ≡ verdict peer_rules namespace row → IsLogOf namespace seen log.kept log.counts → Offers namespace seen row log'.kept log'.counts result

module _ (namespace : List ℕ) (rows : List RawValue) (before log : Log) (judged : Result AuthorisedValue RowRefusal) (verdicts rest : List (Result AuthorisedValue RowRefusal))
    (h : HasOffered namespace rows before verdicts log) (next : verdicts ≡ judged ∷ rest) where
  first : AreJudged peer_rules namespace h.left judged rest
  first = first_judged peer_rules namespace h.left judged rest (sym next ∙ h.judged)

  parts_on : rows ≡ (h.taken ++ first.row ∷ []) ++ first.others
  parts_on = h.parts ∙ ap (λ (l : List RawValue). h.taken ++ l) first.parts ∙ sym (append_assoc h.taken (first.row ∷ []) first.others)

  -- it is on a row, in the namespace of the log, and fewer rows are counted than there are
  pub judged_here : (seen : List RawValue) → IsLogOf namespace seen before.kept before.counts → (row : RawValue) × (judged ≡ verdict peer_rules log.kept.namespace row)
  judged_here seen is = (first.row, first.judged_is ∙ ap (λ (n : List ℕ). verdict peer_rules n first.row) (sym (h.is_log seen is).of_namespace))

  pub counted_below : (seen : List RawValue) → IsLogOf namespace seen before.kept before.counts → length seen + length rows < 2 ^ 64 → log.counts.rows < 2 ^ 64 - 1
  counted_below seen is few = omega (arith, few, (h.is_log seen is).counted.all, ap length h.parts, ap length first.parts, length-append seen h.taken, length-append h.taken h.left)

  pub offered_on : (log' : Log) → OffersJudged judged log log' (Ok tt) → log'.counts.stored ≤ LOG_LIMIT → HasOffered namespace rows before rest log'
  offered_on log' offers fits = record {
    taken = h.taken ++ first.row ∷ [];
    left = first.others;
    parts = parts_on;
    judged = first.rest_are;
    is_log = λ seen is. subst (λ (l : List RawValue). IsLogOf namespace l log'.kept log'.counts) (append_assoc seen h.taken (first.row ∷ [])) (offers namespace (seen ++ h.taken) first.row first.judged_is (h.is_log seen is));
    fits = fits;
  }

  -- where it met a full log, one of all is one too many
  pub offers_fail : (log' : Log) (e : End LogFull) (result : Result (Unit {0}) (End LogFull)) → OffersJudged judged log log' (Err e) → log' ≡ log → IsErrAnd result (λ d. d ≡ e)
      → (seen : List RawValue) → IsLogOf namespace seen before.kept before.counts → TakesAll namespace seen rows log' result
  offers_fail log' e result offers same err seen is =
      let p = err_from_is_err_and result err in
      subst (λ (r : Result (Unit {0}) (End LogFull)). TakesAll namespace seen rows log' r) (ap (λ (d : End LogFull). Err d) (sym p.2) ∙ sym p.1)
      (told e (offers namespace (seen ++ h.taken) first.row first.judged_is (h.is_log seen is)))
    where
      whole : ((seen ++ h.taken) ++ first.row ∷ []) ++ first.others ≡ seen ++ rows
      whole =
          ap (λ (l : List RawValue). l ++ first.others) (append_assoc seen h.taken (first.row ∷ []))
          ∙ append_assoc seen (h.taken ++ first.row ∷ []) first.others
          ∙ ap (λ (l : List RawValue). seen ++ l) (sym parts_on)

      told : (d : End LogFull) → Offers namespace (seen ++ h.taken) first.row log'.kept log'.counts (Err d) → TakesAll namespace seen rows log' (Err d)
      told (Refused full) passes = subst (PassesLog namespace) whole (PassesLog-longer namespace ((seen ++ h.taken) ++ first.row ∷ []) first.others passes)
      told NoMemory none_past = record {
        front = seen ++ h.taken;
        left = first.row ∷ first.others;
        parts = ap (λ (l : List RawValue). seen ++ l) (h.parts ∙ ap (λ (l : List RawValue). h.taken ++ l) first.parts) ∙ sym (append_assoc seen h.taken (first.row ∷ first.others));
        is_log = subst (λ (l : Log). IsLogOf namespace (seen ++ h.taken) l.kept l.counts) (sym same) (h.is_log seen is);
        room = none_past;
      }

-- ---- all of them

-- so what is taken was offered
pub taken_offers : (namespace : List ℕ) (seen rows : List RawValue) (before log : Log) (result : Result (Unit {0}) (End LogFull)) → TakesAll namespace seen rows log result → OffersAll namespace seen rows before log result
taken_offers namespace seen rows before log (Ok tt) takes = takes
taken_offers namespace seen rows before log (Err (Refused full)) takes = takes
taken_offers namespace seen rows before log (Err NoMemory) takes = inr takes

pub offered_all : (namespace : List ℕ) (rows : List RawValue) (before log : Log) (verdicts : List (Result AuthorisedValue RowRefusal)) → HasOffered namespace rows before verdicts log → verdicts ≡ []
    → (seen : List RawValue) → IsLogOf namespace seen before.kept before.counts → IsLogOf namespace (seen ++ rows) log.kept log.counts
offered_all namespace rows before log verdicts h none seen is =
    let all : h.taken ≡ rows = sym (append-nil h.taken) ∙ ap (λ (l : List RawValue). h.taken ++ l) (sym (none_judged peer_rules namespace h.left verdicts none h.judged)) ∙ sym h.parts in
    subst (λ (l : List RawValue). IsLogOf namespace (seen ++ l) log.kept log.counts) all (h.is_log seen is)
