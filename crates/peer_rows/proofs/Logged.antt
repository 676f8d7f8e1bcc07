-- How a log goes on by one row.
use Rattle.std.proofs.Common.{◌≡◌, ℕ, ◌+◌, Bool, true, false, cond, not, List, [], ◌∷◌, ◌++◌, length, map, filter, Option, Some, None, is_some, option_map, refl, sym, ap, ◌∙◌, subst, arith, length-append}
use Rattle.std.proofs.lemmas.List.{append-nil, map-append}
use Rattle.std.proofs.lemmas.List.Elements.{filter-append}
use Rattle.willow_entry.specs.Row.{RowValue, new}
use Rattle.lms_core.specs.Use.{peer_rules}
use Rattle.cap_codec.specs.Rows.{RawValue, row_of}
use Rattle.auth_entry.specs.Authorised.{AuthorisedValue, row_refusal, is_authorised}
use Rattle.mc_cap.specs.declared.refusal.RowRefusal.{RowRefusal}
use Rattle.spelling.specs.Answers.{or_else}
use Rattle.peer_stage.specs.declared.outcome.JoinCounts.{JoinCounts}
use Rattle.mc_cap.specs.declared.refusal.RefusedRow.{RefusedRow}
use Rattle.std.specs.Prelude.{Err}
use Rattle.spelling.specs.declared.ending.End.{End}
use Rattle.spelling.specs.declared.ending.End.TheVariants.{Refused, NoMemory}
use Rattle.ns_state.specs.Log.{StateValue}
use Rattle.ns_state.specs.declared.live_log.LogFull.{LogFull}
use Rattle.peer_rows.specs.RowLogs.{HasTaken, ArePastLog, GoesOn, OffersRow}
use Rattle.auth_entry.specs.Rows.{entry_row}
use Rattle.peer_rows.specs.Logged.{authorised_rows, numbered_refusal, first_refused, AreCounts, IsLogOf, Offers, with_refused, with_offered}
use Rattle.peer_rows.proofs.Firsts.{first_some-snoc, or_else-none}

pub authorised_none : (n : List ℕ) (r : RawValue) → row_refusal peer_rules n r ≡ None → is_authorised peer_rules n r ≡ true
unfolding is_authorised
authorised_none n r e = ap (λ (o : Option RowRefusal). not (is_some o)) e

pub authorised_some : (n : List ℕ) (r : RawValue) (x : RowRefusal) → row_refusal peer_rules n r ≡ Some x → is_authorised peer_rules n r ≡ false
unfolding is_authorised
authorised_some n r x e = ap (λ (o : Option RowRefusal). not (is_some o)) e

one_more : (n : List ℕ) (seen : List RawValue) (r : RawValue) → authorised_rows n (seen ++ r ∷ []) ≡ authorised_rows n seen ++ map row_of (filter (is_authorised peer_rules n) (r ∷ []))
one_more n seen r =
    ap (map row_of) (filter-append (is_authorised peer_rules n) seen (r ∷ [])) ∙ map-append row_of (filter (is_authorised peer_rules n) seen) (filter (is_authorised peer_rules n) (r ∷ []))

pub authorised_rows-more : (n : List ℕ) (seen : List RawValue) (r : RawValue) → is_authorised peer_rules n r ≡ true → authorised_rows n (seen ++ r ∷ []) ≡ authorised_rows n seen ++ row_of r ∷ []
authorised_rows-more n seen r e = one_more n seen r ∙ ap (λ (b : Bool). authorised_rows n seen ++ map row_of (cond b (r ∷ []) [])) e

pub authorised_rows-same : (n : List ℕ) (seen : List RawValue) (r : RawValue) → is_authorised peer_rules n r ≡ false → authorised_rows n (seen ++ r ∷ []) ≡ authorised_rows n seen
authorised_rows-same n seen r e = one_more n seen r ∙ ap (λ (b : Bool). authorised_rows n seen ++ map row_of (cond b (r ∷ []) [])) e ∙ append-nil (authorised_rows n seen)

-- a refusal with its row's number
abbrev pub number : ℕ → RowRefusal → RefusedRow
number k x = record { row = k; refusal = x }

-- ---- one more row

-- the first refused row goes on by one row
pub first-more : (n : List ℕ) (seen : List RawValue) (r : RawValue) (o : Option RowRefusal) (k : ℕ) → k ≡ length seen → row_refusal peer_rules n r ≡ o
    → first_refused n (seen ++ r ∷ []) ≡ or_else (first_refused n seen) (option_map (λ (x : RowRefusal). number (k + 1) x) o)
first-more n seen r o k is e =
    let at : k + 1 ≡ 1 + length seen = omega arith in
    first_some-snoc (numbered_refusal n) 1 seen r
    ∙ ap (λ (q : Option RowRefusal). or_else (first_refused n seen) (option_map (λ (x : RowRefusal). number (1 + length seen) x) q)) e
    ∙ ap (λ (m : ℕ). or_else (first_refused n seen) (option_map (λ (x : RowRefusal). number m x) o)) (sym at)

pub first-same : (n : List ℕ) (seen : List RawValue) (r : RawValue) → row_refusal peer_rules n r ≡ None → first_refused n (seen ++ r ∷ []) ≡ first_refused n seen
first-same n seen r e = first-more n seen r None (length seen) refl e ∙ or_else-none (first_refused n seen)

pub IsLogOf-refused : (n : List ℕ) (seen : List RawValue) (kept : StateValue AuthorisedValue) (counts : JoinCounts) (r : RawValue) (x : RowRefusal)
    → row_refusal peer_rules n r ≡ Some x → IsLogOf n seen kept counts → IsLogOf n (seen ++ r ∷ []) kept (with_refused x counts)
IsLogOf-refused n seen kept counts r x e log =
    let same = authorised_rows-same n seen r (authorised_some n r x e) in
    let was = log.counted in
    record {
      of_namespace = log.of_namespace;
      taken = log.taken ∙ ap new (sym same);
      counted = record {
        all = omega (arith, was.all, length-append seen (r ∷ []));
        stored = was.stored ∙ ap (λ (rows : List RowValue). length (new rows)) (sym same);
        kept = was.kept ∙ ap (λ (rows : List RowValue). length rows) (sym same);
        refused = rw same (omega (arith, was.refused, length-append seen (r ∷ [])));
        first = ap (λ (o : Option RefusedRow). or_else o (Some (number (counts.rows + 1) x))) was.first ∙ sym (first-more n seen r (Some x) counts.rows was.all e);
      };
    }

one_longer : (n : List ℕ) (seen : List RawValue) (r : RawValue) → is_authorised peer_rules n r ≡ true → length (authorised_rows n (seen ++ r ∷ [])) ≡ length (authorised_rows n seen) + 1
one_longer n seen r accepts = rw (authorised_rows-more n seen r accepts) (omega (arith, length-append (authorised_rows n seen) (row_of r ∷ [])))

pub IsLogOf-offered : (n : List ℕ) (seen : List RawValue) (kept kept' : StateValue AuthorisedValue) (counts : JoinCounts) (r : RawValue) (stored : Bool) → row_refusal peer_rules n r ≡ None → kept'.namespace ≡ kept.namespace
    → HasTaken entry_row (authorised_rows n seen ++ row_of r ∷ []) kept' → GoesOn (authorised_rows n seen) (row_of r) stored → IsLogOf n seen kept counts → IsLogOf n (seen ++ r ∷ []) kept' (with_offered stored counts)
IsLogOf-offered n seen kept kept' counts r stored e same goes on log =
    let accepts = authorised_none n r e in
    let more = authorised_rows-more n seen r accepts in
    let was = log.counted in
    let longer = one_longer n seen r accepts in
    record { of_namespace = same ∙ log.of_namespace; taken = goes ∙ ap new (sym more); counted = counts_on stored was longer (ap new more ∙ on) (first-same n seen r e) }
  where
    counts_on : (b : Bool) → AreCounts n seen counts → length (authorised_rows n (seen ++ r ∷ [])) ≡ length (authorised_rows n seen) + 1
        → new (authorised_rows n (seen ++ r ∷ [])) ≡ new (authorised_rows n seen) ++ cond b (row_of r ∷ []) [] → first_refused n (seen ++ r ∷ []) ≡ first_refused n seen
        → AreCounts n (seen ++ r ∷ []) (with_offered b counts)
    counts_on true was longer is first =
        record {
          all = omega (arith, was.all, length-append seen (r ∷ []));
          stored = rw is (omega (arith, was.stored, length-append (new (authorised_rows n seen)) (row_of r ∷ [])));
          kept = omega (arith, was.kept, longer);
          refused = omega (arith, was.refused, longer, length-append seen (r ∷ []));
          first = was.first ∙ sym first;
        }
    counts_on false was longer is first =
        record {
          all = omega (arith, was.all, length-append seen (r ∷ []));
          stored = was.stored ∙ ap length (sym (is ∙ append-nil (new (authorised_rows n seen))));
          kept = omega (arith, was.kept, longer);
          refused = omega (arith, was.refused, longer, length-append seen (r ∷ []));
          first = was.first ∙ sym first;
        }

-- where a row is one too many among the authorised ones, it is among all
pub offered_past : (n : List ℕ) (seen : List RawValue) (r : RawValue) (log : StateValue AuthorisedValue) (counts : JoinCounts) (e : End LogFull) → row_refusal peer_rules n r ≡ None
    → OffersRow entry_row (authorised_rows n seen) (row_of r) log (Err e) → Offers n seen r log counts (Err e)
offered_past n seen r log counts (Refused full) fine past = subst ArePastLog (sym (authorised_rows-more n seen r (authorised_none n r fine))) past
offered_past n seen r log counts NoMemory fine none_past = λ past. none_past (subst ArePastLog (authorised_rows-more n seen r (authorised_none n r fine)) past)
