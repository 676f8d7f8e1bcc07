-- The log of a server has the opening rows and as many as its sessions tell as stored, where all were done.
use Rattle.std.proofs.Common.{◌≡◌, ℕ, ◌+◌, ◌<◌, ◌≤◌, Bool, true, false, cond, eqb, leb, List, [], ◌∷◌, ◌++◌, length, map, refl, sym, ap, ◌∙◌, subst, arith}
use Rattle.std.proofs.lemmas.Bool.Decides.{nat_tests}
use Rattle.std.proofs.lemmas.List.Elements.{recursion_from_All}
use Rattle.std.proofs.lemmas.List.Sums.{sum_by-cons}
use Rattle.std.specs.List.{All, AllByRecursion, sum_by}
use Rattle.std.specs.Prelude.{Ok, Err, IfOk}
use Rattle.cap_codec.specs.Rows.{RawValue}
use Rattle.willow_entry.specs.declared.row.LogRow.{LogRow}
use Rattle.auth_entry.specs.Authorised.{AuthorisedValue}
use Rattle.log_rule.specs.Views.{rows_of_pass, AreOf}
use Rattle.ns_cell.specs.Passes.{PassValue}
use Rattle.log_rule.proofs.Books.{rows_of_pass-other}
use Rattle.sync_link.specs.Run.{Answer, Reports}
use Rattle.sync_link.specs.Sessions.{Party}
use Rattle.call_rules.specs.Visits.{AreVisits}
use Rattle.peer_make.specs.declared.key_signer.KeySigner.{KeySigner}
use Rattle.peer_run.specs.HostHeadline.{AnswersOk, stored_told}
use Rattle.peer_run.specs.Visiting.{Visit, IsVisit, IsShared, first_number}

abbrev Log : Type 0
Log = List (LogRow AuthorisedValue)

-- ---- rows by their numbers

-- how many rows have this number or a higher one
abbrev at_least : ℕ → Log → ℕ
at_least k [] = 0
at_least k (row ∷ rows) = cond {A = ℕ} (leb k row.pass) 1 0 + at_least k rows

one_more_or_not : (k n : ℕ) → cond {A = ℕ} (leb k n) 1 0 ≡ cond {A = ℕ} (eqb k n) 1 0 + cond {A = ℕ} (leb (k + 1) n) 1 0
one_more_or_not k n = grind (arith, nat_tests)

of_number : (k : ℕ) (row : LogRow AuthorisedValue) (rows : Log) → length (rows_of_pass k (row ∷ rows)) ≡ cond {A = ℕ} (eqb k row.pass) 1 0 + length (rows_of_pass k rows)
of_number k row rows = by (eqb k row.pass) refl where
  by : (b : Bool) → eqb k row.pass ≡ b → length (cond (eqb k row.pass) (row ∷ rows_of_pass k rows) (rows_of_pass k rows)) ≡ cond {A = ℕ} (eqb k row.pass) 1 0 + length (rows_of_pass k rows)
  by true is = rw is (omega arith)
  by false is = rw is (omega arith)

-- those of the number, and those of higher ones
split_at : (k : ℕ) (rows : Log) → at_least k rows ≡ length (rows_of_pass k rows) + at_least (k + 1) rows
split_at k [] = refl
split_at k (row ∷ rows) = omega (arith, split_at k rows, one_more_or_not k row.pass, of_number k row rows)

from_least : (n : ℕ) → cond {A = ℕ} (leb 0 n) 1 0 ≡ 1
from_least n = grind (arith, nat_tests)

from_zero : (rows : Log) → at_least 0 rows ≡ length rows
from_zero [] = refl
from_zero (row ∷ rows) = omega (arith, from_least row.pass, from_zero rows)

below : (k n : ℕ) → n < k → cond {A = ℕ} (leb k n) 1 0 ≡ 0
below k n less = grind (arith, nat_tests)

none_above : (k : ℕ) (rows : Log) → AllByRecursion (λ (row : LogRow AuthorisedValue). row.pass < k) rows → at_least k rows ≡ 0
none_above k [] few = refl
none_above k (row ∷ rows) few = omega (arith, below k row.pass few.0, none_above k rows few.1)

-- ---- sessions

stored_is : (p : Party) (log : Log) (bytes : List ℕ) (rows : List RawValue) (grown closed : ℕ) (answer : Answer) → IfOk answer (Reports p log bytes rows grown closed) → AnswersOk answer → grown ≡ stored_told answer
stored_is p log bytes rows grown closed (Ok report) reported done = sym reported.stored
stored_is p log bytes rows grown closed (Err end) reported done = absurd done

module _ (follows : Bool) (opening log : Log) (of_first : AreOf 0 opening) (p : List ℕ → List ℕ → Party) where
  -- the rows of a session's number are those that it tells as stored
  visit_stored : (number : ℕ) (signer : KeySigner) (draw : List ℕ) (visit : Visit) → 1 ≤ number → IsVisit true follows opening log p number signer draw visit → AnswersOk visit.answer → length (rows_of_pass number log) ≡ stored_told visit.answer
  visit_stored number signer draw visit later is done =
      let none : visit.before.own ≡ [] = is.begun.1 ∙ rows_of_pass-other number 0 opening (λ e. omega (arith, e, later)) of_first in
      let grew : rows_of_pass number log ≡ is.ran.grown = sym is.own ∙ (ap (λ (pass : PassValue AuthorisedValue). pass.own) is.followed.same_pass ∙ (is.ran.grew.0 ∙ ap (λ (own : Log). own ++ is.ran.grown) none)) in
      ap length grew ∙ stored_is (p draw is.ran.signature) is.ran.log is.ran.bytes is.ran.rows (length is.ran.grown) (length visit.between.seen) visit.answer is.ran.reported done

  -- and so those of all
  sessions_stored : (number : ℕ) (signers : List KeySigner) (draws : List (List ℕ)) (visits : List Visit) → 1 ≤ number → AreVisits (IsVisit true follows opening log p) number signers draws visits
      → AllByRecursion AnswersOk (map (λ (visit : Visit). visit.answer) visits) → AllByRecursion (λ (row : LogRow AuthorisedValue). row.pass < number + length visits) log
      → at_least number log ≡ sum_by stored_told (map (λ (visit : Visit). visit.answer) visits)
  sessions_stored number signers draws [] later are done few =
      let none : number + 0 ≡ number = omega arith in
      none_above number log (subst (λ (k : ℕ). AllByRecursion (λ (row : LogRow AuthorisedValue). row.pass < k) log) none few)
  sessions_stored number [] draws (v ∷ vs) later are done few = absurd are
  sessions_stored number (signer ∷ signers) [] (v ∷ vs) later are done few = absurd are
  sessions_stored number (signer ∷ signers) (draw ∷ draws) (v ∷ vs) later are done few =
      let answers : List Answer = map (λ (visit : Visit). visit.answer) vs in
      let same : number + length (v ∷ vs) ≡ number + 1 + length vs = omega arith in
      let rest = sessions_stored (number + 1) signers draws vs (omega arith) are.1 done.1 (subst (λ (k : ℕ). AllByRecursion (λ (row : LogRow AuthorisedValue). row.pass < k) log) same few) in
      omega (arith, split_at number log, visit_stored number signer draw v later are.0 done.0, rest, sum_by-cons stored_told v.answer answers)

pub log_counts : (awaited follows : Bool) (opening log : Log) (p : List ℕ → List ℕ → Party) (signers : List KeySigner) (draws : List (List ℕ)) (visits : List Visit) (answers : List Answer) → awaited ≡ true → IsShared awaited opening log (length visits)
    → AreVisits (IsVisit awaited follows opening log p) (first_number awaited) signers draws visits → answers ≡ map (λ (visit : Visit). visit.answer) visits → All AnswersOk answers → length log ≡ length opening + sum_by stored_told answers
log_counts false follows opening log p signers draws visits answers served shared are told done = absurd cc
log_counts true follows opening log p signers draws visits answers served shared are told done =
    let all = map (λ (visit : Visit). visit.answer) visits in
    let each = recursion_from_All AnswersOk all (subst (All AnswersOk) told done) in
    let few = recursion_from_All (λ (row : LogRow AuthorisedValue). row.pass < 1 + length visits) log shared.numbered in
    let stored = sessions_stored follows opening log shared.of_first p 1 signers draws visits (omega arith) are each few in
    let of_first : length (rows_of_pass 0 log) ≡ length opening = ap length (shared.opening_own refl) in
    let total : length log ≡ length opening + sum_by stored_told all = omega (arith, from_zero log, split_at 0 log, of_first, stored) in
    total ∙ ap (λ (l : List Answer). length opening + sum_by stored_told l) (sym told)
