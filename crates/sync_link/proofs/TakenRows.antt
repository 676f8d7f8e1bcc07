-- Rows that are judged together and taken one after the other.
use Rattle.std.proofs.Common.{◌≡◌, ℕ, List, [], ◌∷◌, ◌++◌, map, length, Result, Ok, Err, refl, sym, ap, ◌∙◌, subst, append_assoc, append-nil, arith, length-append}
use Rattle.std.proofs.lemmas.List.{length-map}
use Rattle.std.specs.Result.{IsErrAnd}
use Rattle.scheme_core.specs.Rules.{Rules}
use Rattle.mc_cap.specs.declared.refusal.RowRefusal.{RowRefusal}
use Rattle.cap_codec.specs.Rows.{RawValue}
use Rattle.auth_entry.specs.Authorised.{AuthorisedValue, verdict}
use Rattle.log_rule.proofs.Prefixes.{empty_from_length}
use Rattle.ns_cell.specs.Passes.{PassValue}
use Rattle.sync_link.specs.Tallies.{HasGrown, IsTally, TakesRows}
use Rattle.row_intake.specs.declared.tally.Tally.{Tally}
use Rattle.sync_link.proofs.Offered.{grown_on, later_self}

-- a member of a list of values, and those before it and behind it
pub record IsMiddle {A B : Type 0} (f : A → B) (xs : List A) (front : List B) (y : B) : Type 0 where
  pub before : List A
  pub middle : A
  pub behind : List A
  pub joined : xs ≡ before ++ middle ∷ behind
  pub front_is : front ≡ map f before
  pub middle_is : y ≡ f middle

pub middle_of : {A B : Type 0} (f : A → B) (xs : List A) (front : List B) (y : B) (back : List B) → front ++ y ∷ back ≡ map f xs → IsMiddle f xs front y
middle_of f [] [] y back e = cc
middle_of f [] (z ∷ front) y back e = cc
middle_of f (x ∷ xs) [] y back e = record { before = []; middle = x; behind = xs; joined = refl; front_is = refl; middle_is = cc }
middle_of f (x ∷ xs) (z ∷ front) y back e =
    let tail : front ++ y ∷ back ≡ map f xs = cc in
    let m = middle_of f xs front y back tail in
    record {
      before = x ∷ m.before;
      middle = m.middle;
      behind = m.behind;
      joined = ap (λ l. x ∷ l) m.joined;
      front_is = (let head : z ≡ f x = cc in ap (λ w. w ∷ front) head ∙ ap (λ l. f x ∷ l) m.front_is);
      middle_is = m.middle_is;
    }

-- what is so of a failed call is so of what it gives on
pub takes_err : {A E : Type 0} (rules : Rules) (n : List ℕ) (start : PassValue AuthorisedValue) (rows : List RawValue) (pass : PassValue AuthorisedValue) (tally : Tally) (P : E → Type 0) (result : Result A E)
    → IsErrAnd result P → HasGrown rules n start rows pass → TakesRows rules n start rows pass tally result
takes_err rules n start rows pass tally P (Ok u) err grew = absurd err
takes_err rules n start rows pass tally P (Err e) err grew = grew

module _ (rules : Rules) (n : List ℕ) where
  -- the rows whose verdicts came so far are all taken, whatever rows came before
  unfoldable pub HasTaken : List (Result AuthorisedValue RowRefusal) → PassValue AuthorisedValue → Tally → PassValue AuthorisedValue → Tally → Type 0
  HasTaken verdicts pass tally pass' tally' =
      (start : PassValue AuthorisedValue) (before rows : List RawValue) → verdicts ≡ map (verdict rules n) rows → IsTally rules n start before pass tally → IsTally rules n start (before ++ rows) pass' tally'

  pub none_taken : (pass : PassValue AuthorisedValue) (tally : Tally) → HasTaken [] pass tally pass tally
  unfolding HasTaken
  none_taken pass tally start before [] e t = subst (λ l. IsTally rules n start l pass tally) (sym (append-nil before)) t
  none_taken pass tally start before (row ∷ rows) e t = cc

  pub one_taken : (verdicts : List (Result AuthorisedValue RowRefusal)) (judged : Result AuthorisedValue RowRefusal) (pass pass' pass'' : PassValue AuthorisedValue) (tally tally' tally'' : Tally)
      → HasTaken verdicts pass tally pass' tally'
      → ((start : PassValue AuthorisedValue) (rows : List RawValue) (row : RawValue) → judged ≡ verdict rules n row → IsTally rules n start rows pass' tally' → IsTally rules n start (rows ++ row ∷ []) pass'' tally'')
      → HasTaken (verdicts ++ judged ∷ []) pass tally pass'' tally''
  unfolding HasTaken
  one_taken verdicts judged pass pass' pass'' tally tally' tally'' so_far next start before rows e t =
      let m = middle_of (verdict rules n) rows verdicts judged [] e in
      let none : m.behind ≡ [] = last_of m e in
      let there = next start (before ++ m.before) m.middle m.middle_is (so_far start before m.before m.front_is t) in
      subst (λ l. IsTally rules n start l pass'' tally'') (append_assoc before m.before (m.middle ∷ []) ∙ ap (λ l. before ++ (m.before ++ m.middle ∷ l)) (sym none) ∙ ap (λ l. before ++ l) (sym m.joined)) there
    where
      last_of : (m : IsMiddle (verdict rules n) rows verdicts judged) → verdicts ++ judged ∷ [] ≡ map (verdict rules n) rows → m.behind ≡ []
      last_of m e = empty_from_length m.behind (omega (arith, ap length e, ap length m.joined, ap length m.front_is, length-map rows (verdict rules n), length-map m.before (verdict rules n), length-append verdicts (judged ∷ []), length-append m.before (m.middle ∷ m.behind)))

  -- a row behind them failed
  pub taken_fails : (verdicts rest : List (Result AuthorisedValue RowRefusal)) (judged : Result AuthorisedValue RowRefusal) (pass pass' pass'' : PassValue AuthorisedValue) (tally tally' : Tally) (rows : List RawValue)
      → HasTaken verdicts pass tally pass' tally' → verdicts ++ judged ∷ rest ≡ map (verdict rules n) rows
      → ((start : PassValue AuthorisedValue) (rows : List RawValue) (row : RawValue) → judged ≡ verdict rules n row → IsTally rules n start rows pass' tally' → HasGrown rules n start (rows ++ row ∷ []) pass'')
      → (start : PassValue AuthorisedValue) (before : List RawValue) → IsTally rules n start before pass tally → HasGrown rules n start (before ++ rows) pass''
  unfolding HasTaken
  taken_fails verdicts rest judged pass pass' pass'' tally tally' rows so_far e next start before t =
      let m = middle_of (verdict rules n) rows verdicts judged rest e in
      let there = next start (before ++ m.before) m.middle m.middle_is (so_far start before m.before m.front_is t) in
      let whole : ((before ++ m.before) ++ m.middle ∷ []) ++ m.behind ≡ before ++ rows = append_assoc (before ++ m.before) (m.middle ∷ []) m.behind ∙ append_assoc before m.before (m.middle ∷ m.behind) ∙ ap (λ l. before ++ l) (sym m.joined) in
      subst (λ l. HasGrown rules n start l pass'') whole (grown_on rules n start ((before ++ m.before) ++ m.middle ∷ []) m.behind pass'' pass'' there (later_self pass'') refl)
