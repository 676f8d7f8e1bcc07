-- Verdicts on rows.
use Rattle.std.proofs.Common.{◌≡◌, ℕ, List, [], ◌∷◌, map, Option, Some, None, Result, Ok, Err, refl}
use Rattle.scheme_core.specs.Rules.{Rules}
use Rattle.mc_cap.specs.declared.refusal.RowRefusal.{RowRefusal}
use Rattle.cap_codec.specs.Rows.{RawValue}
use Rattle.auth_entry.specs.Authorised.{AuthorisedValue, row_refusal, verdict, verdict_by}

module _ (rules : Rules) (n : List ℕ) where
  -- what a verdict says of a row
  pub verdict_ok : (row : RawValue) (entry : AuthorisedValue) → Ok entry ≡ verdict rules n row → (row_refusal rules n row ≡ None) × (entry ≡ record { namespace = n; row = row })
  verdict_ok row entry e = by_case (row_refusal rules n row) refl e
    where
      by_case : (o : Option RowRefusal) → row_refusal rules n row ≡ o → Ok entry ≡ verdict_by (record { namespace = n; row = row }) o → (row_refusal rules n row ≡ None) × (entry ≡ record { namespace = n; row = row })
      by_case None is e = (is, cc)
      by_case (Some refusal) is e = cc

  pub verdict_err : (row : RawValue) (refusal : RowRefusal) → Err refusal ≡ verdict rules n row → row_refusal rules n row ≡ Some refusal
  verdict_err row refusal e = by_case (row_refusal rules n row) refl e
    where
      by_case : (o : Option RowRefusal) → row_refusal rules n row ≡ o → Err refusal ≡ verdict_by (record { namespace = n; row = row }) o → row_refusal rules n row ≡ Some refusal
      by_case None is e = cc
      by_case (Some other) is e = cc

  -- rows, of which this is the verdict on the first one, and these are those on the others
  pub record AreJudged (rows : List RawValue) (judged : Result AuthorisedValue RowRefusal) (rest : List (Result AuthorisedValue RowRefusal)) : Type 0 where
    pub row : RawValue
    pub others : List RawValue
    pub parts : rows ≡ row ∷ others
    pub judged_is : judged ≡ verdict rules n row
    pub rest_are : rest ≡ map (verdict rules n) others

  pub first_judged : (rows : List RawValue) (judged : Result AuthorisedValue RowRefusal) (rest : List (Result AuthorisedValue RowRefusal)) → judged ∷ rest ≡ map (verdict rules n) rows → AreJudged rows judged rest
  first_judged [] judged rest e = cc
  first_judged (row ∷ others) judged rest e = record { row = row; others = others; parts = refl; judged_is = cc; rest_are = cc }

  pub none_judged : (rows : List RawValue) (verdicts : List (Result AuthorisedValue RowRefusal)) → verdicts ≡ [] → verdicts ≡ map (verdict rules n) rows → rows ≡ []
  none_judged [] verdicts none e = refl
  none_judged (row ∷ rows) verdicts none e = cc
