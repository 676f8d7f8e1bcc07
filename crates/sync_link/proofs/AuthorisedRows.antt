-- The authorised rows of some, and the first that is not, with rows more.
use Rattle.std.proofs.Common.{◌≡◌, ℕ, ◌+◌, cond, not, List, [], ◌∷◌, ◌++◌, map, length, Option, Some, None, is_some, option_map, refl, ap, ◌∙◌, arith}
use Rattle.std.proofs.lemmas.List.{map-append}
use Rattle.std.proofs.lemmas.List.Elements.{filter-append}
use Rattle.spelling.specs.Answers.{or_else}
use Rattle.spelling.proofs.Causes.{first_some-push}
use Rattle.scheme_core.specs.Rules.{Rules}
use Rattle.mc_cap.specs.declared.refusal.RowRefusal.{RowRefusal}
use Rattle.cap_codec.specs.Rows.{RawValue, row_of}
use Rattle.auth_entry.specs.Authorised.{authorised, is_authorised, row_refusal}
use Rattle.auth_entry.specs.Rows.{authorised_rows, numbered_refusal, first_refused}

or_else-none : {E : Type 0} (o : Option E) → or_else o None ≡ o
or_else-none None = refl
or_else-none (Some e) = refl

module _ (rules : Rules) (namespace : List ℕ) where
  pub authorised-append : (rows more : List RawValue) → authorised_rows rules namespace (rows ++ more) ≡ authorised_rows rules namespace rows ++ authorised_rows rules namespace more
  authorised-append rows more =
      ap (map row_of) (filter-append (is_authorised rules namespace) rows more) ∙ map-append row_of (authorised rules namespace rows) (authorised rules namespace more)

  authorised-one : (row : RawValue) (o : Option RowRefusal) → row_refusal rules namespace row ≡ o → authorised_rows rules namespace (row ∷ []) ≡ map row_of (cond (not (is_some o)) (row ∷ []) [])
  unfolding is_authorised
  authorised-one row o is = ap (λ (x : Option RowRefusal). map row_of (cond (not (is_some x)) (row ∷ []) [])) is

  first_refused-push : (rows : List RawValue) (row : RawValue) (o : Option RowRefusal) → row_refusal rules namespace row ≡ o
      → first_refused rules namespace (rows ++ row ∷ []) ≡ or_else (first_refused rules namespace rows) (option_map (λ refusal. record { row = length rows + 1; refusal = refusal }) o)
  first_refused-push rows row o is =
      first_some-push (numbered_refusal rules namespace) 1 rows row
      ∙ ap (λ (k : ℕ). or_else (first_refused rules namespace rows) (numbered_refusal rules namespace k row)) (omega arith)
      ∙ ap (λ (x : Option RowRefusal). or_else (first_refused rules namespace rows) (option_map (λ refusal. record { row = length rows + 1; refusal = refusal }) x)) is

  -- one row more that is authorised
  pub authorised-push : (rows : List RawValue) (row : RawValue) → row_refusal rules namespace row ≡ None → authorised_rows rules namespace (rows ++ row ∷ []) ≡ authorised_rows rules namespace rows ++ row_of row ∷ []
  authorised-push rows row is = authorised-append rows (row ∷ []) ∙ ap (λ l. authorised_rows rules namespace rows ++ l) (authorised-one row None is)

  pub first_refused-same : (rows : List RawValue) (row : RawValue) → row_refusal rules namespace row ≡ None → first_refused rules namespace (rows ++ row ∷ []) ≡ first_refused rules namespace rows
  first_refused-same rows row is = first_refused-push rows row None is ∙ or_else-none (first_refused rules namespace rows)

  -- one row more that is not
  pub authorised-skip : (rows : List RawValue) (row : RawValue) (refusal : RowRefusal) → row_refusal rules namespace row ≡ Some refusal → authorised_rows rules namespace (rows ++ row ∷ []) ≡ authorised_rows rules namespace rows ++ []
  authorised-skip rows row refusal is = authorised-append rows (row ∷ []) ∙ ap (λ l. authorised_rows rules namespace rows ++ l) (authorised-one row (Some refusal) is)

  pub first_refused-with : (rows : List RawValue) (row : RawValue) (refusal : RowRefusal) → row_refusal rules namespace row ≡ Some refusal
      → first_refused rules namespace (rows ++ row ∷ []) ≡ or_else (first_refused rules namespace rows) (Some (record { row = length rows + 1; refusal = refusal }))
  first_refused-with rows row refusal is = first_refused-push rows row (Some refusal) is
