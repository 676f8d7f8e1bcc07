-- The log that a pass had seen which met all others: it is that of the closed cell, where none of them stored anything since.
use Rattle.std.proofs.Common.{◌≡◌, ◌⊎◌, inl, inr, ℕ, eqb, List, [], ◌∷◌, ◌++◌, length, Contains, refl, sym, ap, ◌∙◌, subst, arith, eq-eqb, append-nil, length-append}
use Rattle.std.proofs.lemmas.List.Elements.{All-contains}
use mathlib.Core.List.{IsPrefix}
use Rattle.willow_entry.specs.Row.{RowValue}
use Rattle.willow_entry.specs.declared.row.LogRow.{LogRow}
use Rattle.willow_entry.proofs.Members.{Member, contains_from_member, member_append_right, member_filter}
use Rattle.log_rule.specs.Views.{rows_of_pass}
use Rattle.log_rule.proofs.Books.{rows_of_pass-append, rows_of_pass_between}
use Rattle.log_rule.proofs.Prefixes.{empty_from_length, prefix_length, prefix_trans, prefix_whole}
use Rattle.ns_cell.specs.Closed.{IsClosed}
use Rattle.ns_cell.specs.Passes.{PassValue, IsLater, IsPass}

module _ {R : Type 0} (passes : List (PassValue R)) (log : List (LogRow R)) (closed : IsClosed passes log) where
  own_in : (pass : PassValue R) → Contains passes pass → rows_of_pass pass.number log ≡ pass.own
  own_in pass among = All-contains (λ (p : PassValue R). rows_of_pass p.number log ≡ p.own) passes pass closed.own among

  -- Of a front of the log that has all rows of each pass, nothing stands behind it: it would be a row of one of them.
  module _ (seen : List (LogRow R)) (has_all : (pass : PassValue R) → Contains passes pass → rows_of_pass pass.number seen ≡ pass.own) where
    no_row : (row : LogRow R) (rest : List (LogRow R)) → seen ++ row ∷ rest ≡ log → ⊥
    no_row row rest joined =
        let here : Contains log row = contains_from_member log row (subst (λ (rows : List (LogRow R)). Member rows row) joined (member_append_right seen (row ∷ rest) row (inl refl))) in
        let known = All-contains (λ (r : LogRow R). (pass : PassValue R) × Contains passes pass × (pass.number ≡ r.pass)) log row closed.known here in
        let pass = known.0 in
        let n = pass.number in
        let all : rows_of_pass n seen ++ rows_of_pass n (row ∷ rest) ≡ rows_of_pass n seen = sym (rows_of_pass-append n seen (row ∷ rest)) ∙ (ap (rows_of_pass n) joined ∙ (own_in pass known.1 ∙ sym (has_all pass known.1))) in
        let none : rows_of_pass n (row ∷ rest) ≡ [] = empty_from_length (rows_of_pass n (row ∷ rest)) (omega (arith, ap length all, length-append (rows_of_pass n seen) (rows_of_pass n (row ∷ rest)))) in
        subst (λ (rows : List (LogRow R)). Member rows row) none (member_filter (λ (r : LogRow R). eqb n r.pass) (row ∷ rest) row (inl refl) (eq-eqb n row.pass known.2))

    whole : (rest : List (LogRow R)) → seen ++ rest ≡ log → seen ≡ log
    whole [] joined = sym (append-nil seen) ∙ joined
    whole (row ∷ rest) joined = absurd (no_row row rest joined)

  -- A pass of the cell, as it was and later, that stored nothing meanwhile; each other pass had seen no more than it then.
  module _ (value : R → RowValue) (before after : PassValue R) (is_pass : IsPass value before) (later : IsLater before after) (same_own : after.own ≡ before.own) (among : Contains passes after)
      (others : (pass : PassValue R) → Contains passes pass → (pass ≡ after) ⊎ IsPrefix pass.seen before.seen) where
    of_closed : IsPrefix after.seen log
    of_closed = All-contains (λ (p : PassValue R). IsPrefix p.seen log) passes after closed.prefixes among

    front : IsPrefix before.seen log
    front = prefix_trans before.seen after.seen log later.seen of_closed

    has_all : (pass : PassValue R) → Contains passes pass → rows_of_pass pass.number before.seen ≡ pass.own
    has_all pass here = elim (others pass here) [
      | inl same ↦
          subst (λ (p : PassValue R). rows_of_pass p.number before.seen ≡ p.own) (sym same) (subst (λ (n : ℕ). rows_of_pass n before.seen ≡ after.own) (sym later.number) (is_pass.own ∙ sym same_own))
      | inr less ↦
          rows_of_pass_between pass.number pass.seen before.seen log pass.own less front (All-contains (λ (p : PassValue R). rows_of_pass p.number p.seen ≡ p.own) passes pass closed.own_seen here) (own_in pass here)
    ]

    -- it had seen all of the log, and has seen no more since
    pub had_seen_all : before.seen ≡ log
    had_seen_all = whole before.seen has_all front.0 front.1

    pub has_seen_all : after.seen ≡ log
    has_seen_all = prefix_whole after.seen log of_closed (prefix_length log after.seen (subst (λ (rows : List (LogRow R)). IsPrefix rows after.seen) had_seen_all later.seen))
