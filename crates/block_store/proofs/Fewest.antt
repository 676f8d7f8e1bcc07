-- The fewest components of the rows' paths, as rows come and go.
use Rattle.std.proofs.Common.{◌≡◌, inl, inr, ℕ, ◌≤◌, List, [], ◌∷◌, ◌++◌, length, ap, subst, arith}
use Rattle.willow_entry.specs.Row.{RowValue, is_dominating, place_cmp, live}
use Rattle.willow_entry.proofs.Members.{Member, contains_from_member, member_from_contains, member_append_cases}
use Rattle.willow_entry.proofs.Pruning.{pruned_member}
use Rattle.willow_entry.proofs.RowLaws.{rows_prune}
use Rattle.block_store.specs.Front.{HaveComponents}

pub fewest_of_none : (k : ℕ) → HaveComponents [] k
fewest_of_none k = record { each = λ s c. absurd (member_from_contains [] s c) }

-- with one row more, some of the others may be gone
pub fewest_more : (rows now : List RowValue) (r : RowValue) (k n : ℕ) → HaveComponents rows k → now ≡ live (rows ++ r ∷ []) → n ≤ k → n ≤ length r.entry.path → HaveComponents now n
fewest_more rows now r k n have is old new =
    record {
      each = λ s c.
          let m = (pruned_member is_dominating place_cmp rows_prune (rows ++ r ∷ []) s (subst (λ l. Member l s) is (member_from_contains now s c))).0 in
          elim (member_append_cases rows (r ∷ []) s m) [
            | inl before ↦ omega (arith, have.each s (contains_from_member rows s before))
            | inr last ↦ elim last [
              | inl same ↦ omega (arith, ap (λ (t : RowValue). length t.entry.path) same)
              | inr none ↦ absurd none
            ]
          ];
    }
