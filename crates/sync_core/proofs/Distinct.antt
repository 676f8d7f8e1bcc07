-- Of rows that rise, each stands there once.
use Rattle.std.proofs.Common.{◌≡◌, false, List, [], ◌∷◌, sym, subst, Less}
use Rattle.std.specs.List.{AllByRecursion, IsDistinct}
use Rattle.std.specs.List.Sorted.{IsStrictlySortedBy}
use Rattle.std.proofs.lemmas.Bool.{false_from_ne_true}
use Rattle.willow_entry.specs.Row.{RowValue, IsRising, place_cmp, same_row}
use Rattle.willow_entry.proofs.Ranks.{place_total}
use Rattle.willow_entry.proofs.Rising.{not_below_itself}
use Rattle.willow_entry.proofs.RowLaws.{same_row_decides}

all_others : (r : RowValue) (rows : List RowValue) → AllByRecursion (λ s. place_cmp r s ≡ Less) rows → AllByRecursion (λ s. same_row r s ≡ false) rows
all_others r [] up = tt
all_others r (s ∷ rows) up = (
  false_from_ne_true (same_row r s) (λ e. not_below_itself place_cmp place_total r (subst (λ t. place_cmp r t ≡ Less) (sym ((same_row_decides r s).0 e)) up.0)),
  all_others r rows up.1,
)

pub rising_distinct : (rows : List RowValue) → IsRising rows → IsDistinct same_row rows
unfolding IsStrictlySortedBy IsDistinct
rising_distinct [] up = tt
rising_distinct (r ∷ rows) up = (all_others r rows up.0, rising_distinct rows up.1)
