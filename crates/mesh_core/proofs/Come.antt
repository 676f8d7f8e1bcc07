-- Rows that come to a store one after the other.
use Rattle.std.proofs.Common.{◌≡◌, ℕ, ◌+◌, ◌<◌, ◌≤◌, List, [], ◌∷◌, ◌++◌, map, length, length-append, append-nil, append_assoc, sym, ap, ◌∙◌, arith}
use Rattle.std.proofs.lemmas.List.{map-append}
use Rattle.willow_entry.specs.Row.{RowValue, AreLive, join, live}
use Rattle.willow_entry.proofs.Live.{live_early_left}

pub none_come : (rows : List RowValue) → AreLive rows → rows ≡ join rows []
none_come rows is = sym is ∙ ap live (sym (append-nil rows))

-- of all rows these came behind those before, and these are left
pub record HaveCome {R : Type 0} (value : R → RowValue) (before all rows left store : List R) : Type 0 where
  pub came : map value store ≡ join (map value before) (map value rows)
  pub few : length store ≤ length before + length rows
  pub whole : all ≡ rows ++ left

module _ {R : Type 0} (value : R → RowValue) (before all rows left store : List R) (come : HaveCome value before all rows left store) where
  module _ (row : R) (next : List R) (is : left ≡ row ∷ next) where
    pub one_comes : (new : List R) → map value new ≡ join (map value store) (value row ∷ []) → length new ≤ length store + 1 → HaveCome value before all (rows ++ row ∷ []) next new
    one_comes new taken more = record {
      came =
          taken
          ∙ ap (λ l. join l (value row ∷ [])) come.came
          ∙ live_early_left (map value before ++ map value rows) (value row ∷ [])
          ∙ ap live (append_assoc (map value before) (map value rows) (value row ∷ []) ∙ ap (λ l. map value before ++ l) (sym (map-append value rows (row ∷ []))));
      few = omega (arith, come.few, more, length-append rows (row ∷ []));
      whole = come.whole ∙ ap (λ l. rows ++ l) is ∙ sym (append_assoc rows (row ∷ []) next);
    }

    pub room_for_one : (n : ℕ) → length before + length all < n → length store + 1 < n
    room_for_one n small = omega (arith, come.few, small, ap length come.whole, length-append rows left, ap length is)

  pub all_come : left ≡ [] → map value store ≡ join (map value before) (map value all)
  all_come is = come.came ∙ ap (λ l. join (map value before) (map value l)) (sym (come.whole ∙ ap (λ l. rows ++ l) is ∙ append-nil rows))
