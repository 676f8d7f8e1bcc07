-- What is refused for its order is not refused for its bytes.
use Rattle.std.proofs.Common.{◌≡◌, ℕ, ◌+◌, Bool, true, false, cond, List, [], ◌∷◌, ◌++◌, length, Option, Some, None, Err, subst}
use Rattle.std.specs.List.{position_from}
use Rattle.std.specs.Ordering.{is_lt}
use Rattle.spelling.specs.Answers.{or_else}
use Rattle.spelling.specs.declared.ending.End.TheVariants.{Refused}
use Rattle.willow_entry.specs.Row.{RowValue, is_dominating, inner_place_cmp}
use Rattle.cap_codec.specs.Rows.{RawValue}
use Rattle.peer_image.specs.declared.refusal.ImageRefusal.{ImageRefusal}
use Rattle.peer_image.specs.declared.refusal.ImageRefusal.TheVariants.{BadImage, NotRising, Pruned}
use Rattle.peer_image.specs.Order.{fall_after, first_fall, pruned_by, pruned_after, order_refusal}
use Rattle.peer_image.specs.ImageOneReading.{raw_rows, IsImageOne, ReadsImageOne}
use Rattle.peer_image.specs.ImageTwoReading.{IsImageTwo, ReadsImageTwo}

abbrev IsForOrder : Option ImageRefusal → Type 0
IsForOrder None = Unit {0}
IsForOrder (Some (BadImage at)) = ⊥
IsForOrder (Some (NotRising at)) = Unit {0}
IsForOrder (Some (Pruned at by)) = Unit {0}

either : (a b : Option ImageRefusal) → IsForOrder a → IsForOrder b → IsForOrder (or_else a b)
either None b f g = g
either (Some e) b f g = f

chosen : (t : Bool) (a b : Option ImageRefusal) → IsForOrder a → IsForOrder b → IsForOrder (cond t a b)
chosen true a b f g = f
chosen false a b f g = g

fall_for_order : (k : ℕ) (r : RowValue) (rows : List RowValue) → IsForOrder (fall_after k r rows)
unfolding fall_after
fall_for_order k r [] = tt
fall_for_order k r (s ∷ rows) = chosen (is_lt (inner_place_cmp r s)) (fall_after (k + 1) s rows) (Some (NotRising k)) (fall_for_order (k + 1) s rows) tt

first_for_order : (rows : List RowValue) → IsForOrder (first_fall rows)
unfolding first_fall
first_for_order [] = tt
first_for_order (r ∷ rows) = fall_for_order 2 r rows

by_for_order : (k : ℕ) (by : Option ℕ) → IsForOrder (pruned_by k by)
by_for_order k None = tt
by_for_order k (Some by) = tt

pruned_for_order : (earlier rows : List RowValue) → IsForOrder (pruned_after earlier rows)
unfolding pruned_after
pruned_for_order earlier [] = tt
pruned_for_order earlier (r ∷ rows) =
    either (pruned_by (length earlier + 1) (position_from (λ s. is_dominating s r) 1 earlier)) (pruned_after (earlier ++ r ∷ []) rows)
    (by_for_order (length earlier + 1) (position_from (λ s. is_dominating s r) 1 earlier)) (pruned_for_order (earlier ++ r ∷ []) rows)

order_for_order : (rows : List RowValue) → IsForOrder (order_refusal rows)
order_for_order rows = either (first_fall rows) (pruned_after [] rows) (first_for_order rows) (pruned_for_order [] rows)

-- an image whose rows are refused for their order is refused so
pub misordered : (bytes n : List ℕ) (rows : List RawValue) (refusal : ImageRefusal) → IsImageOne bytes n rows → order_refusal (raw_rows rows) ≡ Some refusal → ReadsImageOne bytes (Err (Refused refusal))
misordered bytes n rows (BadImage at) i e = absurd (subst IsForOrder e (order_for_order (raw_rows rows)))
misordered bytes n rows (NotRising at) i e = record { namespace = n; rows = rows; is_image = i; refused = e }
misordered bytes n rows (Pruned at by) i e = record { namespace = n; rows = rows; is_image = i; refused = e }

pub misordered_two : (bytes n : List ℕ) (rows : List RawValue) (refusal : ImageRefusal) → IsImageTwo bytes n rows → order_refusal (raw_rows rows) ≡ Some refusal → ReadsImageTwo bytes (Err (Refused refusal))
misordered_two bytes n rows (BadImage at) i e = absurd (subst IsForOrder e (order_for_order (raw_rows rows)))
misordered_two bytes n rows (NotRising at) i e = record { namespace = n; rows = rows; is_image = i; refused = e }
misordered_two bytes n rows (Pruned at by) i e = record { namespace = n; rows = rows; is_image = i; refused = e }
