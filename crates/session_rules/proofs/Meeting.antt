-- Two sides that each read what the other writes.
use Rattle.std.proofs.Common.{◌≡◌, ℕ, zero, suc, List, [], sym, refl, ap, ap₂, ◌∙◌}
use Rattle.session_rules.specs.Machine.{Machine}
use Rattle.session_rules.specs.Reading.{out, ending, run}
use Rattle.session_rules.specs.Rounds.{IsFront, IsOver, rounds, Meet}
use Rattle.session_rules.proofs.Growing.{Grows, front_none, front_is, front_under, out_grows, same_over}

module _ {A B : Type 0} (left : List B → List A) (right : List A → List B) (left_grows : Grows left) (right_grows : Grows right) where
  pub rounds_grow : (n : ℕ) → IsFront (rounds left right n).0 (rounds left right (suc n)).0 × IsFront (rounds left right n).1 (rounds left right (suc n)).1
  unfolding rounds
  rounds_grow zero = (front_none (left []), front_none (right (left [])))
  rounds_grow (suc n) =
      let before = rounds left right n in
      let now = rounds left right (suc n) in
      let by_left = front_under left left_grows before.1 now.1 (rounds_grow n).1 in
      (by_left, front_under right right_grows (left before.1) (left now.1) by_left)

  pub rounds_front : (by_left : List A) (by_right : List B) → Meet left right by_left by_right
      → (n : ℕ) → IsFront (rounds left right n).0 by_left × IsFront (rounds left right n).1 by_right
  unfolding rounds
  rounds_front by_left by_right meet zero = (front_none by_left, front_none by_right)
  rounds_front by_left by_right meet (suc n) =
      let before = rounds left right n in
      let first = front_is (left before.1) (left by_right) by_left (sym meet.left_writes) (front_under left left_grows before.1 by_right (rounds_front by_left by_right meet n).1) in
      (first, front_is (right (left before.1)) (right by_left) by_right (sym meet.right_writes) (front_under right right_grows (left before.1) by_left first))

module _ {S M O R E S' M' O' R' E' : Type 0} (a : Machine S M O R E) (b : Machine S' M' O' R' E') where
  -- where a machine is over, what it writes to all is what it wrote
  out_over : {T N P Q F : Type 0} (c : Machine T N P Q F) (front whole : List ℕ) → IsFront front whole → IsOver (ending c front) → out c whole ≡ out c front
  out_over c front whole h over = ap (out c) h.joined ∙ (same_over c front h.behind over).0

  pub fronts : (by_a by_b : List ℕ) (n : ℕ) → Meet (out a) (out b) by_a by_b → IsFront (rounds (out a) (out b) n).0 by_a × IsFront (rounds (out a) (out b) n).1 by_b
  fronts by_a by_b n meet = rounds_front (out a) (out b) (out_grows a) (out_grows b) by_a by_b meet n

  pub first_over : (by_a by_b : List ℕ) (n : ℕ) → Meet (out a) (out b) by_a by_b → IsOver (ending a (rounds (out a) (out b) n).1) → (by_a, by_b) ≡ rounds (out a) (out b) (suc n)
  unfolding rounds
  first_over by_a by_b n meet over =
      let read = (rounds (out a) (out b) n).1 in
      let first : by_a ≡ out a read = meet.left_writes ∙ out_over a read by_b (fronts by_a by_b n meet).1 over in
      ap₂ (λ x y. (x, y)) first (meet.right_writes ∙ ap (out b) first)

  pub second_over : (by_a by_b : List ℕ) (n : ℕ) → Meet (out a) (out b) by_a by_b → IsOver (ending b (rounds (out a) (out b) n).0) → (by_a, by_b) ≡ rounds (out a) (out b) (suc n)
  unfolding rounds run
  second_over by_a by_b zero meet over = absurd (over refl)
  second_over by_a by_b (suc n) meet over =
      let read = out a (rounds (out a) (out b) n).1 in
      let second : by_b ≡ out b read = meet.right_writes ∙ out_over b read by_a (fronts by_a by_b (suc n) meet).0 over in
      let first : by_a ≡ out a (out b read) = meet.left_writes ∙ ap (out a) second in
      ap₂ (λ x y. (x, y)) first (meet.right_writes ∙ ap (out b) first)

  pub they_meet : (n : ℕ) → IsOver (ending a (rounds (out a) (out b) n).1) → Meet (out a) (out b) (rounds (out a) (out b) (suc n)).0 (rounds (out a) (out b) (suc n)).1
  unfolding rounds
  they_meet n over = record {
    left_writes = sym (out_over a (rounds (out a) (out b) n).1 (rounds (out a) (out b) (suc n)).1 (rounds_grow (out a) (out b) (out_grows a) (out_grows b) n).1 over);
    right_writes = refl;
  }
