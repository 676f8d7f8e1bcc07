-- The two parts of a cut have what is below the point, and the rest.
use Rattle.std.proofs.Common.{◌≡◌, ℕ, Bool, true, false, not, ◌&&◌, List, Option, Some, None, Result, Ok, Err, nat_cmp, refl, ◌↔◌, IsTrue}
use Rattle.std.specs.Prelude.{IfOk}
use Rattle.std.specs.declared.cmp.Ordering.{Ordering}
use Rattle.std.specs.Ordering.{is_lt, is_le}
use Rattle.std.specs.Cmp.{IsTotalOrder}
use Rattle.std.proofs.lemmas.Cmp.{nat_cmp_total}
use Rattle.willow_path.specs.Path.{part_cmp, path_cmp}
use Rattle.willow_path.proofs.PathOrder.{part_cmp_total, path_cmp_total}
use Rattle.willow_area.specs.Range.{Range, in_range, is_before_end, is_inside, lower, upper}
use Rattle.willow_area.specs.Boxes.{Ranges, in_box}
use Rattle.willow_area.specs.Cuts.{can_cut, cut_refusal, lower_part, upper_part, is_below, HasWhatIsBelow, HasTheRest}
use Rattle.spelling.specs.Answers.{JudgesFirst, cause_if}
use Rattle.spelling.specs.declared.ending.End.{End}
use Rattle.willow_area.specs.declared.cut.CutOutside.{CutOutside}
use Rattle.willow_area.specs.declared.cut.CutAt.{CutAt}
use Rattle.willow_area.specs.declared.cut.CutAt.TheVariants.{Subspace, Path, Time}
use Rattle.willow_area.proofs.Membership.{both_of, and_of}
use Rattle.willow_area.proofs.Orders.{lt_then_lt, lt_then_le, at_least, not_below}

-- ---- a range

module _ {A : Type 0} (cmp : A → A → Ordering) (order : IsTotalOrder cmp) where
  before_on : (x point : A) (end : Option A) → is_lt (cmp x point) ≡ true → is_before_end cmp point end ≡ true → is_before_end cmp x end ≡ true
  before_on x point None h k = refl
  before_on x point (Some end) h k = lt_then_lt cmp order x point end h k

  lower_has : (range : Range A) (point x : A) → is_inside cmp range point ≡ true → (in_range cmp (lower range point) x ≡ true) ↔ ((in_range cmp range x ≡ true) × (is_lt (cmp x point) ≡ true))
  lower_has range point x inside =
      let i = both_of (is_lt (cmp range.start point)) (is_before_end cmp point range.end) inside in (
        (λ h.
            let p = both_of (is_le (cmp range.start x)) (is_lt (cmp x point)) h in
            (and_of (is_le (cmp range.start x)) (is_before_end cmp x range.end) p.0 (before_on x point range.end p.1 i.1), p.1)),
        (λ h.
            let p = both_of (is_le (cmp range.start x)) (is_before_end cmp x range.end) h.0 in
            and_of (is_le (cmp range.start x)) (is_lt (cmp x point)) p.0 h.1),
      )

  upper_has : (range : Range A) (point x : A) → is_inside cmp range point ≡ true → (in_range cmp (upper range point) x ≡ true) ↔ ((in_range cmp range x ≡ true) × (is_lt (cmp x point) ≡ false))
  upper_has range point x inside =
      let i = both_of (is_lt (cmp range.start point)) (is_before_end cmp point range.end) inside in (
        (λ h.
            let p = both_of (is_le (cmp point x)) (is_before_end cmp x range.end) h in
            (and_of (is_le (cmp range.start x)) (is_before_end cmp x range.end) (lt_then_le cmp order range.start point x i.0 p.0) p.1, not_below cmp order x point p.0)),
        (λ h.
            let p = both_of (is_le (cmp range.start x)) (is_before_end cmp x range.end) h.0 in
            and_of (is_le (cmp point x)) (is_before_end cmp x range.end) (at_least cmp order x point h.1) p.1),
      )

-- ---- a box

-- the three tests of a box
pub record PassesBox (ranges : Ranges) (subspace : List ℕ) (path : List (List ℕ)) (time : ℕ) : Type 0 where
  pub key_in : in_range part_cmp ranges.keys subspace ≡ true
  pub path_in : in_range path_cmp ranges.paths path ≡ true
  pub time_in : in_range nat_cmp ranges.times time ≡ true

pub passes_box : (ranges : Ranges) (subspace : List ℕ) (path : List (List ℕ)) (time : ℕ) → in_box ranges subspace path time ≡ true → PassesBox ranges subspace path time
unfolding in_box
passes_box ranges subspace path time h =
    let p = both_of (in_range part_cmp ranges.keys subspace) (in_range path_cmp ranges.paths path && in_range nat_cmp ranges.times time) h in
    let q = both_of (in_range path_cmp ranges.paths path) (in_range nat_cmp ranges.times time) p.1 in
    record { key_in = p.0; path_in = q.0; time_in = q.1 }

pub box_passes : (ranges : Ranges) (subspace : List ℕ) (path : List (List ℕ)) (time : ℕ) → PassesBox ranges subspace path time → in_box ranges subspace path time ≡ true
unfolding in_box
box_passes ranges subspace path time p =
    and_of (in_range part_cmp ranges.keys subspace) (in_range path_cmp ranges.paths path && in_range nat_cmp ranges.times time) p.key_in
    (and_of (in_range path_cmp ranges.paths path) (in_range nat_cmp ranges.times time) p.path_in p.time_in)

pub lower_part_has : (ranges : Ranges) (at : CutAt) → IsTrue (can_cut ranges at) → HasWhatIsBelow (lower_part ranges at) ranges at
unfolding can_cut lower_part is_below
lower_part_has ranges (Subspace key) can subspace path time =
    let m = lower_has part_cmp part_cmp_total ranges.keys key subspace can in
    let part : Ranges = record { keys = lower ranges.keys key; paths = ranges.paths; times = ranges.times } in (
      (λ h. let p = passes_box part subspace path time h in let k = m.0 p.key_in in
          (box_passes ranges subspace path time (record { key_in = k.0; path_in = p.path_in; time_in = p.time_in }), k.1)),
      (λ h. let p = passes_box ranges subspace path time h.0 in
          box_passes part subspace path time (record { key_in = m.1 (p.key_in, h.1); path_in = p.path_in; time_in = p.time_in })),
    )
lower_part_has ranges (Path point) can subspace path time =
    let m = lower_has path_cmp path_cmp_total ranges.paths point path can in
    let part : Ranges = record { keys = ranges.keys; paths = lower ranges.paths point; times = ranges.times } in (
      (λ h. let p = passes_box part subspace path time h in let k = m.0 p.path_in in
          (box_passes ranges subspace path time (record { key_in = p.key_in; path_in = k.0; time_in = p.time_in }), k.1)),
      (λ h. let p = passes_box ranges subspace path time h.0 in
          box_passes part subspace path time (record { key_in = p.key_in; path_in = m.1 (p.path_in, h.1); time_in = p.time_in })),
    )
lower_part_has ranges (Time point) can subspace path time =
    let m = lower_has nat_cmp nat_cmp_total ranges.times point time can in
    let part : Ranges = record { keys = ranges.keys; paths = ranges.paths; times = lower ranges.times point } in (
      (λ h. let p = passes_box part subspace path time h in let k = m.0 p.time_in in
          (box_passes ranges subspace path time (record { key_in = p.key_in; path_in = p.path_in; time_in = k.0 }), k.1)),
      (λ h. let p = passes_box ranges subspace path time h.0 in
          box_passes part subspace path time (record { key_in = p.key_in; path_in = p.path_in; time_in = m.1 (p.time_in, h.1) })),
    )

pub upper_part_has : (ranges : Ranges) (at : CutAt) → IsTrue (can_cut ranges at) → HasTheRest (upper_part ranges at) ranges at
unfolding can_cut upper_part is_below
upper_part_has ranges (Subspace key) can subspace path time =
    let m = upper_has part_cmp part_cmp_total ranges.keys key subspace can in
    let part : Ranges = record { keys = upper ranges.keys key; paths = ranges.paths; times = ranges.times } in (
      (λ h. let p = passes_box part subspace path time h in let k = m.0 p.key_in in
          (box_passes ranges subspace path time (record { key_in = k.0; path_in = p.path_in; time_in = p.time_in }), k.1)),
      (λ h. let p = passes_box ranges subspace path time h.0 in
          box_passes part subspace path time (record { key_in = m.1 (p.key_in, h.1); path_in = p.path_in; time_in = p.time_in })),
    )
upper_part_has ranges (Path point) can subspace path time =
    let m = upper_has path_cmp path_cmp_total ranges.paths point path can in
    let part : Ranges = record { keys = ranges.keys; paths = upper ranges.paths point; times = ranges.times } in (
      (λ h. let p = passes_box part subspace path time h in let k = m.0 p.path_in in
          (box_passes ranges subspace path time (record { key_in = p.key_in; path_in = k.0; time_in = p.time_in }), k.1)),
      (λ h. let p = passes_box ranges subspace path time h.0 in
          box_passes part subspace path time (record { key_in = p.key_in; path_in = m.1 (p.path_in, h.1); time_in = p.time_in })),
    )
upper_part_has ranges (Time point) can subspace path time =
    let m = upper_has nat_cmp nat_cmp_total ranges.times point time can in
    let part : Ranges = record { keys = ranges.keys; paths = ranges.paths; times = upper ranges.times point } in (
      (λ h. let p = passes_box part subspace path time h in let k = m.0 p.time_in in
          (box_passes ranges subspace path time (record { key_in = p.key_in; path_in = p.path_in; time_in = k.0 }), k.1)),
      (λ h. let p = passes_box ranges subspace path time h.0 in
          box_passes part subspace path time (record { key_in = p.key_in; path_in = p.path_in; time_in = m.1 (p.time_in, h.1) })),
    )

-- ---- what a call answers

can_where_none : (can : Bool) (e : CutOutside) → cause_if (not can) e ≡ None → can ≡ true
can_where_none true e h = refl
can_where_none false e h = absurd cc

pub answers_below : {T : Type 0} (part : T → Ranges) (ranges : Ranges) (at : CutAt) (answer : Result T (End CutOutside)) → JudgesFirst answer (cut_refusal ranges at)
    → IfOk answer (λ parts. part parts ≡ lower_part ranges at) → IfOk answer (λ parts. HasWhatIsBelow (part parts) ranges at)
answers_below part ranges at (Ok parts) h e = rw e (lower_part_has ranges at (can_where_none (can_cut ranges at) (record {}) h))
answers_below part ranges at (Err refusal) h e = tt

pub answers_rest : {T : Type 0} (part : T → Ranges) (ranges : Ranges) (at : CutAt) (answer : Result T (End CutOutside)) → JudgesFirst answer (cut_refusal ranges at)
    → IfOk answer (λ parts. part parts ≡ upper_part ranges at) → IfOk answer (λ parts. HasTheRest (part parts) ranges at)
answers_rest part ranges at (Ok parts) h e = rw e (upper_part_has ranges at (can_where_none (can_cut ranges at) (record {}) h))
answers_rest part ranges at (Err refusal) h e = tt
