-- How a box is cut in two at a point of one of its ranges.
use Rattle.std.specs.Prelude.{◌≡◌, ◌↔◌, ℕ, Bool, false, List, Option, IsTrue, not}
use Rattle.std.specs.Ordering.{is_lt, nat_cmp}
use Rattle.spelling.specs.Answers.{cause_if}
use Rattle.willow_path.specs.Path.{part_cmp, path_cmp}
use Rattle.willow_area.specs.Range.{is_inside, lower, upper}
use Rattle.willow_area.specs.Boxes.{Ranges, in_box}
use Rattle.willow_area.specs.declared.cut.CutAt.{CutAt}
use Rattle.willow_area.specs.declared.cut.CutAt.TheVariants.{Subspace, Path, Time}
use Rattle.willow_area.specs.declared.cut.CutOutside.{CutOutside}

-- the point is inside its range
unfoldable pub can_cut : Ranges → CutAt → Bool
can_cut ranges (Subspace key) = is_inside part_cmp ranges.keys key
can_cut ranges (Path path) = is_inside path_cmp ranges.paths path
can_cut ranges (Time time) = is_inside nat_cmp ranges.times time

-- why the box cannot be cut there
abbrev pub cut_refusal : Ranges → CutAt → Option CutOutside
cut_refusal ranges at = cause_if (not (can_cut ranges at)) (record {})

-- the part below the point
unfoldable pub lower_part : Ranges → CutAt → Ranges
lower_part ranges (Subspace key) = record { keys = lower ranges.keys key; paths = ranges.paths; times = ranges.times }
lower_part ranges (Path path) = record { keys = ranges.keys; paths = lower ranges.paths path; times = ranges.times }
lower_part ranges (Time time) = record { keys = ranges.keys; paths = ranges.paths; times = lower ranges.times time }

-- the part from the point on
unfoldable pub upper_part : Ranges → CutAt → Ranges
upper_part ranges (Subspace key) = record { keys = upper ranges.keys key; paths = ranges.paths; times = ranges.times }
upper_part ranges (Path path) = record { keys = ranges.keys; paths = upper ranges.paths path; times = ranges.times }
upper_part ranges (Time time) = record { keys = ranges.keys; paths = ranges.paths; times = upper ranges.times time }

-- the triple is below the point
unfoldable pub is_below : CutAt → List ℕ → List (List ℕ) → ℕ → Bool
is_below (Subspace key) subspace path time = is_lt (part_cmp subspace key)
is_below (Path point) subspace path time = is_lt (path_cmp path point)
is_below (Time point) subspace path time = is_lt (nat_cmp time point)

-- the part has exactly the triples of the box that are below the point
abbrev pub HasWhatIsBelow : Ranges → Ranges → CutAt → Type 0
HasWhatIsBelow part ranges at = (subspace : List ℕ) (path : List (List ℕ)) (time : ℕ) → IsTrue (in_box part subspace path time) ↔ (IsTrue (in_box ranges subspace path time) × IsTrue (is_below at subspace path time))

-- the part has exactly the triples of the box that are not below the point
abbrev pub HasTheRest : Ranges → Ranges → CutAt → Type 0
HasTheRest part ranges at = (subspace : List ℕ) (path : List (List ℕ)) (time : ℕ) → IsTrue (in_box part subspace path time) ↔ (IsTrue (in_box ranges subspace path time) × (is_below at subspace path time ≡ false))
