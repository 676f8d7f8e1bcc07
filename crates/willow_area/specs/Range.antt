-- Ranges in an order: from a start on, and below an end where there is one.
use Rattle.std.specs.Prelude.{Bool, true, ◌&&◌, Option, Some, None, IsTrue}
use Rattle.std.specs.Ordering.{is_lt, is_le}
use Rattle.std.specs.declared.cmp.Ordering.{Ordering}

-- where a range starts, and where it ends, if it does
pub record Range (A : Type 0) : Type 0 where
  pub start : A
  pub end : Option A

-- below the end, where there is one
abbrev pub is_before_end : {A : Type 0} → (A → A → Ordering) → A → Option A → Bool
is_before_end cmp x None = true
is_before_end cmp x (Some end) = is_lt (cmp x end)

-- the range includes the value: it is at least the start, and below the end where there is one
abbrev pub in_range : {A : Type 0} → (A → A → Ordering) → Range A → A → Bool
in_range cmp range x = is_le (cmp range.start x) && is_before_end cmp x range.end

-- the start is below the end, where there is one
abbrev pub IsRising : {A : Type 0} → (A → A → Ordering) → Range A → Type 0
IsRising cmp range = IsTrue (is_before_end cmp range.start range.end)

-- the point is above the start of the range, and below its end
abbrev pub is_inside : {A : Type 0} → (A → A → Ordering) → Range A → A → Bool
is_inside cmp range point = is_lt (cmp range.start point) && is_before_end cmp point range.end

-- what is below the point
abbrev pub lower : {A : Type 0} → Range A → A → Range A
lower range point = record { start = range.start; end = Some point }

-- the point and what is above it
abbrev pub upper : {A : Type 0} → Range A → A → Range A
upper range point = record { start = point; end = range.end }
