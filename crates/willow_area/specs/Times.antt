-- Ranges of times.
use Rattle.std.specs.Prelude.{ℕ, ◌<◌, ◌^◌, max, min, Bool, true, false, ◌&&◌, Option, Some, None, IfSome, nat_le, if◌then◌else◌}
use Rattle.std.specs.Ordering.{nat_cmp}
use Rattle.willow_area.specs.Range.{Range, in_range}

-- a range of times
abbrev pub Times : Type 0
Times = Range ℕ

-- the range of times includes the time
abbrev pub in_times : Times → ℕ → Bool
in_times = in_range nat_cmp

-- numbers of 64 bits, the start below the end where there is one
pub record IsTimes (times : Times) : Type 0 where
  pub starts : times.start < 2 ^ 64
  pub ends : IfSome times.end (λ end. (times.start < end) × (end < 2 ^ 64))

-- the first end is not before the second
abbrev pub ends_later : Option ℕ → Option ℕ → Bool
ends_later None other = true
ends_later (Some end) None = false
ends_later (Some end) (Some other) = nat_le other end

-- each time of the second range is one of the first
abbrev pub includes_times : Times → Times → Bool
includes_times times other = nat_le times.start other.start && ends_later times.end other.end

-- the earlier of two ends
abbrev pub earlier_end : Option ℕ → Option ℕ → Option ℕ
earlier_end None other = other
earlier_end (Some end) None = Some end
earlier_end (Some end) (Some other) = Some (min end other)

-- whether a range that starts so is empty
abbrev pub ends_by : Option ℕ → ℕ → Bool
ends_by None start = false
ends_by (Some end) start = nat_le end start

-- the range of a start and an end, if it is not empty
abbrev pub times_of : ℕ → Option ℕ → Option Times
times_of start end = if ends_by end start then None else Some (record { start = start; end = end })

-- the times that both ranges have
abbrev pub meet_times : Times → Times → Option Times
meet_times times other = times_of (max times.start other.start) (earlier_end times.end other.end)
