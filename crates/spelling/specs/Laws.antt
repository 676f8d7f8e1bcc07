-- What the readers of numbers up to a limit mean.
use Rattle.std.specs.Prelude.{ℕ, ◌<◌, ◌≤◌}
use Rattle.std.specs.Int.{Width, to_be_bytes}
use Rattle.spelling.specs.Reader.{IsReader}
use Rattle.spelling.specs.Reading.{number_up_to}

-- whatever the limit is, the reader goes by the spellings of the numbers up to it
abbrev pub ReadsUpTo : Width → ℕ → Type 0
ReadsUpTo w top = (limit : ℕ) → limit < top → IsReader (number_up_to w limit) (to_be_bytes w) (λ n. n ≤ limit)
