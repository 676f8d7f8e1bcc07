-- A count that is one more is that of a call that failed.
use Rattle.std.proofs.Common.{◌≡◌, ℕ, ◌^◌, ◌<◌, arith}
use Rattle.willow_outside.specs.Counts.{one_more, HasRisen}

pub has_risen : (before now : ℕ) → before < 2 ^ 64 → now ≡ one_more before → HasRisen before now
has_risen before now fits up = record { never_falls = omega (arith, fits, up); rose = omega (arith, up) }
