-- A pass that met others of its cell: it has seen all that they have.
use Rattle.std.specs.Prelude.{◌≡◌, ℕ, ◌<◌, List, length, get_or}
use mathlib.Core.List.{IsPrefix}
use Rattle.ns_cell.specs.Passes.{PassValue, IsLater}

module _ {R : Type 0} where
  -- a pass met another, which is the same later: it has seen all that the other has, and that stored nothing
  pub record IsMet (own before after : PassValue R) : Type 0 where
    pub later : IsLater before after
    pub same_own : after.own ≡ before.own
    pub seen : IsPrefix after.seen own.seen

  -- a pass met all of these in order, each of which is the same later, and stored nothing
  pub record HasMetAll (before after : PassValue R) (olds news : List (PassValue R)) : Type 0 where
    pub later : IsLater before after
    pub own : after.own ≡ before.own
    pub as_many : length news ≡ length olds
    pub each : (at : ℕ) (old new : PassValue R) → at < length olds → IsMet after (get_or olds at old) (get_or news at new)
