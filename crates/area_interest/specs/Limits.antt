-- Limits on what is offered.
use Rattle.std.specs.Prelude.{◌≡◌, None}
use Rattle.area_interest.specs.declared.interest.Interest.{Interest}

-- nothing is limited
abbrev pub HasNoLimit : Interest → Type 0
HasNoLimit limits = (limits.newest ≡ None) × (limits.bytes ≡ None)
