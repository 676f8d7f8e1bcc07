use Rattle.std.proofs.Common.{◌≡◌, ◌<◌, length, All}
use Rattle.sha_lanes.specs.Windows.{IsBeside}
use Rattle.sha_lanes.proofs.messages.beside.Given as goal

abbrev pub invariant-search : goal.invariant-search
invariant-search s = All (IsBeside s.messages s.first) s.places × (length s.places ≡ 3) × (s.found < 3)
