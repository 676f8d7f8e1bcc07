use Rattle.std.proofs.Common.{ℕ, List, All, take}
use Rattle.std.specs.List.{AllZip}
use Rattle.scheme_core.specs.Rules.{Rules}
use Rattle.auth_entry.specs.Standings.{IsStoodBy, IsSettled}
use Rattle.auth_entry.proofs.standing.all_settled.Given as goal

abbrev pub invariant-loop-row : goal.invariant-loop-row
invariant-loop-row l = (rules : Rules) (n : List ℕ) → All (IsStoodBy rules n l.causes) l.stood → AllZip (IsSettled rules n) (take l.row-index l.stood) l.pending.items
