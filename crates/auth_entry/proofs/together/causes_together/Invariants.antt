use Rattle.std.proofs.Common.{◌≡◌, ◌-◌, ◌≤◌, length, map, take}
use Rattle.auth_entry.specs.Authorised.{capability_refusal}
use Rattle.auth_entry.specs.Places.{carried}
use Rattle.auth_entry.proofs.together.causes_together.Given as goal

abbrev pub invariant-groups : goal.invariant-groups
invariant-groups g l = record {
  judged : l.causes.items ≡ map (capability_refusal g.S.Verify.rules) (carried (take l.from l.rows));
  within : l.from ≤ length l.rows;
}

abbrev pub decreases-groups : goal.decreases-groups
decreases-groups g l = length l.rows - l.from
