use Rattle.std.proofs.Common.{◌≡◌, ◌++◌, map, sum, take}
use Rattle.auth_entry.specs.Authorised.{capability_refusal}
use Rattle.auth_entry.specs.Places.{carried}
use Rattle.auth_entry.proofs.together.put_causes_by.Given as goal

abbrev pub invariant-rows : goal.invariant-rows
invariant-rows g l = record {
  judged : l.causes.items ≡ l.fn.causes.items ++ map (capability_refusal g.S.Verify.rules) (carried (take l.at l.rows));
  from : l.from ≡ sum (take l.at l.counts);
}
