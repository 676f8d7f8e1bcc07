use Rattle.willow_path.proofs.PathBytes.{AreOfPath-empty, parts_of-empty}
use Rattle.willow_path.proofs.PathLimits.{IsPath-empty}
use Rattle.willow_path.proofs.path.Path.empty.Goals as goal

pub invariant_of-result : goal.invariant_of-result
invariant_of-result c = rw c.new.ensures.items AreOfPath-empty

pub returns-clause-empty : goal.returns-clause-empty
returns-clause-empty c = rw c.new.ensures.items parts_of-empty

pub returns-clause-path : goal.returns-clause-path
returns-clause-path c = rw (c.new.ensures.items, parts_of-empty) IsPath-empty
