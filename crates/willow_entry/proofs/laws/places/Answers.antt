use Rattle.willow_entry.proofs.Ranks.{place_total, place-in_one_namespace}
use Rattle.willow_entry.proofs.laws.places.Goals as goal

pub returns-clause-total : goal.returns-clause-total
returns-clause-total c = place_total

pub returns-clause-in_one_namespace : goal.returns-clause-in_one_namespace
returns-clause-in_one_namespace c = place-in_one_namespace
