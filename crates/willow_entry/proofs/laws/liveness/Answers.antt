use Rattle.std.proofs.lemmas.Map.Keys.{IsDistinct-from_sorted}
use Rattle.willow_entry.specs.Row.{place_cmp, live}
use Rattle.willow_entry.proofs.RowLaws.{IsLive-live, live-only}
use Rattle.willow_entry.proofs.Live.{live-live, live-rises}
use Rattle.willow_entry.proofs.laws.liveness.Goals as goal

pub returns-clause-holds : goal.returns-clause-holds
returns-clause-holds c = IsLive-live

pub returns-clause-only : goal.returns-clause-only
returns-clause-only c = live-only

pub returns-clause-settled : goal.returns-clause-settled
returns-clause-settled c = live-live

pub returns-clause-distinct : goal.returns-clause-distinct
returns-clause-distinct c = λ rows. IsDistinct-from_sorted place_cmp (live rows) (live-rises rows)
