use Rattle.willow_entry.proofs.Live.{live_early, live-new, covers_live_front, live_covers_live_front}
use Rattle.willow_entry.proofs.laws.pruning_early.Goals as goal

pub returns-clause-parts : goal.returns-clause-parts
returns-clause-parts c = live_early

pub returns-clause-new : goal.returns-clause-new
returns-clause-new c = live-new

pub returns-clause-front : goal.returns-clause-front
returns-clause-front c = covers_live_front

pub returns-clause-live_front : goal.returns-clause-live_front
returns-clause-live_front c = live_covers_live_front
