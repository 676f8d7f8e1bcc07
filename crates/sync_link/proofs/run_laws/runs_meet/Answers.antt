use Rattle.sync_link.proofs.MeetingRuns.{runs_meet}
use Rattle.sync_link.proofs.run_laws.runs_meet.Goals as goal

pub returns : goal.returns
returns c = λ p q one other can memory hears heard. runs_meet p q one other can memory hears heard
