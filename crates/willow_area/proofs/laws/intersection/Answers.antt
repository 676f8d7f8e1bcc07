use Rattle.willow_area.proofs.Meeting.{meet_area-some, meet_area-none}
use Rattle.willow_area.proofs.laws.intersection.Goals as goal

pub returns : goal.returns
returns c = record { some = meet_area-some; none = meet_area-none }
