use Rattle.sync_follow.proofs.FollowedOnce.{one_is_followed}
use Rattle.sync_follow.proofs.laws.one_is_followed.Goals as goal

pub returns : goal.returns
returns c = one_is_followed
