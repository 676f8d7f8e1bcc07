use Rattle.sync_follow.proofs.Followed.{following_covers}
use Rattle.sync_follow.proofs.laws.following_covers.Goals as goal

pub returns : goal.returns
returns g c = λ r f row is inside. following_covers r f row is inside
