use Rattle.std.proofs.Common.{rules, refl}
use Rattle.sync_follow.proofs.following.begin.Goals as goal

pub returns : goal.returns
returns c = record { place = refl; at = refl; held = search rules; tally = search rules; count = refl }
