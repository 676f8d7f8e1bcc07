use Rattle.sha_lanes.proofs.OfWindows.{AreAlike-four}
use Rattle.sha_lanes.proofs.messages.hash_beside.Goals as goal

pub digests_beside-made-requires : goal.digests_beside-made-requires
digests_beside-made-requires c = AreAlike-four _ _ _ _ c.requires.second.alike c.requires.third.alike c.requires.fourth.alike
