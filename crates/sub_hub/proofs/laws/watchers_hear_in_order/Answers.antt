use Rattle.sub_hub.proofs.Keys.{watchers_hear}
use Rattle.sub_hub.proofs.laws.watchers_hear_in_order.Goals as goal

pub returns : goal.returns
returns c = watchers_hear
