use Rattle.willow_entry.proofs.Live.{live_same_members, live_permutation, live_alike}
use Rattle.willow_entry.proofs.laws.order_is_free.Goals as goal

pub returns-clause-members : goal.returns-clause-members
returns-clause-members c = live_same_members

pub returns-clause-permutation : goal.returns-clause-permutation
returns-clause-permutation c = live_permutation

pub returns-clause-covering : goal.returns-clause-covering
returns-clause-covering c = live_alike
