use Rattle.std.proofs.Common.{◌≡◌, Some, refl, sym, subst}
use Rattle.std.specs.Prelude.{IfOk, IsSome}
use Rattle.sync_msg.specs.Items.{item_value}
use Rattle.sync_core.specs.Held.{item_at}
use Rattle.sync_pair.proofs.TurnEnds.{is_said, says_made}
use Rattle.sync_pair.proofs.peer.Peer.say.Goals as goal

pub item_of-requires : goal.item_of-requires
item_of-requires g c =
    let item = c.in_ok-item.item in
    let place = c.args.self.now.side in
    let s = is_said place c.take_item.new.self (item_at place.rows item) c.in_ok-item.ensures.item c.in_ok-item.ensures.place in
    let there : IsSome (item_at place.rows item) = subst (λ o. IsSome o) (sym s.is) refl in
    subst (λ rows. IsSome (item_at rows item)) (sym s.rows) there

pub returns-clause-said : goal.returns-clause-said
returns-clause-said g c =
    let item = c.in_ok-item.item in
    let place = c.args.self.now.side in
    let value = item_value g.R.Row.value in
    let s = is_said place c.take_item.new.self (item_at place.rows item) c.in_ok-item.ensures.item c.in_ok-item.ensures.place in
    says_made value place c.take_item.new.self (item_at place.rows item) s c.item_of.result
    (subst (λ rows. IfOk c.item_of.result (λ made. item_at rows item ≡ Some (value made))) s.rows c.item_of.ensures)
