use Rattle.std.proofs.Common.{subst, sym}
use Rattle.std.specs.Prelude.{IsSomeAnd}
use Rattle.std.proofs.lemmas.Result.{on_ok_weaker}
use Rattle.sync_msg.specs.Items.{HasSpelling}
use Rattle.sync_core.specs.Held.{item_at}
use Rattle.sync_link.proofs.Speech.{IsSaid, is_said, said_spelled, says_on}
use Rattle.sync_core.proofs.OneByOne.{says_first}
use Rattle.sync_link.proofs.side.speak.say.Goals as goal

pub write_item-requires : goal.write_item-requires
write_item-requires g c =
    let old = c.args.core.now in
    let new = c.take_item.new.self in
    let named = item_at old.rows c.in_ok-item.item in
    let s = is_said old new named c.in_ok-item.ensures.item c.in_ok-item.ensures.place in
    subst (λ rows. IsSomeAnd (item_at rows c.in_ok-item.item) HasSpelling) (sym (says_first old new s.item s.step).rows) (said_spelled old new named c.requires.sound s)

pub returns : goal.returns
returns g c =
    let old = c.args.core.now in
    let new = c.take_item.new.self in
    let named = item_at new.rows c.in_ok-item.item in
    let first = is_said old new (item_at old.rows c.in_ok-item.item) c.in_ok-item.ensures.item c.in_ok-item.ensures.place in
    let s = subst (λ rows. IsSaid old new (item_at rows c.in_ok-item.item)) (sym (says_first old new first.item first.step).rows) first in
    on_ok_weaker c.write_item.result (says_on old new named c.args.out.now.items c.write_item.new.out.items c.requires.sound s) c.write_item.ensures
