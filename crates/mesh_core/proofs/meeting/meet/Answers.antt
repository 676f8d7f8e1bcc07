use Rattle.std.proofs.Common.{◌≡◌, List, Some, map, subst}
use Rattle.std.proofs.lemmas.Result.{on_ok_weaker}
use Rattle.willow_area.specs.AreaBox.{area_box}
use Rattle.willow_entry.specs.Row.{join}
use Rattle.cap_codec.specs.Rows.{RawValue, row_of}
use Rattle.exchange_rules.specs.Items.{to_left, to_right}
use Rattle.sync_pair.specs.Meeting.{meeting}
use Rattle.mesh_core.specs.Held.{nodes_of}
use Rattle.mesh_core.proofs.Meets.{room_right, room_left, left_live, both_took}
use Rattle.mesh_core.proofs.meeting.meet.Goals as goal

pub take_at-requires-clause-few : goal.take_at-requires-clause-few
take_at-requires-clause-few c =
    let a = c.args in
    let sent = c.in_ok-run.run'.to_right.items in
    room_right a.version a.stores.now.items a.left a.right c.requires.other a.area.now c.requires.generated sent
    (subst (λ (l : List (List RawValue)). map row_of sent ≡ to_right (meeting a.version (nodes_of l a.left) (nodes_of l a.right) (Some (area_box a.area.now)))) c.deref.ensures.value c.in_ok-run.ensures.to_right)

pub take_at-requires-2-clause-few : goal.take_at-requires-2-clause-few
take_at-requires-2-clause-few c =
    let a = c.args in
    let sent = c.in_ok-run.run'.to_left.items in
    let came = join (nodes_of a.stores.now.items a.right) (map row_of c.in_ok-run.run'.to_right.items) in
    room_left a.version a.stores.now.items a.left a.right c.requires.other a.area.now c.requires.generated c.take_at.new.stores.items came c.in_ok-take_at.ensures.set sent
    (subst (λ (l : List (List RawValue)). map row_of sent ≡ to_left (meeting a.version (nodes_of l a.left) (nodes_of l a.right) (Some (area_box a.area.now)))) c.deref.ensures.value c.in_ok-run.ensures.to_left)

pub take_at-requires-2-clause-live : goal.take_at-requires-2-clause-live
take_at-requires-2-clause-live c =
    let a = c.args in
    let came = join (nodes_of a.stores.now.items a.right) (map row_of c.in_ok-run.run'.to_right.items) in
    left_live a.version a.stores.now.items a.left a.right c.requires.other a.area.now c.requires.generated c.take_at.new.stores.items came c.in_ok-take_at.ensures.set

pub returns-clause-met : goal.returns-clause-met
returns-clause-met c =
    let a = c.args in
    let to_l = c.in_ok-run.run'.to_left.items in
    let to_r = c.in_ok-run.run'.to_right.items in
    let sent_left = subst (λ (l : List (List RawValue)). map row_of to_l ≡ to_left (meeting a.version (nodes_of l a.left) (nodes_of l a.right) (Some (area_box a.area.now)))) c.deref.ensures.value c.in_ok-run.ensures.to_left in
    let sent_right = subst (λ (l : List (List RawValue)). map row_of to_r ≡ to_right (meeting a.version (nodes_of l a.left) (nodes_of l a.right) (Some (area_box a.area.now)))) c.deref.ensures.value c.in_ok-run.ensures.to_right in
    on_ok_weaker c.take_at-2.result
    (λ is. both_took a.version a.stores.now.items a.left a.right c.requires.other a.area.now c.requires.generated c.take_at.new.stores.items c.take_at-2.new.stores.items to_l to_r sent_left sent_right c.in_ok-take_at.ensures.set is)
    c.take_at-2.ensures.set
