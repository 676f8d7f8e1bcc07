-- A meeting of two nodes, in stores.
use Rattle.std.proofs.Common.{◌≡◌, ◌≢◌, ℕ, ◌+◌, ◌<◌, List, map, length, Some, sym, ap, subst, arith}
use Rattle.std.proofs.lemmas.List.{length-map}
use Rattle.willow_area.specs.AreaBox.{area_box}
use Rattle.willow_area.specs.declared.area.Area.{Area}
use Rattle.willow_entry.specs.Row.{RowValue, AreLive, join}
use Rattle.cap_codec.specs.Rows.{RawValue, row_of}
use Rattle.exchange_rules.specs.Items.{to_left, to_right}
use Rattle.sync_pair.specs.Meeting.{meeting}
use Rattle.mesh_rules.specs.Events.{Meet, after_event}
use Rattle.mesh_core.specs.Exchanging.{exchanging}
use Rattle.mesh_core.specs.Generated.{HoldGenerated}
use Rattle.mesh_core.specs.Held.{nodes_of, IsNodeSet}
use Rattle.mesh_core.proofs.Rooms.{few_rows, few_left, few_right}
use Rattle.mesh_core.proofs.Stores.{met}

module _ (version : ℕ) (old : List (List RawValue)) (left right : ℕ) (other : left ≢ right) (area : Area) (hold : HoldGenerated (nodes_of old)) where
  abbrev lefts : List RowValue
  lefts = to_left (meeting version (nodes_of old left) (nodes_of old right) (Some (area_box area)))

  abbrev rights : List RowValue
  rights = to_right (meeting version (nodes_of old left) (nodes_of old right) (Some (area_box area)))

  -- there is room for what comes to the right one
  pub room_right : (rows : List RawValue) → map row_of rows ≡ rights → length (nodes_of old right) + length rows < 4294967296
  room_right rows is = omega (
    arith,
    few_rows (nodes_of old right) (hold.generated right) (hold.live right),
    few_right version (nodes_of old left) (nodes_of old right) (area_box area) (hold.generated left) (hold.generated right) (hold.live left) (hold.live right),
    ap length is,
    length-map rows row_of,
  )

  module _ (one : List (List RawValue)) (came : List RowValue) (first : IsNodeSet old right came one) where
    -- and then to the left one
    pub room_left : (rows : List RawValue) → map row_of rows ≡ lefts → length (nodes_of one left) + length rows < 4294967296
    room_left rows is = omega (
      arith,
      few_rows (nodes_of old left) (hold.generated left) (hold.live left),
      few_left version (nodes_of old left) (nodes_of old right) (area_box area) (hold.generated left) (hold.generated right) (hold.live left) (hold.live right),
      ap length is,
      length-map rows row_of,
      ap length (first.others left other),
    )

    pub left_live : AreLive (nodes_of one left)
    left_live = subst AreLive (sym (first.others left other)) (hold.live left)

  -- both take what came
  pub both_took : (one new : List (List RawValue)) (sent_left sent_right : List RawValue) → map row_of sent_left ≡ lefts → map row_of sent_right ≡ rights
      → IsNodeSet old right (join (nodes_of old right) (map row_of sent_right)) one → IsNodeSet one left (join (nodes_of one left) (map row_of sent_left)) new
      → nodes_of new ≡ after_event (exchanging version) (nodes_of old) (Meet left right area)
  both_took one new sent_left sent_right is_left is_right first second =
      met version old one new left right area
      (subst (λ l. IsNodeSet old right (join (nodes_of old right) l) one) is_right first)
      (subst (λ l. IsNodeSet one left (join (nodes_of old left) l) new) is_left (subst (λ l. IsNodeSet one left (join l (map row_of sent_left)) new) (first.others left other) second))
