-- What is known of the images that a meeting got.
use Rattle.std.proofs.Common.{ℕ, ◌<◌, ◌^◌, List, [], length, Option, None, sym, ap, subst}
use Rattle.std.specs.Prelude.{Ok}
use Rattle.std.specs.declared.string.String.{String}
use Rattle.std.specs.declared.alloc.Global.{Global}
use Rattle.willow_outside.specs.Facts.{Names}
use Rattle.cap_codec.specs.Rows.{RawValue}
use Rattle.peer_image.specs.declared.read.Image.{Image}
use Rattle.peer_image.proofs.Stops.{image_few, image_raw}
use Rattle.peer_stage.specs.World.{World}
use Rattle.peer_run.specs.Drill.{full_area}
use Rattle.peer_run.specs.Getting.{GetsImage}
use Rattle.peer_run.specs.ImagesMet.{IsImageOfRows}
use Rattle.peer_run.specs.Meet.{Gathers}
use Rattle.peer_run.specs.PairDeeds.{HasImage}
use Rattle.peer_run.specs.declared.meeting.Sides.{Sides}

-- objects that tell nothing
pub untold : World
untold =
    record {
      shelf = record { names = None; read_faults = 0; write_faults = 0 };
      input = record { left = None; faults = 0; ends = 0 };
      output = record { held = None; faults = 0 };
      report = record { held = None; faults = 0 };
      door = record { faults = 0; out = 0; asked = None; back = None; accepts = 0 };
      noise = record { draws = None; faults = 0 };
      hub = record { members = []; front = 0; area = full_area; added = 0 };
      bay = record { faults = 0; out = 0; names = None; asked = None; back = None };
    }

pub image_got : (name : String Global) (old new : World) (image : Image) → GetsImage name old new (Ok image) → IsImageOfRows image.rows.items
image_got name old new image gets =
    let is_image = gets.rest.0.is_image in
    record { fit = image_raw gets.value.1.items image.namespace image.rows.items is_image; count = image_few gets.value.1.items image.namespace image.rows.items is_image }

-- four bytes tell how many rows an image has that a name holds
pub held_few : (told : Option Names) (name namespace : List ℕ) (rows : List RawValue) → HasImage told name namespace rows → length rows < 2 ^ 32
held_few told name namespace rows has = image_few has.bytes namespace rows has.is_image.is_image

module _ (left right left_cap right_cap : String Global) (old new : World) (s : Sides) (gathers : Gathers left right left_cap right_cap old new (Ok s)) where
  pub left_got : IsImageOfRows s.left.rows.items
  left_got =
      subst (λ (image : Image). IsImageOfRows image.rows.items) (sym (ap (λ (t : Sides). t.left) gathers.rest.rest.rest.rest.0)) (image_got left old gathers.between gathers.value gathers.given)

  pub right_got : IsImageOfRows s.right.rows.items
  right_got =
      subst (λ (image : Image). IsImageOfRows image.rows.items) (sym (ap (λ (t : Sides). t.right) gathers.rest.rest.rest.rest.0)) (image_got right gathers.between gathers.rest.between gathers.rest.value gathers.rest.given)
