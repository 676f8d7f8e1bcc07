-- What a meeting got, the names held.
use Rattle.std.proofs.Common.{◌≡◌, ℕ, List, Option, Some, sym, ap, ◌∙◌, subst}
use Rattle.std.specs.Prelude.{Ok}
use Rattle.std.specs.Global.{Vec}
use Rattle.std.specs.String.{string_bytes}
use Rattle.std.specs.declared.string.String.{String}
use Rattle.std.specs.declared.alloc.Global.{Global}
use Rattle.willow_outside.specs.Facts.{Names}
use Rattle.willow_outside.specs.Names.{GetsName}
use Rattle.mc_cap.specs.declared.capability.Capability.{Capability}
use Rattle.peer_image.specs.declared.read.Image.{Image}
use Rattle.peer_stage.specs.Shelves.{GetsBytes}
use Rattle.peer_stage.specs.Steps.{OnShelf}
use Rattle.peer_stage.specs.World.{World}
use Rattle.peer_run.specs.Getting.{GetsImage, GetsCapability}
use Rattle.peer_run.specs.Meet.{Gathers}
use Rattle.peer_run.specs.PairDeeds.{HasImage, HoldsCapability}
use Rattle.peer_run.specs.declared.meeting.MeetWords.{MeetWords}
use Rattle.peer_run.specs.declared.meeting.Sides.{Sides}

-- no name was put, and nothing written
pub record LeavesAll (old new : World) : Type 0 where
  pub names : new.shelf.names ≡ old.shelf.names
  pub output : new.output ≡ old.output

leaves_both : (old between new : World) → LeavesAll old between → LeavesAll between new → LeavesAll old new
leaves_both old between new one other = record { names = other.names ∙ one.names; output = other.output ∙ one.output }

pub same_leaves : (old new : World) → new ≡ old → LeavesAll old new
same_leaves old new same = record { names = ap (λ (w : World). w.shelf.names) same; output = ap (λ (w : World). w.output) same }

-- ---- one name

-- the names held the bytes that were got
pub record WereHeld (name : String Global) (old new : World) (bytes : List ℕ) : Type 0 where
  pub held : GetsName old.shelf.names (string_bytes name) (Some bytes)
  pub leaves : LeavesAll old new

were_held : (name : String Global) (old new : World) (got : String Global × Vec ℕ) → OnShelf (GetsBytes name) old new (Ok got) → WereHeld name old new got.1.items
were_held name old new got s = record { held = s.does.1.0; leaves = record { names = s.does.1.1; output = ap (λ (w : World). w.output) s.others } }

pub record HadImage (name : String Global) (old new : World) (image : Image) : Type 0 where
  pub has : HasImage old.shelf.names (string_bytes name) image.namespace image.rows.items
  pub leaves : LeavesAll old new

had_image : (name : String Global) (old new : World) (image : Image) → GetsImage name old new (Ok image) → HadImage name old new image
had_image name old new image p =
    let got = were_held name old p.between p.value p.given in
    record {
      has = record { bytes = p.value.1.items; held = got.held; is_image = p.rest.0 };
      leaves = leaves_both old p.between new got.leaves (same_leaves p.between new p.rest.1);
    }

pub record HadCapability (name : String Global) (old new : World) (c : Capability) : Type 0 where
  pub holds : HoldsCapability old.shelf.names (string_bytes name) c
  pub leaves : LeavesAll old new

had_capability : (name : String Global) (old new : World) (c : Capability) → GetsCapability name old new (Ok c) → HadCapability name old new c
had_capability name old new c p =
    let got = were_held name old p.between p.value p.given in
    record {
      holds = record { bytes = p.value.1.items; held = got.held; spelled = p.rest.0 };
      leaves = leaves_both old p.between new got.leaves (same_leaves p.between new p.rest.1);
    }

-- ---- all four

-- the names held what was got
pub record WereGot (words : MeetWords) (told : Option Names) (s : Sides) : Type 0 where
  pub left : HasImage told (string_bytes words.left) s.left.namespace s.left.rows.items
  pub right : HasImage told (string_bytes words.right) s.right.namespace s.right.rows.items
  pub left_cap : HoldsCapability told (string_bytes words.left_cap) s.left_cap
  pub right_cap : HoldsCapability told (string_bytes words.right_cap) s.right_cap

pub record IsGathered (words : MeetWords) (old new : World) (s : Sides) : Type 0 where
  pub got : WereGot words old.shelf.names s
  pub leaves : LeavesAll old new

pub gathered : (words : MeetWords) (old new : World) (s : Sides) → Gathers words.left words.right words.left_cap words.right_cap old new (Ok s) → IsGathered words old new s
gathered words old new s p =
    let a = had_image words.left old p.between p.value p.given in
    let q = p.rest in
    let b = had_image words.right p.between q.between q.value q.given in
    let r = q.rest in
    let c = had_capability words.left_cap q.between r.between r.value r.given in
    let t = r.rest in
    let d = had_capability words.right_cap r.between t.between t.value t.given in
    let two = leaves_both old p.between q.between a.leaves b.leaves in
    let three = leaves_both old q.between r.between two c.leaves in
    let four = leaves_both old r.between t.between three d.leaves in
    record {
      got = subst (WereGot words old.shelf.names) (sym t.rest.0) (record {
        left = a.has;
        right = subst (λ (told : Option Names). HasImage told (string_bytes words.right) q.value.namespace q.value.rows.items) a.leaves.names b.has;
        left_cap = subst (λ (told : Option Names). HoldsCapability told (string_bytes words.left_cap) r.value) two.names c.holds;
        right_cap = subst (λ (told : Option Names). HoldsCapability told (string_bytes words.right_cap) t.value) three.names d.holds;
      });
      leaves = leaves_both old t.between new four (same_leaves t.between new t.rest.1);
    }
