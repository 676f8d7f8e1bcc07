use Rattle.std.proofs.Common.{ap, sym, ◌∙◌}
use Rattle.peer_image.specs.Image.{place_in}
use Rattle.peer_image.proofs.TwoPlaces.{now_of, now_up, place_there}
use Rattle.peer_image.proofs.write.place_from.Goals as goal

pub returns-then-is_at : goal.returns-then-is_at
returns-then-is_at g c =
    let told = c.args.told.now in
    sym (place_there (now_of told) c.args.first c.capability_bytes-capability.result.now (now_up told c.requires.up) (c.is_at.ensures c.if-is_at.true)) ∙ ap (place_in (now_of told)) c.capability_bytes-capability.ensures.capability
