use Rattle.std.proofs.Common.{◌∙◌, sym}
use Rattle.std.specs.Cmp.Lexicographic.{bytes_decides}
use Rattle.peer_image.proofs.TwoPlaces.{last_among}
use Rattle.peer_image.proofs.write.ends_with.Goals as goal

pub returns-in-Some : goal.returns-in-Some
returns-in-Some c = λ same. last_among c.args.told.now c.in-Some.last.now c.args.capability.now c.in-Some.ensures.value ((bytes_decides c.in-Some.last.now.now c.args.capability.now).0 (sym c.eq.ensures ∙ same))
