use Rattle.std.proofs.Common.{◌∙◌, sym}
use Rattle.std.specs.Cmp.Lexicographic.{bytes_decides}
use Rattle.peer_image.proofs.TwoPlaces.{stands_at}
use Rattle.peer_image.proofs.write.is_at.Goals as goal

pub returns-in-Some : goal.returns-in-Some
returns-in-Some c = λ same.
    let there = c.in-Some.there.now in
    let look = c.in-Some.ensures.lookup in
    stands_at c.args.told.now c.args.place there c.args.capability.now look.3.0 look.1 ((bytes_decides there.now c.args.capability.now).0 (sym c.eq.ensures ∙ same))
