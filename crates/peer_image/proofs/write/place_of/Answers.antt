use Rattle.std.proofs.Common.{◌≡◌, List, ℕ, length, sym, ◌∙◌, arith}
use Rattle.std.proofs.lemmas.List.{length-map}
use Rattle.peer_image.specs.Image.{place_in}
use Rattle.peer_image.proofs.TwoPlaces.{Text, found_at, not_found, now_of, place_none}
use Rattle.peer_image.proofs.write.place_of.Goals as goal

pub returns-in-Ok : goal.returns-in-Ok
returns-in-Ok c = sym (found_at c.args.told.now c.args.capability c.in-Ok.at c.requires.up c.in-Ok.ensures.position (omega (arith, c.in-Ok.ensures.bound)))

pub returns-in-Err : goal.returns-in-Err
returns-in-Err c =
    let told = c.args.told.now in
    let text = c.args.capability in
    let none : place_in (now_of told) text.now ≡ length (now_of told) = place_none (now_of told) text.now (not_found told text c.in-Err.field-0 c.requires.up c.in-Err.ensures.position) in
    let now : Text → List ℕ = λ x. x.now in
    sym (length-map told now) ∙ sym none
