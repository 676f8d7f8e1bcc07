use Rattle.std.proofs.Common.{Ok, Err, inl, refl}
use Rattle.std.proofs.lemmas.Result.{err_from_is_err_and}
use Rattle.peer_stage.proofs.Steps.{passes}
use Rattle.peer_run.specs.Getting.{GetsImage, GetsCapability}
use Rattle.peer_run.specs.declared.meeting.Sides.{Sides}
use Rattle.peer_run.proofs.meeting.gather.Goals as goal

pub returns-in_err-get_image-2 : goal.returns-in_err-get_image-2
returns-in_err-get_image-2 g c =
    let p = err_from_is_err_and c.from_residual-in_err-get_image-2.result c.from_residual-in_err-get_image-2.ensures.1 in
    let h = g.H.Shelf.facts c.args.shelf.now in
    let h1 = g.H.Shelf.facts c.get_image.new.shelf in
    let h2 = g.H.Shelf.facts c.get_image-2.new.shelf in
    let end = c.in_err-get_image-2.field-0.0 in
    rw (p.1, p.2) (λ others. passes (GetsImage c.args.left) _ (record others { shelf = h }) (record others { shelf = h1 }) (record others { shelf = h2 }) c.in_ok-get_image.field-0 (Err end) (c.in_ok-get_image.ensures others)
    (inl (c.in_err-get_image-2.ensures others)))

pub returns-in_err-get_capability : goal.returns-in_err-get_capability
returns-in_err-get_capability g c =
    let p = err_from_is_err_and c.from_residual-in_err-get_capability.result c.from_residual-in_err-get_capability.ensures.1 in
    let h = g.H.Shelf.facts c.args.shelf.now in
    let h1 = g.H.Shelf.facts c.get_image.new.shelf in
    let h2 = g.H.Shelf.facts c.get_image-2.new.shelf in
    let h3 = g.H.Shelf.facts c.get_capability.new.shelf in
    let end = c.in_err-get_capability.field-0.0 in
    rw (p.1, p.2) (λ others. passes (GetsImage c.args.left) _ (record others { shelf = h }) (record others { shelf = h1 }) (record others { shelf = h3 }) c.in_ok-get_image.field-0 (Err end) (c.in_ok-get_image.ensures others)
    (passes (GetsImage c.args.right) _ (record others { shelf = h1 }) (record others { shelf = h2 }) (record others { shelf = h3 }) c.in_ok-get_image-2.field-0 (Err end) (c.in_ok-get_image-2.ensures others)
    (inl (c.in_err-get_capability.ensures others))))

pub returns-in_err-get_capability-2 : goal.returns-in_err-get_capability-2
returns-in_err-get_capability-2 g c =
    let p = err_from_is_err_and c.from_residual-in_err-get_capability-2.result c.from_residual-in_err-get_capability-2.ensures.1 in
    let h = g.H.Shelf.facts c.args.shelf.now in
    let h1 = g.H.Shelf.facts c.get_image.new.shelf in
    let h2 = g.H.Shelf.facts c.get_image-2.new.shelf in
    let h3 = g.H.Shelf.facts c.get_capability.new.shelf in
    let h4 = g.H.Shelf.facts c.get_capability-2.new.shelf in
    let end = c.in_err-get_capability-2.field-0.0 in
    rw (p.1, p.2) (λ others. passes (GetsImage c.args.left) _ (record others { shelf = h }) (record others { shelf = h1 }) (record others { shelf = h4 }) c.in_ok-get_image.field-0 (Err end) (c.in_ok-get_image.ensures others)
    (passes (GetsImage c.args.right) _ (record others { shelf = h1 }) (record others { shelf = h2 }) (record others { shelf = h4 }) c.in_ok-get_image-2.field-0 (Err end) (c.in_ok-get_image-2.ensures others)
    (passes (GetsCapability c.args.left_cap) _ (record others { shelf = h2 }) (record others { shelf = h3 }) (record others { shelf = h4 }) c.in_ok-get_capability.field-0 (Err end) (c.in_ok-get_capability.ensures others)
    (inl (c.in_err-get_capability-2.ensures others)))))

pub returns : goal.returns
returns g c =
    let h = g.H.Shelf.facts c.args.shelf.now in
    let h1 = g.H.Shelf.facts c.get_image.new.shelf in
    let h2 = g.H.Shelf.facts c.get_image-2.new.shelf in
    let h3 = g.H.Shelf.facts c.get_capability.new.shelf in
    let h4 = g.H.Shelf.facts c.get_capability-2.new.shelf in
    let sides : Sides = record { left = c.in_ok-get_image.field-0; right = c.in_ok-get_image-2.field-0; left_cap = c.in_ok-get_capability.field-0; right_cap = c.in_ok-get_capability-2.field-0 } in
    λ others. passes (GetsImage c.args.left) _ (record others { shelf = h }) (record others { shelf = h1 }) (record others { shelf = h4 }) c.in_ok-get_image.field-0 (Ok sides) (c.in_ok-get_image.ensures others)
    (passes (GetsImage c.args.right) _ (record others { shelf = h1 }) (record others { shelf = h2 }) (record others { shelf = h4 }) c.in_ok-get_image-2.field-0 (Ok sides) (c.in_ok-get_image-2.ensures others)
    (passes (GetsCapability c.args.left_cap) _ (record others { shelf = h2 }) (record others { shelf = h3 }) (record others { shelf = h4 }) c.in_ok-get_capability.field-0 (Ok sides) (c.in_ok-get_capability.ensures others)
    (passes (GetsCapability c.args.right_cap) _ (record others { shelf = h3 }) (record others { shelf = h4 }) (record others { shelf = h4 }) c.in_ok-get_capability-2.field-0 (Ok sides) (c.in_ok-get_capability-2.ensures others)
    (refl, refl))))
