use Rattle.std.proofs.Common.{Err, inl, refl}
use Rattle.std.proofs.lemmas.Result.{err_from_is_err_and}
use Rattle.peer_stage.specs.World.{World}
use Rattle.peer_stage.proofs.Steps.{passes, inside_on}
use Rattle.peer_run.specs.ImagesMet.{MeetsImages}
use Rattle.peer_run.specs.Meet.{Agrees, Gathers}
use Rattle.peer_run.proofs.Agreed.{one_namespace}
use Rattle.peer_run.proofs.GotImages.{untold, left_got, right_got}
use Rattle.peer_run.proofs.meeting.meet.Goals as goal

pub meet_images-requires-clause-left_image : goal.meet_images-requires-clause-left_image
meet_images-requires-clause-left_image g c κs within =
    let words = c.args.words in
    left_got words.left words.right words.left_cap words.right_cap (record untold { shelf = g.H.Shelf.facts c.args.shelf.now }) (record untold { shelf = g.H.Shelf.facts c.gather.new.shelf }) c.in_ok-left.field-0 (c.in_ok-left.ensures untold)

pub meet_images-requires-clause-right_image : goal.meet_images-requires-clause-right_image
meet_images-requires-clause-right_image g c κs within =
    let words = c.args.words in
    right_got words.left words.right words.left_cap words.right_cap (record untold { shelf = g.H.Shelf.facts c.args.shelf.now }) (record untold { shelf = g.H.Shelf.facts c.gather.new.shelf }) c.in_ok-left.field-0 (c.in_ok-left.ensures untold)

pub meet_images-requires-clause-one_namespace : goal.meet_images-requires-clause-one_namespace
meet_images-requires-clause-one_namespace g c κs within =
    let s = c.in_ok-left.field-0 in
    one_namespace c.args.words.area s.left.namespace s.right.namespace s.left_cap s.right_cap c.in_ok-area.ensures.0

pub returns-in_err-left : goal.returns-in_err-left
returns-in_err-left g c =
    let p = err_from_is_err_and c.from_residual.result c.from_residual.ensures.1 in
    let o = g.O.Sink.facts c.args.output.now in
    rw (p.1, p.2) (λ others. inl (c.in_err-left.ensures (record others { output = o })))

pub returns-in_err-area : goal.returns-in_err-area
returns-in_err-area g c =
    let p = err_from_is_err_and c.from_residual-in_err-area.result c.from_residual-in_err-area.ensures.1 in
    let words = c.args.words in
    let h = g.H.Shelf.facts c.args.shelf.now in
    let h1 = g.H.Shelf.facts c.gather.new.shelf in
    let o = g.O.Sink.facts c.args.output.now in
    rw (p.1, p.2) (λ others. passes (Gathers words.left words.right words.left_cap words.right_cap) _ (record others { shelf = h; output = o }) (record others { shelf = h1; output = o }) (record others { shelf = h1; output = o })
    c.in_ok-left.field-0 (Err c.in_err-area.field-0.0) (c.in_ok-left.ensures (record others { output = o })) (inl (c.in_err-area.ensures, refl)))

pub returns-in_err-met : goal.returns-in_err-met
returns-in_err-met g c =
    let p = err_from_is_err_and c.from_residual-in_err-met.result c.from_residual-in_err-met.ensures.1 in
    let words = c.args.words in
    let s = c.in_ok-left.field-0 in
    let h = g.H.Shelf.facts c.args.shelf.now in
    let h1 = g.H.Shelf.facts c.gather.new.shelf in
    let o = g.O.Sink.facts c.args.output.now in
    let end = c.in_err-met.field-0.0 in
    rw (p.1, p.2) (λ others. passes (Gathers words.left words.right words.left_cap words.right_cap) _ (record others { shelf = h; output = o }) (record others { shelf = h1; output = o }) (record others { shelf = h1; output = o })
    s (Err end) (c.in_ok-left.ensures (record others { output = o }))
    (inside_on (Agrees words.area s.left.namespace s.right.namespace s.left_cap s.right_cap) _ (record others { shelf = h1; output = o }) (record others { shelf = h1; output = o }) c.in_ok-area.area (Err end) c.in_ok-area.ensures
    (inl (c.in_err-met.ensures, refl))))

pub returns : goal.returns
returns g c =
    let words = c.args.words in
    let s = c.in_ok-left.field-0 in
    let h = g.H.Shelf.facts c.args.shelf.now in
    let h1 = g.H.Shelf.facts c.gather.new.shelf in
    let h2 = g.H.Shelf.facts c.put_and_write.new.shelf in
    let o = g.O.Sink.facts c.args.output.now in
    let o1 = g.O.Sink.facts c.put_and_write.new.output in
    let end = c.put_and_write.result in
    λ others.
    let before : World = record others { shelf = h1; output = o } in
    let after : World = record others { shelf = h2; output = o1 } in
    passes (Gathers words.left words.right words.left_cap words.right_cap) _ (record others { shelf = h; output = o }) before after s end (c.in_ok-left.ensures (record others { output = o }))
    (inside_on (Agrees words.area s.left.namespace s.right.namespace s.left_cap s.right_cap) _ before after c.in_ok-area.area end c.in_ok-area.ensures
    (inside_on (MeetsImages s.left.namespace s.left.rows.items s.right.rows.items c.in_ok-area.area words.limits) _ before after c.in_ok-met.met end c.in_ok-met.ensures (c.put_and_write.ensures others)))
