use Rattle.std.proofs.Common.{Ok, Err, List, ℕ, ◌∙◌, inl, refl, subst}
use Rattle.std.proofs.lemmas.Result.{err_from_is_err_and}
use Rattle.mc_cap.specs.Messages.{handover}
use Rattle.peer_stage.proofs.Steps.{input_on, inside_on, shelf_on}
use Rattle.peer_make.specs.Signing.{Signs}
use Rattle.peer_make.specs.Reading.{ReadsOne}
use Rattle.peer_make.specs.Delegating.{Asks}
use Rattle.peer_make.proofs.delegating.delegate.Goals as goal

pub returns-in_err-area : goal.returns-in_err-area
returns-in_err-area g c =
    let p = err_from_is_err_and c.from_residual-in_err-area.result c.from_residual-in_err-area.ensures.1 in
    let h = g.H.Shelf.facts c.args.shelf.now in
    let i = g.I.Source.facts c.args.input.now in
    let i1 = g.I.Source.facts c.read_one.new.input in
    let o = g.O.Sink.facts c.args.output.now in
    rw (p.1, p.2) (λ others. input_on ReadsOne _ (record others { shelf = h; output = o }) i i1 (record others { shelf = h; input = i1; output = o }) c.in_ok-capability.capability (Err c.in_err-area.field-0.0)
    c.in_ok-capability.ensures.reads c.in_ok-capability.ensures.input_faults c.read_one.ensures.input_ends (inl (c.in_err-area.ensures, refl)))

pub returns-in_err-signature : goal.returns-in_err-signature
returns-in_err-signature g c =
    let p = err_from_is_err_and c.from_residual-in_err-signature.result c.from_residual-in_err-signature.ensures.1 in
    let h = g.H.Shelf.facts c.args.shelf.now in
    let h1 = g.H.Shelf.facts c.sign_with.new.shelf in
    let i = g.I.Source.facts c.args.input.now in
    let i1 = g.I.Source.facts c.read_one.new.input in
    let o = g.O.Sink.facts c.args.output.now in
    let e = c.in_err-signature.field-0.0 in
    rw (p.1, p.2) (λ others. input_on ReadsOne _ (record others { shelf = h; output = o }) i i1 (record others { shelf = h1; input = i1; output = o }) c.in_ok-capability.capability (Err e)
    c.in_ok-capability.ensures.reads c.in_ok-capability.ensures.input_faults c.read_one.ensures.input_ends
    (inside_on (Asks c.args.area c.in_ok-capability.capability) _ (record others { shelf = h; input = i1; output = o }) (record others { shelf = h1; input = i1; output = o }) c.in_ok-area.area (Err e) c.in_ok-area.ensures
    (inl (record { does = c.in_err-signature.ensures.signs; read_faults = c.in_err-signature.ensures.read_faults; write_faults = c.in_err-signature.ensures.write_faults; others = refl }))))

pub returns : goal.returns
returns g c =
    let h = g.H.Shelf.facts c.args.shelf.now in
    let h1 = g.H.Shelf.facts c.sign_with.new.shelf in
    let i = g.I.Source.facts c.args.input.now in
    let i1 = g.I.Source.facts c.read_one.new.input in
    let o = g.O.Sink.facts c.args.output.now in
    let o1 = g.O.Sink.facts c.tell_longer.new.output in
    let end = c.tell_longer.result in
    let message = handover c.in_ok-capability.capability c.in_ok-area.area c.args.to in
    let signs = subst (λ (m : List ℕ). Signs c.args.key m h h1 (Ok c.in_ok-signature.signature)) (c.deref.ensures.value ∙ c.in_ok-message.ensures) c.in_ok-signature.ensures.signs in
    λ others. input_on ReadsOne _ (record others { shelf = h; output = o }) i i1 (record others { shelf = h1; input = i1; output = o1 }) c.in_ok-capability.capability end
    c.in_ok-capability.ensures.reads c.in_ok-capability.ensures.input_faults c.read_one.ensures.input_ends
    (inside_on (Asks c.args.area c.in_ok-capability.capability) _ (record others { shelf = h; input = i1; output = o }) (record others { shelf = h1; input = i1; output = o1 }) c.in_ok-area.area end c.in_ok-area.ensures
    (shelf_on (Signs c.args.key message) _ (record others { input = i1; output = o }) h h1 (record others { shelf = h1; input = i1; output = o1 }) c.in_ok-signature.signature end
    signs c.in_ok-signature.ensures.read_faults c.in_ok-signature.ensures.write_faults (c.tell_longer.ensures (record others { shelf = h1; input = i1 }))))
