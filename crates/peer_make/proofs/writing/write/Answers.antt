use Rattle.std.proofs.Common.{rules, Ok, Err, List, ℕ, ◌≡◌, ◌∙◌, ap, inl, refl, subst}
use Rattle.std.proofs.lemmas.Result.{err_from_is_err_and}
use Rattle.cap_codec.specs.Rows.{RawValue}
use Rattle.willow_entry.specs.Message.{entry_message}
use Rattle.peer_stage.specs.World.{World}
use Rattle.peer_stage.specs.declared.outcome.Stop.TheVariants as stop
use Rattle.peer_stage.proofs.Steps.{input_on, shelf_on}
use Rattle.peer_make.specs.Signing.{Signs}
use Rattle.peer_make.specs.Reading.{ReadsOne}
use Rattle.peer_make.specs.Writing.{EntryWords, entry_under, TellsRow}
use Rattle.peer_make.proofs.Written.{made_row}
use Rattle.peer_make.proofs.writing.write.Goals as goal

pub returns-in_err-signature : goal.returns-in_err-signature
returns-in_err-signature g c =
    let p = err_from_is_err_and c.from_residual-in_err-signature.result c.from_residual-in_err-signature.ensures.1 in
    let h = g.H.Shelf.facts c.args.shelf.now in
    let h1 = g.H.Shelf.facts c.sign_with.new.shelf in
    let i = g.I.Source.facts c.args.input.now in
    let i1 = g.I.Source.facts c.read_one.new.input in
    let o = g.O.Sink.facts c.args.output.now in
    let e = c.in_err-signature.field-0.0 in
    rw (p.1, p.2) (λ others. input_on ReadsOne _ (record others { shelf = h; output = o }) i i1 (record others { shelf = h1; input = i1; output = o }) c.in_ok-capability.capability (Err e)
    c.in_ok-capability.ensures.reads c.in_ok-capability.ensures.input_faults c.read_one.ensures.input_ends
    (inl (record { does = c.in_err-signature.ensures.signs; read_faults = c.in_err-signature.ensures.read_faults; write_faults = c.in_err-signature.ensures.write_faults; others = refl })))

pub returns-in_err-row : goal.returns-in_err-row
returns-in_err-row g c =
    let p = err_from_is_err_and c.from_residual-in_err-row.result c.from_residual-in_err-row.ensures.1 in
    let words : EntryWords = record { path = c.args.path; time = c.args.time; payload_length = c.args.length; digest = c.args.digest; subspace = c.args.subspace } in
    let h = g.H.Shelf.facts c.args.shelf.now in
    let h1 = g.H.Shelf.facts c.sign_with.new.shelf in
    let i = g.I.Source.facts c.args.input.now in
    let i1 = g.I.Source.facts c.read_one.new.input in
    let o = g.O.Sink.facts c.args.output.now in
    let message = entry_message (entry_under words c.in_ok-capability.capability) in
    let is_message : c.deref.result.now ≡ message = c.deref.ensures.value ∙ c.in_ok-message.ensures ∙ ap entry_message (search rules) in
    let signs = subst (λ (m : List ℕ). Signs c.args.key m h h1 (Ok c.in_ok-signature.signature)) is_message c.in_ok-signature.ensures.signs in
    rw (p.1, p.2) (λ others. input_on ReadsOne _ (record others { shelf = h; output = o }) i i1 (record others { shelf = h1; input = i1; output = o }) c.in_ok-capability.capability (Err stop.NoMemory)
    c.in_ok-capability.ensures.reads c.in_ok-capability.ensures.input_faults c.read_one.ensures.input_ends
    (shelf_on (Signs c.args.key message) _ (record others { input = i1; output = o }) h h1 (record others { shelf = h1; input = i1; output = o }) c.in_ok-signature.signature (Err stop.NoMemory)
    signs c.in_ok-signature.ensures.read_faults c.in_ok-signature.ensures.write_faults (inl (tt, refl))))

pub returns : goal.returns
returns g c =
    let words : EntryWords = record { path = c.args.path; time = c.args.time; payload_length = c.args.length; digest = c.args.digest; subspace = c.args.subspace } in
    let capability = c.in_ok-capability.capability in
    let signature = c.in_ok-signature.signature in
    let h = g.H.Shelf.facts c.args.shelf.now in
    let h1 = g.H.Shelf.facts c.sign_with.new.shelf in
    let i = g.I.Source.facts c.args.input.now in
    let i1 = g.I.Source.facts c.read_one.new.input in
    let o = g.O.Sink.facts c.args.output.now in
    let o1 = g.O.Sink.facts c.tell_row.new.output in
    let end = c.tell_row.result in
    let message = entry_message (entry_under words capability) in
    let is_message : c.deref.result.now ≡ message = c.deref.ensures.value ∙ c.in_ok-message.ensures ∙ ap entry_message (search rules) in
    let is_entry : c.in_ok-row.row.entry ≡ entry_under words capability = search rules in
    let is_row = made_row words capability signature c.in_ok-row.row is_entry c.in_ok-row.ensures.token in
    let signs = subst (λ (m : List ℕ). Signs c.args.key m h h1 (Ok signature)) is_message c.in_ok-signature.ensures.signs in
    λ others.
    let before : World = record others { shelf = h1; input = i1; output = o } in
    let new : World = record others { shelf = h1; input = i1; output = o1 } in
    input_on ReadsOne _ (record others { shelf = h; output = o }) i i1 new capability end
    c.in_ok-capability.ensures.reads c.in_ok-capability.ensures.input_faults c.read_one.ensures.input_ends
    (shelf_on (Signs c.args.key message) _ (record others { input = i1; output = o }) h h1 new signature end
    signs c.in_ok-signature.ensures.read_faults c.in_ok-signature.ensures.write_faults
    (subst (λ (r : RawValue). TellsRow r before new end) is_row (c.tell_row.ensures (record others { shelf = h1; input = i1 }))))
