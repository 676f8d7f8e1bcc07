use Rattle.std.proofs.Common.{Ok, Err, ◌≡◌, ◌∙◌, ap, refl, subst}
use Rattle.std.proofs.lemmas.Result.{err_from_is_err_and}
use Rattle.willow_entry.specs.Frame.{row_frame}
use Rattle.cap_codec.specs.Rows.{FitsFrame, row_of, frame}
use Rattle.peer_stage.specs.declared.outcome.Done.TheVariants as done
use Rattle.peer_stage.proofs.Steps.{inside_on, stops_writing, has_written}
use Rattle.peer_make.specs.Writing.{Authorises}
use Rattle.peer_make.proofs.Written.{body_fits, frame_is}
use Rattle.peer_make.proofs.writing.tell_row.Goals as goal

pub encode_row_frame-requires : goal.encode_row_frame-requires
encode_row_frame-requires g c = body_fits c.row.result.now (rw c.row.ensures.row c.row.ensures.fits)

pub returns-in_err-write_output : goal.returns-in_err-write_output
returns-in_err-write_output g c =
    let p = err_from_is_err_and c.from_residual-in_err-write_output.result c.from_residual-in_err-write_output.ensures.1 in
    let o = g.O.Sink.facts c.args.output.now in
    let o1 = g.O.Sink.facts c.write_output.new.output in
    let e = c.in_err-write_output.field-0.0 in
    let fits = subst FitsFrame c.in-Ok.ensures.row c.row.ensures.fits in
    let fine = rw c.token.ensures.token at c.in-Ok.ensures.answer in
    let same : c.deref.result.now ≡ frame c.args.row = c.deref.ensures.value ∙ (rw c.new-text.ensures.items at c.in_ok-encode_row_frame.ensures.spelled) ∙ ap (λ r. row_frame (row_of r)) (c.row.ensures.row ∙ c.in-Ok.ensures.row) ∙ frame_is c.args.row in
    rw (p.1, p.2) (λ others. inside_on (Authorises c.args.row) _ (record others { output = o }) (record others { output = o1 }) tt (Err e) (fits, fine)
    (record { does = stops_writing (frame c.args.row) c.deref.result.now done.Made o o1 e same c.in_err-write_output.ensures.writes; faults = c.in_err-write_output.ensures.faults; others = refl }))

pub returns : goal.returns
returns g c =
    let o = g.O.Sink.facts c.args.output.now in
    let o1 = g.O.Sink.facts c.write_output.new.output in
    let fits = subst FitsFrame c.in-Ok.ensures.row c.row.ensures.fits in
    let fine = rw c.token.ensures.token at c.in-Ok.ensures.answer in
    let same : c.deref.result.now ≡ frame c.args.row = c.deref.ensures.value ∙ (rw c.new-text.ensures.items at c.in_ok-encode_row_frame.ensures.spelled) ∙ ap (λ r. row_frame (row_of r)) (c.row.ensures.row ∙ c.in-Ok.ensures.row) ∙ frame_is c.args.row in
    λ others. inside_on (Authorises c.args.row) _ (record others { output = o }) (record others { output = o1 }) tt (Ok done.Made) (fits, fine)
    (record { does = has_written (frame c.args.row) c.deref.result.now done.Made o o1 same c.in_ok-write_output.ensures.writes; faults = c.in_ok-write_output.ensures.faults; others = refl })
