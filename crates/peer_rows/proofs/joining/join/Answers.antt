use Rattle.std.proofs.lemmas.Result.{err_from_is_err_and}
use Rattle.std.proofs.Common.{refl}
use Rattle.std.specs.Prelude.{Ok, Err}
use Rattle.peer_image.specs.Image.{image}
use Rattle.peer_stage.specs.declared.outcome.Done.TheVariants as done
use Rattle.peer_stage.proofs.Steps.{reads_and_writes, stops_writing, has_written}
use Rattle.peer_rows.specs.Join.{JoinsInput}
use Rattle.peer_rows.specs.Logged.{stored_rows}
use Rattle.peer_rows.proofs.Joined.{shown_framed, is_join}
use Rattle.peer_rows.proofs.joining.join.Goals as goal

pub write_image_of-requires : goal.write_image_of-requires
write_image_of-requires g c = shown_framed c.args.namespace.now (g.I.Source.facts c.args.input.now) (g.I.Source.facts c.read_log.new.input) c.in_ok-log.log c.store.result.now c.in_ok-log.ensures.logs c.store.ensures.live

pub returns-in_err-write_image_of : goal.returns-in_err-write_image_of
returns-in_err-write_image_of g c =
    let p = err_from_is_err_and c.from_residual-in_err-write_image_of.result c.from_residual-in_err-write_image_of.ensures.1 in
    let i = g.I.Source.facts c.args.input.now in
    let i' = g.I.Source.facts c.read_log.new.input in
    let o = g.O.Sink.facts c.args.output.now in
    let o' = g.O.Sink.facts c.write_image_of.new.output in
    let e = c.in_err-write_image_of.field-0.0 in
    let log = c.in_ok-log.log in
    let written = image c.args.namespace.now (stored_rows c.store.result.now) in
    rw (p.1, p.2) (λ others. reads_and_writes (JoinsInput c.args.namespace.now) (λ x. x.0) (λ x. done.Joined x.1) others i i' o o' (written, log.counts) (Err e) (is_join c.args.namespace.now i i' log c.store.result.now c.in_ok-log.ensures.logs c.store.ensures.live) c.in_ok-log.ensures.faults c.read_log.ensures.ends
    (stops_writing written written (done.Joined log.counts) o o' e refl c.in_err-write_image_of.ensures.writes) c.in_err-write_image_of.ensures.faults)

pub returns : goal.returns
returns g c =
    let i = g.I.Source.facts c.args.input.now in
    let i' = g.I.Source.facts c.read_log.new.input in
    let o = g.O.Sink.facts c.args.output.now in
    let o' = g.O.Sink.facts c.write_image_of.new.output in
    let log = c.in_ok-log.log in
    let written = image c.args.namespace.now (stored_rows c.store.result.now) in
    let is_done = done.Joined log.counts in
    λ others. reads_and_writes (JoinsInput c.args.namespace.now) (λ x. x.0) (λ x. done.Joined x.1) others i i' o o' (written, log.counts) (Ok is_done) (is_join c.args.namespace.now i i' log c.store.result.now c.in_ok-log.ensures.logs c.store.ensures.live) c.in_ok-log.ensures.faults c.read_log.ensures.ends
    (has_written written written is_done o o' refl c.in_ok-write_image_of.ensures.writes) c.in_ok-write_image_of.ensures.faults
