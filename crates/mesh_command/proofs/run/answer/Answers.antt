use Rattle.std.proofs.lemmas.Result.{err_from_is_err_and}
use Rattle.std.specs.Prelude.{Ok, Err}
use Rattle.peer_stage.specs.declared.outcome.Done.TheVariants as done
use Rattle.peer_stage.proofs.Steps.{reads_and_writes, stops_writing, has_written}
use Rattle.mesh_command.specs.Runs.{AnswersInput}
use Rattle.mesh_command.proofs.run.answer.Goals as goal

pub returns-in_err-write_output : goal.returns-in_err-write_output
returns-in_err-write_output g c =
    let p = err_from_is_err_and c.from_residual-in_err-write_output.result c.from_residual-in_err-write_output.ensures.1 in
    let o = g.O.Sink.facts c.args.output.now in
    let o' = g.O.Sink.facts c.write_output.new.output in
    let e = c.in_err-write_output.field-0.0 in
    rw (p.1, p.2) (λ others. reads_and_writes (AnswersInput g.M.MeshStores.rules) (λ x. x.items) (λ x. done.Made) others (g.I.Source.facts c.args.input.now) (g.I.Source.facts c.answer_input.new.input) o o'
    c.in_ok-text.text (Err e) c.in_ok-text.ensures.answers c.in_ok-text.ensures.faults c.answer_input.ensures.ends
    (stops_writing c.in_ok-text.text.items c.deref.result.now done.Made o o' e c.deref.ensures.value c.in_err-write_output.ensures.writes) c.in_err-write_output.ensures.faults)

pub returns : goal.returns
returns g c =
    let o = g.O.Sink.facts c.args.output.now in
    let o' = g.O.Sink.facts c.write_output.new.output in
    λ others. reads_and_writes (AnswersInput g.M.MeshStores.rules) (λ x. x.items) (λ x. done.Made) others (g.I.Source.facts c.args.input.now) (g.I.Source.facts c.answer_input.new.input) o o'
    c.in_ok-text.text (Ok done.Made) c.in_ok-text.ensures.answers c.in_ok-text.ensures.faults c.answer_input.ensures.ends
    (has_written c.in_ok-text.text.items c.deref.result.now done.Made o o' c.deref.ensures.value c.in_ok-write_output.ensures.writes) c.in_ok-write_output.ensures.faults
