use Rattle.std.proofs.Common.{inl}
use Rattle.peer_stage.specs.World.{World}
use Rattle.peer_run.proofs.Keeps.{keeps}
use Rattle.peer_run.proofs.run.run_local.Goals as goal

pub returns : goal.returns
returns g c = record {
  promises = λ words others is_words.
      let all : World = record others { report = g.E.Sink.facts c.args.report.now } in
      keeps _ (inl (record {
        command = c.args.command;
        is_words = is_words;
        end = c.run_command-end.result;
        meets = c.run_command-end.ensures all;
        reports = c.end_run.ensures.reports;
      })) c.end_run.ensures.faults;
}
