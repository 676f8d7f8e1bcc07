use Rattle.std.proofs.Common.{inl, inr, refl}
use Rattle.mesh_command.proofs.Given.{no_words, some_words}
use Rattle.mesh_command.proofs.Keeps.{keeps}
use Rattle.mesh_command.proofs.run.run_mesh.Goals as goal

pub returns-then-not-is_empty : goal.returns-then-not-is_empty
returns-then-not-is_empty g c = record {
  promises = λ others.
      keeps g.M.MeshStores.rules _ (inr (record {
        some_word = some_words c.args.words.now c.is_empty.result c.is_empty.ensures c.if-not-is_empty.true;
        same = refl;
        reports = c.end_run.ensures.reports;
      })) c.end_run.ensures.faults;
}

pub returns : goal.returns
returns g c = record {
  promises = λ others.
      keeps g.M.MeshStores.rules _ (inl (record {
        no_words = no_words c.args.words.now c.is_empty.result c.is_empty.ensures c.if-not-is_empty.false;
        end = c.answer-end.result;
        meets = c.answer-end.ensures (record others { report = g.E.Sink.facts c.args.report.now });
        reports = c.end_run-2.ensures.reports;
      })) c.end_run-2.ensures.faults;
}
