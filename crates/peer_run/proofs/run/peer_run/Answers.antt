use Rattle.std.proofs.Common.{inl, inr, refl}
use Rattle.sub_hub.specs.Seen.{hub_seen}
use Rattle.peer_stage.specs.World.{World}
use Rattle.peer_words.specs.Words.{texts}
use Rattle.peer_run.proofs.Keeps.{keeps}
use Rattle.peer_run.proofs.run.peer_run.Goals as goal

pub returns-then-is_local : goal.returns-then-is_local
returns-then-is_local g c = record {
  promises =
      let others : World = record {
        shelf = g.H.Shelf.facts c.args.shelf.now;
        input = g.I.Source.facts c.args.input.now;
        output = g.O.Sink.facts c.args.output.now;
        report = g.E.Sink.facts c.args.report.now;
        door = g.D.Door.facts c.args.door.now;
        noise = g.N.Noise.facts c.args.noise.now;
        hub = hub_seen (λ w. (goal.Watcher-dyn g (w.vtable, w.value)).told w.value) c.args.hub.now;
        bay = g.B.Bay.facts c.args.bay.now;
      } in
      c.run_local.ensures.promises (texts c.args.words.now) others c.in-Ok.ensures.reads;
}

pub returns-else-is_local : goal.returns-else-is_local
returns-else-is_local g c = record {
  promises =
      let others : World = record {
        shelf = g.H.Shelf.facts c.args.shelf.now;
        input = g.I.Source.facts c.args.input.now;
        output = g.O.Sink.facts c.args.output.now;
        report = g.E.Sink.facts c.args.report.now;
        door = g.D.Door.facts c.args.door.now;
        noise = g.N.Noise.facts c.args.noise.now;
        hub = hub_seen (λ w. (goal.Watcher-dyn g (w.vtable, w.value)).told w.value) c.args.hub.now;
        bay = g.B.Bay.facts c.args.bay.now;
      } in
      keeps _ (inl (record {
        command = c.in-Ok.command;
        is_words = c.in-Ok.ensures.reads;
        end = c.run_afar-end.result;
        meets = c.run_afar-end.ensures others;
        reports = c.end_run.ensures.reports;
      })) c.end_run.ensures.faults;
}

pub returns-in-Err-Refused : goal.returns-in-Err-Refused
returns-in-Err-Refused g c = record {
  promises =
      keeps _ (inr (inl (record { no_command = rw c.in-Err-Refused.field-0-is at c.in-Err-Refused.ensures.reads; same = refl; reports = c.end_run-in-Err-Refused.ensures.reports }))) c.end_run-in-Err-Refused.ensures.faults;
}

pub returns-in-Err-NoMemory : goal.returns-in-Err-NoMemory
returns-in-Err-NoMemory g c = record {
  promises =
      keeps _ (inr (inr (record { asked = c.in-Err-NoMemory.ensures.asked cc; same = refl; reports = c.end_run-in-Err-NoMemory.ensures.reports }))) c.end_run-in-Err-NoMemory.ensures.faults;
}
