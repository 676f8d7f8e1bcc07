use Rattle.std.proofs.Common.{Ok, List, ℕ, subst}
use Rattle.peer_stage.proofs.Steps.{shelf_on}
use Rattle.mc_cap.specs.Messages.{initial_message}
use Rattle.peer_make.specs.Granting.{BeginsBy}
use Rattle.peer_make.proofs.granting.grant.Goals as goal

pub returns : goal.returns
returns g c =
    let h = g.H.Shelf.facts c.args.shelf.now in
    let h1 = g.H.Shelf.facts c.begin.new.shelf in
    let o = g.O.Sink.facts c.args.output.now in
    let o1 = g.O.Sink.facts c.tell.new.output in
    let begins = subst (λ (m : List ℕ). BeginsBy c.args.key m h h1 (Ok c.in_ok-initial.initial)) c.initial_message-message.ensures c.in_ok-initial.ensures.begins in
    λ others. shelf_on (BeginsBy c.args.key (initial_message c.args.mode c.args.user)) _ (record others { output = o }) h h1 (record others { shelf = h1; output = o1 }) c.in_ok-initial.initial c.tell.result
    begins c.in_ok-initial.ensures.read_faults c.in_ok-initial.ensures.write_faults (rw c.empty.ensures at (c.tell.ensures (record others { shelf = h1 })))
