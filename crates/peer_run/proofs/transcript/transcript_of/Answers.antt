use Rattle.peer_run.proofs.Told.{told_more}
use Rattle.peer_run.proofs.transcript.transcript_of.Goals as goal

pub loop-i-preserved : goal.loop-i-preserved
loop-i-preserved c =
    told_more (λ t. t.items) c.args.turns.now c.loop-i.i c.index-turns-i.result c.loop-i.text.items c.put_turn.new.text.items c.deref.result.now c.loop-i-test.true c.index-turns-i.is c.deref.ensures.value
    c.loop-i.invariant c.in_ok-put_turn.ensures
