use Rattle.sub_hub.proofs.Hearing.{goes_on, stops}
use Rattle.sub_hub.proofs.telling.tell.Goals as goal

pub returns-in-Leave : goal.returns-in-Leave
returns-in-Leave g c = stops g.R.Row.value c.args.own.now c.args.served.now c.args.front c.args.slice.now c.loop-i.i c.index-slice-i.result _ _ _ c.loop-i-test.true c.loop-i.invariant (rw c.entry-entry.ensures.entry at (c.in-Leave.ensures))

pub loop-i-preserved : goal.loop-i-preserved
loop-i-preserved g c = goes_on g.R.Row.value c.args.own.now c.args.served.now c.args.front c.args.slice.now c.loop-i.i c.index-slice-i.result _ _ _ c.loop-i-test.true c.loop-i.invariant (rw c.entry-entry.ensures.entry at (c.in_default.ensures))
