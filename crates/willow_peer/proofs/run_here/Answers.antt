use Rattle.std.proofs.Common.{inr, sym, ◌∙◌}
use Rattle.willow_peer.proofs.Begun.{over_machine, one_watches}
use Rattle.willow_peer.proofs.run_here.Goals as goal

pub returns : goal.returns
returns g c = inr (over_machine c.new-3.ensures c.new-4.ensures c.new-5.ensures c.new-6.ensures c.new-7.ensures c.new-8.ensures c.new-9.ensures c.run_program.ensures.promises
    (one_watches _ c.add.result c.new-hub.ensures c.full.ensures.full (sym c.is_err.ensures.value ∙ c.if-is_err.false) c.add.ensures.added))
