use Rattle.std.proofs.Common.{map, take}
use Rattle.sync_core.specs.Held.{ask_value}
use Rattle.sync_core.proofs.Replying.{HasAnswers}
use Rattle.sync_core.proofs.answer.answers_to.Given as goal

abbrev pub invariant-loop-ask : goal.invariant-loop-ask
invariant-loop-ask g l = record { answers : HasAnswers l.version (map g.R.Row.value l.snapshot) l.turn (map ask_value (take l.ask-index l.asks)) }
