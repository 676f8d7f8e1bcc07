use Rattle.std.proofs.Common.{map, take, sym, subst}
use Rattle.sync_core.specs.Flat.{AskValue}
use Rattle.sync_core.specs.Held.{ask_value}
use Rattle.sync_core.proofs.Replying.{HasAnswers, answers_more, asks_more}
use Rattle.std.proofs.Common.{List}
use Rattle.sync_core.proofs.answer.answers_to.Goals as goal

pub loop-ask-preserved : goal.loop-ask-preserved
loop-ask-preserved g c =
    let rows = map g.R.Row.value c.args.snapshot.now in
    let i = c.loop-ask.ask-index in
    let asks = c.args.asks.now in
    let ask = c.ask-item.result in
    let P : List AskValue → Type 0 = λ l. HasAnswers c.args.version rows c.answer.new.turn l in
    record {
      answers = subst P (sym (asks_more asks i ask c.loop-ask-test.true (sym c.ask-item.is))) (answers_more c.args.version rows c.loop-ask.turn c.answer.new.turn (map ask_value (take i asks)) (ask_value ask) c.loop-ask.invariant.answers c.in_ok-answer.ensures);
    }
