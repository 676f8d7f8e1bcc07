use Rattle.peer_words.proofs.OneValue.{times_are}
use Rattle.peer_words.proofs.area.area_of.Goals as goal

pub returns-then-not-are_rising-clause-reads : goal.returns-then-not-are_rising-clause-reads
returns-then-not-are_rising-clause-reads c = λ area has.
    c.if-not-are_rising.ensures (times_are c.args.options.now c.have_own_names.ensures c.in_ok-from.from c.in_ok-until.until area.from area.until c.in_ok-from.ensures.reads c.in_ok-until.ensures.reads has.start has.end has.rising)
