use Rattle.std.proofs.Common.{sym, ◌∙◌}
use Rattle.recency_index.proofs.Pairs.{none_there, all_left}
use Rattle.recency_index.proofs.Taken.{taken_at}
use Rattle.recency_index.proofs.index.take.Goals as goal

pub returns-clause-was : goal.returns-clause-was
returns-clause-was g c = sym (none_there c.args.items.now c.requires.orders c.args.probe.now c.in-None.ensures.found)

pub returns-clause-items : goal.returns-clause-items
returns-clause-items g c =
    all_left c.args.probe.now.subspace c.args.probe.now.path _ (none_there c.args.items.now c.requires.orders c.args.probe.now c.in-None.ensures.found)

pub returns-in-Some-clause-was : goal.returns-in-Some-clause-was
returns-in-Some-clause-was g c =
    let taken = taken_at c.args.items.now c.remove.new.self c.requires.orders c.args.probe.now c.in-Some.slot c.in-Some.ensures.found c.remove.result c.remove.ensures.vacant c.remove.ensures.by_rank in
    c.is_some.ensures ∙ taken.there ∙ sym taken.was

pub returns-in-Some-clause-items : goal.returns-in-Some-clause-items
returns-in-Some-clause-items g c =
    (taken_at c.args.items.now c.remove.new.self c.requires.orders c.args.probe.now c.in-Some.slot c.in-Some.ensures.found c.remove.result c.remove.ensures.vacant c.remove.ensures.by_rank).left
