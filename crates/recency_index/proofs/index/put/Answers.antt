use Rattle.recency_index.proofs.Pairs.{key_free, newest_with}
use Rattle.recency_index.proofs.index.put.Goals as goal

pub insert-requires-clause-free : goal.insert-requires-clause-free
insert-requires-clause-free g c = key_free c.args.items.now c.requires.orders c.args.item c.requires.free

pub returns-clause-items : goal.returns-clause-items
returns-clause-items g c = newest_with c.args.items.now c.insert.new.self c.insert.result c.args.item c.insert.ensures.orders c.insert.ensures.by_rank
