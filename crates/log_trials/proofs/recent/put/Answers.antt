use Rattle.std.proofs.Common.{◌≡◌, ap, ◌∙◌}
use Rattle.recency_index.specs.Recency.{has_at}
use Rattle.recency_index.proofs.Newest.{none_at}
use Rattle.log_trials.proofs.recent.put.Goals as goal

pub insert-requires-clause-free : goal.insert-requires-clause-free
insert-requires-clause-free c =
    let entry = c.args.entry.now in
    ap (has_at entry.subspace entry.path) c.in_ok-remove.ensures.items ∙ none_at entry.subspace entry.path c.args.index.now.items
