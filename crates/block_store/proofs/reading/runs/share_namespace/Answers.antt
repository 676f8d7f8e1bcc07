use Rattle.std.proofs.Common.{sym, ap, ◌∙◌}
use Rattle.willow_entry.specs.declared.entry.Entry.{Entry}
use Rattle.willow_path.proofs.PathOrder.{part_eq_decides}
use Rattle.block_store.proofs.BlockRuns.{read_at}
use Rattle.block_store.proofs.reading.runs.share_namespace.Goals as goal

pub returns-clause-same : goal.returns-clause-same
returns-clause-same g c d =
    let value = g.R.Row.value in
    let pieces = c.args.listing.now.pieces.items in
    let first = ap (λ r. r.entry.namespace) (read_at value pieces c.args.first c.in_ok-first.first.now d c.in_ok-first.ensures) ∙ ap (λ (e : Entry). e.namespace) (sym c.entry.ensures.entry) in
    let last = ap (λ r. r.entry.namespace) (read_at value pieces c.args.last c.in_ok-last.last.now d c.in_ok-last.ensures) ∙ ap (λ (e : Entry). e.namespace) (sym c.entry-2.ensures.entry) in
    let both = part_eq_decides c.entry.result.now.namespace c.entry-2.result.now.namespace in (
      (λ t. first ∙ both.0 (sym c.eq.ensures ∙ t) ∙ sym last),
      (λ e. c.eq.ensures ∙ both.1 (sym first ∙ e ∙ last)),
    )
