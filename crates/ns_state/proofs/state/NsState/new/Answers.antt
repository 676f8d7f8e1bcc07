use Rattle.std.proofs.Common.{sym, ap, ◌∙◌}
use Rattle.willow_entry.proofs.Between.{live-empty}
use Rattle.recency_index.specs.Recency.{newest}
use Rattle.recency_index.specs.Rows.{items_of}
use Rattle.ns_state.specs.Recent.{recent}
use Rattle.ns_state.proofs.state.NsState.new.Goals as goal

pub invariant_of-result : goal.invariant_of-result
invariant_of-result g c = c.new-2.ensures ∙ sym (ap (recent g.R.Row.value) c.new.ensures.empty ∙ ap (λ l. newest (items_of l)) live-empty)
