use Rattle.std.proofs.Common.{map, sym, ap, ◌∙◌, subst}
use Rattle.willow_entry.specs.Row.{live}
use Rattle.willow_entry.proofs.Between.{live-empty}
use Rattle.ns_state.specs.Log.{IsLog, values, plain_row}
use Rattle.ns_state.proofs.Logs.{log_empty}
use Rattle.ns_state.proofs.live_log.LiveLog.new.Goals as goal

pub invariant_of-result : goal.invariant_of-result
invariant_of-result g c =
    let value = g.R.Row.value in (
      subst (λ l. IsLog value c.args.namespace (map plain_row l)) (sym c.new.ensures.items) (log_empty value c.args.namespace),
      ap (map value) c.new-2.ensures.empty ∙ sym (ap (λ l. live (values value (map plain_row l))) c.new.ensures.items ∙ live-empty),
    )
