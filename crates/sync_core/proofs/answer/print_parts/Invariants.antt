use Rattle.std.proofs.Common.{◌≡◌, ◌+◌, ◌++◌, map, length}
use Rattle.exchange_rules.specs.Answer.{print_ask}
use Rattle.exchange_rules.specs.Rules.{box_print}
use Rattle.sync_core.specs.SyncRules.{sync_rules}
use Rattle.sync_core.specs.Held.{owed_value}
use Rattle.sync_core.proofs.answer.print_parts.Given as goal

abbrev pub invariant-loop : goal.invariant-loop
invariant-loop g l = record {
  printed : l.prints ++ map (λ part. box_print (sync_rules 2) part (map g.R.Row.value l.snapshot)) l.rest.items ≡ map (λ part. box_print (sync_rules 2) part (map g.R.Row.value l.snapshot)) l.fn.parts.items;
  opened : map (owed_value (map g.R.Row.value l.snapshot)) l.opens.items ++ map (print_ask (sync_rules 2) (map g.R.Row.value l.snapshot)) l.rest.items ≡ map (owed_value (map g.R.Row.value l.snapshot)) l.fn.opens.items ++ map (print_ask (sync_rules 2) (map g.R.Row.value l.snapshot)) l.fn.parts.items;
  left : length l.rest.items + l.counter ≡ l.count;
}
