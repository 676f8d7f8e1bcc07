use Rattle.std.proofs.Common.{◌≡◌, ◌++◌, map, take}
use Rattle.sync_msg.specs.declared.item.Item.TheVariants as items
use Rattle.sync_core.proofs.rows.push_rows.Given as goal

abbrev pub invariant-loop-at : goal.invariant-loop-at
invariant-loop-at l = record { named : l.items.items ≡ l.initial.items.items ++ map (λ at. items.Row at) (take l.at-index l.positions) }
