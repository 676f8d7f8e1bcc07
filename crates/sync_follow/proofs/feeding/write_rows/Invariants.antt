use Rattle.std.proofs.Common.{◌≡◌, ◌≤◌, length, map, take}
use Rattle.auth_entry.specs.Rows.{entry_row}
use Rattle.ns_state.specs.Log.{logged, plain_row}
use Rattle.sync_follow.specs.Feeds.{fed_of}
use Rattle.sync_follow.specs.Feeding.{HasWritten}
use Rattle.sync_follow.proofs.FedRows.{fed_bytes}
use Rattle.sync_follow.proofs.feeding.write_rows.Given as goal

abbrev pub invariant-loop-at : goal.invariant-loop-at
invariant-loop-at g l = record {
  wrote : HasWritten (g.L.Link.facts l.fn.link) (g.L.Link.facts l.link) (fed_bytes l.area l.own (take l.at (logged entry_row (map plain_row l.rows)))) l.out.items;
  count : l.count ≡ length (fed_of l.area l.own (take l.at (logged entry_row (map plain_row l.rows))));
  few : l.count ≤ l.at;
  most : g.L.Link.most l.link ≡ g.L.Link.most l.fn.link;
}
