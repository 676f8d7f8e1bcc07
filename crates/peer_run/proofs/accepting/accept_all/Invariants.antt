use Rattle.std.proofs.Common.{◌≡◌, ◌≤◌, All, length}
use Rattle.std.specs.VecDeque.{deque_len}
use Rattle.link_host.specs.Begun.{HaveLinks}
use Rattle.sub_hub.specs.Seen.{hub_seen}
use Rattle.peer_run.specs.Accepting.{HasOnlyRead}
use Rattle.peer_run.specs.Hall.{MayVisit}
use Rattle.peer_run.specs.Hearing.{HaveHeardBehind, rows_behind}
use Rattle.peer_run.specs.LogFiles.{KeepsOnIf, file_states}
use Rattle.peer_run.proofs.accepting.accept_all.Given as goal

abbrev pub invariant-loop-guest : goal.invariant-loop-guest
invariant-loop-guest g l = record {
  may : All (MayVisit l.hall) l.unused.items;
  host : l.workers.host ≡ l.hall;
  have : HaveLinks l.fn.guests.items (g.D.Door.facts l.fn.door) (g.D.Door.facts l.door) l.workers.begun l.unused.items;
  room : length l.unused.items ≤ l.workers.room;
  read : HasOnlyRead l.fn.own l.own;
  heard : HaveHeardBehind l.hall.cell.namespace l.fn.own.seen l.own.seen (hub_seen (λ w. (goal.Watcher-dyn g (w.vtable, w.value)).told w.value) l.fn.hub) (hub_seen (λ w. (goal.Watcher-dyn g (w.vtable, w.value)).told w.value) l.hub) l.left;
  kept : KeepsOnIf (rows_behind l.fn.own.seen l.own.seen) (file_states g.K.Disk.facts l.fn.file) (file_states g.K.Disk.facts l.file);
}

abbrev pub decreases-loop-guest : goal.decreases-loop-guest
decreases-loop-guest g l = deque_len l.unused
