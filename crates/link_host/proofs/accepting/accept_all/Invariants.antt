use Rattle.std.proofs.Common.{◌≡◌, ◌≤◌, All, length}
use Rattle.std.specs.VecDeque.{deque_len}
use Rattle.link_host.specs.Begun.{HaveLinks}
use Rattle.link_host.proofs.accepting.accept_all.Given as goal

abbrev pub invariant-loop-job : goal.invariant-loop-job
invariant-loop-job g l = record {
  may : All (g.H.Host.may l.host) l.left.items;
  host : l.workers.host ≡ l.host;
  have : HaveLinks l.fn.jobs.items (g.D.Door.facts l.fn.door) (g.D.Door.facts l.door) l.workers.begun l.left.items;
  room : length l.left.items ≤ l.workers.room;
}

abbrev pub decreases-loop-job : goal.decreases-loop-job
decreases-loop-job g l = deque_len l.left
