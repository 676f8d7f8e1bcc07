use Rattle.std.proofs.Common.{◌≤◌, ◌<◌, ◌^◌, length}
use Rattle.sub_hub.specs.Hubs.{count_left}
use Rattle.sub_hub.specs.Seen.{hub_seen}
use Rattle.peer_run.proofs.HeardBehind.{HaveHeardUpTo}
use Rattle.peer_run.proofs.hearing.tell_rest.Given as goal

abbrev pub invariant-loop-at : goal.invariant-loop-at
invariant-loop-at g l = record {
  so_far : HaveHeardUpTo l.state.log l.fn.hub.front l.at (hub_seen (λ w. (goal.Watcher-dyn g (w.vtable, w.value)).told w.value) l.fn.hub) (hub_seen (λ w. (goal.Watcher-dyn g (w.vtable, w.value)).told w.value) l.hub) l.left;
  past : length l.state.log ≤ l.front;
  few : count_left (hub_seen (λ w. (goal.Watcher-dyn g (w.vtable, w.value)).told w.value) l.hub).members < 2 ^ 32;
}
