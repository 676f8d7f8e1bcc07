use Rattle.std.proofs.Common.{ℕ, sym, subst, arith}
use Rattle.sub_hub.specs.Seen.{hub_seen}
use Rattle.sub_hub.proofs.Slots.{left_few}
use Rattle.peer_run.proofs.HeardBehind.{HaveHeardUpTo, up_to_next, up_to_none}
use Rattle.peer_run.proofs.hearing.tell_rest.Goals as goal

pub loop-at-init : goal.loop-at-init
loop-at-init g c =
    let log = c.args.state.now.log in
    let h = hub_seen (λ w. (goal.Watcher-dyn g (w.vtable, w.value)).told w.value) c.args.hub.now in
    record {
      so_far = subst (λ (at : ℕ). HaveHeardUpTo log c.args.hub.now.front at h h 0) (sym c.front-at.ensures) (up_to_none log h);
      past = omega (arith, c.front-front.ensures.front);
      few = omega (arith, left_few (λ w. (goal.Watcher-dyn g (w.vtable, w.value)).told w.value) c.args.hub.now.members.slots, c.args.hub.now.few, c.added-added.ensures, c.added-added.type_inv);
    }

pub loop-at-preserved : goal.loop-at-preserved
loop-at-preserved g c =
    let loop = c.loop-at in
    let told = c.tell_row-left.ensures.told in
    record {
      so_far = up_to_next c.args.state.now.log c.args.hub.now.front loop.at _ _ loop.left loop.invariant.so_far told.0 _ c.tell_row-left.result told.1 told.2;
      past = loop.invariant.past;
      few = c.tell_row-left.ensures.few;
    }
