use Rattle.std.proofs.Common.{true, ap, ◌∙◌, sym}
use Rattle.willow_outside.specs.declared.disk_tape.DiskCall.TheVariants.{Sync}
use Rattle.willow_outside.specs.DiskRecord.{DiskState, state_now}
use Rattle.willow_outside.proofs.DiskSteps.{now_pushed, synced_leaves, synced_no_more, elapses_one}
use Rattle.willow_outside.proofs.disk_tape.DiskTape.sync.Goals as goal

pub invariant_of-self-2 : goal.invariant_of-self-2
invariant_of-self-2 c =
    let s = c.self.inside in
    c.self.invariant ∙ sym (ap (λ (u : DiskState). u.contents) (now_pushed s.first.items s.calls.items c.push.new.self.items (Sync true) c.in_ok-push.ensures.items))

pub returns-clause-synced : goal.returns-clause-synced
returns-clause-synced c =
    let s = c.self.inside in
    rw (← c.self.view_is) (synced_leaves (state_now s.first.items s.calls.items) (state_now s.first.items c.push.new.self.items) (now_pushed s.first.items s.calls.items c.push.new.self.items (Sync true) c.in_ok-push.ensures.items))

pub returns-clause-contents : goal.returns-clause-contents
returns-clause-contents c =
    let s = c.self.inside in
    rw (← c.self.view_is) (ap (λ (u : DiskState). u.contents) (now_pushed s.first.items s.calls.items c.push.new.self.items (Sync true) c.in_ok-push.ensures.items))

pub returns-clause-images : goal.returns-clause-images
returns-clause-images c =
    let s = c.self.inside in
    rw (← c.self.view_is) (synced_no_more (state_now s.first.items s.calls.items) (state_now s.first.items c.push.new.self.items) (now_pushed s.first.items s.calls.items c.push.new.self.items (Sync true) c.in_ok-push.ensures.items))

pub returns-clause-time : goal.returns-clause-time
returns-clause-time c =
    let s = c.self.inside in
    rw (← c.self.view_is) (elapses_one s.first.items s.calls.items c.push.new.self.items (Sync true) c.in_ok-push.ensures.items)
