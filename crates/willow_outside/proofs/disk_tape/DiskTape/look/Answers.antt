use Rattle.std.proofs.Common.{ap, ◌∙◌, sym}
use Rattle.willow_outside.specs.DiskRecord.{DiskState, state_now}
use Rattle.willow_outside.proofs.DiskSteps.{looked, no_more, elapses_one}
use Rattle.willow_outside.proofs.disk_tape.DiskTape.look.Goals as goal

pub invariant_of-self-2 : goal.invariant_of-self-2
invariant_of-self-2 c =
    let s = c.self.inside in
    c.self.invariant ∙ sym (ap (λ (u : DiskState). u.contents) (looked s.first.items s.calls.items c.push.new.self.items c.args.call c.in_ok-push.ensures.items c.requires))

pub returns-clause-contents : goal.returns-clause-contents
returns-clause-contents c =
    let s = c.self.inside in
    rw (← c.self.view_is) (ap (λ (u : DiskState). u.contents) (looked s.first.items s.calls.items c.push.new.self.items c.args.call c.in_ok-push.ensures.items c.requires))

pub returns-clause-images : goal.returns-clause-images
returns-clause-images c =
    let s = c.self.inside in
    rw (← c.self.view_is) (no_more (state_now s.first.items s.calls.items) (state_now s.first.items c.push.new.self.items) (looked s.first.items s.calls.items c.push.new.self.items c.args.call c.in_ok-push.ensures.items c.requires))

pub returns-clause-time : goal.returns-clause-time
returns-clause-time c =
    let s = c.self.inside in
    rw (← c.self.view_is) (elapses_one s.first.items s.calls.items c.push.new.self.items c.args.call c.in_ok-push.ensures.items)
