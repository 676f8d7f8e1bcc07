use Rattle.std.proofs.Common.{◌≡◌, ◌≤◌, List, ℕ, length, subst}
use Rattle.willow_outside.specs.declared.disk_tape.DiskCall.TheVariants.{WriteAt}
use Rattle.willow_outside.specs.DiskRecord.{state_now, MayLeave}
use Rattle.willow_outside.specs.Disks.{Tears}
use Rattle.willow_outside.proofs.DiskSteps.{now_pushed, tears_one, elapses_one, write_contents, write_kept, if_done}
use Rattle.willow_outside.proofs.disk_tape.DiskTape.write.Goals as goal

pub invariant_of-self-2 : goal.invariant_of-self-2
invariant_of-self-2 c =
    let s = c.self.inside in
    let copy = c.in_ok-copy.copy in
    let was : c.contents.result.now ≡ (state_now s.first.items s.calls.items).contents = rw (← c.self.view_is) at c.contents.ensures in
    write_kept c.args.at copy c.args.bytes.now c.contents.result.now c.in_ok-new.new.items c.args.done (state_now s.first.items s.calls.items) (state_now s.first.items c.push.new.self.items) c.in_ok-copy.ensures.items was c.in_ok-new.ensures (now_pushed s.first.items s.calls.items c.push.new.self.items (WriteAt c.args.at copy c.args.done) c.in_ok-push.ensures.items)

pub returns-clause-calls : goal.returns-clause-calls
returns-clause-calls c = rw (← c.self.view_is) (c.in_ok-copy.copy, c.in_ok-copy.ensures.items, c.in_ok-push.ensures.items)

pub returns-clause-contents : goal.returns-clause-contents
returns-clause-contents c =
    let s = c.self.inside in
    let copy = c.in_ok-copy.copy in
    rw (← c.self.view_is) (λ done. if_done c.args.done _ _ _ done (write_contents c.args.at copy c.args.bytes.now c.args.done (state_now s.first.items s.calls.items) (state_now s.first.items c.push.new.self.items) c.in_ok-copy.ensures.items (now_pushed s.first.items s.calls.items c.push.new.self.items (WriteAt c.args.at copy c.args.done) c.in_ok-push.ensures.items)))

pub returns-clause-images : goal.returns-clause-images
returns-clause-images c =
    let s = c.self.inside in
    let copy = c.in_ok-copy.copy in
    let old = state_now s.first.items s.calls.items in
    let new = state_now s.first.items c.push.new.self.items in
    let within : c.args.at ≤ length old.contents = rw (← c.self.view_is) at c.requires in
    let torn : Tears c.args.at (length copy.items) (MayLeave old) (MayLeave new) = tears_one c.args.at copy c.args.done old new within (now_pushed s.first.items s.calls.items c.push.new.self.items (WriteAt c.args.at copy c.args.done) c.in_ok-push.ensures.items) in
    rw (← c.self.view_is) (subst (λ (l : List ℕ). Tears c.args.at (length l) (MayLeave old) (MayLeave new)) c.in_ok-copy.ensures.items torn)

pub returns-clause-time : goal.returns-clause-time
returns-clause-time c =
    let s = c.self.inside in
    rw (← c.self.view_is) (elapses_one s.first.items s.calls.items c.push.new.self.items _ c.in_ok-push.ensures.items)
