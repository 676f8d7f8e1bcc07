use Rattle.std.proofs.Common.{◌≡◌, ◌⊎◌, inl, inr, true, is_err, sym, ◌∙◌}
use Rattle.willow_outside.proofs.DiskSteps.{wrote, wrote_not}
use Rattle.willow_outside.proofs.mem_disk.MemDiskDisk.write_at.Goals.{then-fails-via-then-fails, then-fails-via-else-fails+then-is_err}
use Rattle.willow_outside.proofs.mem_disk.MemDiskDisk.write_at.Goals as goal

pub returns-then-fails-clause-images : goal.returns-then-fails-clause-images
returns-then-fails-clause-images c = rw (← c.self.view_is) c.write-ended.ensures.images

pub returns-then-fails-clause-time : goal.returns-then-fails-clause-time
returns-then-fails-clause-time c = rw (← c.self.view_is) c.write-ended.ensures.time

pub returns-clause-images : goal.returns-clause-images
returns-clause-images c = rw (← c.self.view_is) c.write-ended.ensures.images

pub returns-clause-time : goal.returns-clause-time
returns-clause-time c = rw (← c.self.view_is) c.write-ended.ensures.time

pub returns-then-fails-clause-calls : goal.returns-then-fails-clause-calls
returns-then-fails-clause-calls c =
    let s = c.self.inside in
    let why : (c.next_fails-fails.result ≡ true) ⊎ (is_err c.write-ended.result ≡ true) = elim c.then-fails.branch [
      | then-fails-via-then-fails w ↦ inl w.if-fails.true
      | then-fails-via-else-fails+then-is_err w ↦ inr (sym w.is_err.ensures.value ∙ w.if-is_err.true)
    ] in
    rw (← c.self.view_is) (wrote_not c.write-ended.result s.schedule s.tape.calls c.write-ended.new.self.calls c.args.at c.args.bytes.now c.next_fails-fails.result c.next_fails-fails.ensures.answer why c.write-ended.ensures.calls)

pub returns-clause-calls : goal.returns-clause-calls
returns-clause-calls c =
    let s = c.self.inside in
    rw (← c.self.view_is) (wrote c.write-ended.result s.tape.calls c.write-ended.new.self.calls c.args.at c.args.bytes.now c.next_fails-fails.result (sym c.is_err.ensures.value ∙ c.if-is_err.false) c.if-fails.false c.write-ended.ensures.calls)
