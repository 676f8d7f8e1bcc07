use Rattle.willow_outside.proofs.mem_disk.MemDiskDisk.read_at.Goals as goal

pub returns-in_err-recorded-clause-time : goal.returns-in_err-recorded-clause-time
returns-in_err-recorded-clause-time c = rw (← c.self.view_is) c.look-recorded.ensures.time

pub returns-then-fails-clause-time : goal.returns-then-fails-clause-time
returns-then-fails-clause-time c = rw (← c.self.view_is) c.look-recorded.ensures.time

pub returns-clause-time : goal.returns-clause-time
returns-clause-time c = rw (← c.self.view_is) c.look-recorded.ensures.time
