use Rattle.willow_outside.proofs.mem_disk.MemDiskDisk.sync.Goals as goal

pub returns-then-fails-clause-time : goal.returns-then-fails-clause-time
returns-then-fails-clause-time c = rw (← c.self.view_is) c.look-recorded.ensures.time

pub returns-then-is_err-clause-time : goal.returns-then-is_err-clause-time
returns-then-is_err-clause-time c = rw (← c.self.view_is) c.sync.ensures.time

pub returns-clause-time : goal.returns-clause-time
returns-clause-time c = rw (← c.self.view_is) c.sync.ensures.time

pub returns-then-fails-clause-images : goal.returns-then-fails-clause-images
returns-then-fails-clause-images c = rw (← c.self.view_is) c.look-recorded.ensures.images

pub returns-clause-images : goal.returns-clause-images
returns-clause-images c = rw (← c.self.view_is) c.sync.ensures.images
