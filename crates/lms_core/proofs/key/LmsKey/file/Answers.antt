use Rattle.lms_core.proofs.Files.{file_by_steps}
use Rattle.lms_core.proofs.key.LmsKey.file.Goals as goal

pub returns : goal.returns
returns c = rw (← c.self.view_is) (file_by_steps _ _ _ _ _ _ _ c.levels.ensures.value c.join_into.ensures c.join_into-2.ensures c.join_into-3.ensures c.four_bytes.ensures c.join_into-4.ensures)
