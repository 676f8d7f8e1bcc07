use Rattle.std.proofs.Common.{sym}
use Rattle.willow_mesh.proofs.run.Goals as goal

pub returns : goal.returns
returns c = record { promises = λ others. rw (sym c.behind_name-words.ensures, c.from.ensures) (c.mesh_run-status.ensures.promises others) }
