use Rattle.std.proofs.Common.{◌≡◌, drop}
use Rattle.peer_run.specs.Telling.{first_of_links}
use Rattle.peer_run.proofs.sessions.first_of_all.Given as goal

-- the first of all is that of those to come
abbrev pub invariant-loop-end : goal.invariant-loop-end
invariant-loop-end l = first_of_links l.rows l.ends ≡ first_of_links l.before (drop l.end-index l.ends)
