use Rattle.std.proofs.Common.{Option, Err, inl, sym, ap, subst}
use Rattle.std.proofs.lemmas.Result.{err_from_is_err_and}
use Rattle.peer_run.specs.LogFiles.{FileState, file_states}
use Rattle.peer_run.specs.Preparing.{Prepares}
use Rattle.peer_run.proofs.sessions.open_named.Goals as goal

pub returns-in_default-clause-stops : goal.returns-in_default-clause-stops
returns-in_default-clause-stops g c =
    let h = g.H.Shelf.facts c.args.shelf.now in
    let h1 = g.H.Shelf.facts c.stop_without_copy.new.shelf in
    let b = g.B.Bay.facts c.args.bay.now in
    λ others. inl
    (subst (λ (f : Option FileState). Prepares c.args.image c.args.cap c.args.area.now c.args.log f (record others { shelf = h; bay = b }) (record others { shelf = h1; bay = b }) (Err c.stop_without_copy.result))
    (sym (ap (file_states g.K.Disk.facts) c.requires.none)) (c.stop_without_copy.ensures c.args.cap c.args.area.now c.args.log (record others { bay = b })))

pub returns-in_err-house-clause-stops : goal.returns-in_err-house-clause-stops
returns-in_err-house-clause-stops g c =
    let p = err_from_is_err_and c.from_residual.result c.from_residual.ensures.1 in
    rw (p.1, p.2) (λ others. c.in_err-house.ensures.house others)
