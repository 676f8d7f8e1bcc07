use Rattle.std.proofs.Common.{◌++◌, Err}
use Rattle.peer_stage.specs.World.{World}
use Rattle.peer_stage.specs.declared.outcome.Stop.TheVariants as stop
use Rattle.peer_stage.proofs.Steps.{passes}
use Rattle.peer_run.specs.Getting.{GetsImage}
use Rattle.peer_run.specs.Preparing.{PreparesBehind}
use Rattle.peer_run.proofs.FiledBays.{no_memory_yet}
use Rattle.peer_run.proofs.preparing.stop_without_copy.Goals as goal

pub returns-in-Ok : goal.returns-in-Ok
returns-in-Ok g c =
    let h = g.H.Shelf.facts c.args.shelf.now in
    let h1 = g.H.Shelf.facts c.get_image.new.shelf in
    λ cap area log others.
    let first : World = record others { shelf = h1 } in
    passes (GetsImage c.args.image) _ (record others { shelf = h }) first first c.in-Ok.field-0 (Err stop.NoMemory) (c.in-Ok.ensures others)
    (no_memory_yet log c.in-Ok.field-0.namespace first (λ rows. PreparesBehind c.in-Ok.field-0.namespace (c.in-Ok.field-0.rows.items ++ rows.items) cap area))
