use Rattle.std.proofs.Common.{List, ℕ, refl, subst}
use Rattle.peer_make.specs.Reading.{ReadsCapabilityFrom}
use Rattle.peer_stage.specs.Shelves.{GetsBytes}
use Rattle.peer_stage.specs.declared.outcome.Origin.TheVariants as origin
use Rattle.peer_stage.proofs.Steps.{shelf_on}
use Rattle.peer_run.proofs.getting.get_capability.Goals as goal

pub returns : goal.returns
returns g c =
    let h = g.H.Shelf.facts c.args.shelf.now in
    let h1 = g.H.Shelf.facts c.get_bytes.new.shelf in
    let end = c.capability_from.result in
    let reads = subst (λ (bytes : List ℕ). ReadsCapabilityFrom (origin.Name c.in_ok-name.name) bytes end) c.deref.ensures.value c.capability_from.ensures in
    λ others. shelf_on (GetsBytes c.args.name) _ others h h1 (record others { shelf = h1 }) (c.in_ok-name.name, c.in_ok-name.bytes) end
    c.in_ok-name.ensures.gets c.in_ok-name.ensures.read_faults c.get_bytes.ensures.write_faults (reads, refl)
