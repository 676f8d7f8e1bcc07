use Rattle.std.proofs.Common.{◌≡◌}
use Rattle.std.specs.String.{string_bytes}
use Rattle.peer_run.proofs.RefusedFiles.{back_again, disk_of_name, refused_name}
use Rattle.peer_run.proofs.log_opening.open_name.Goals as goal

-- the disk is back
pub returns-in-Err-clause-stops : goal.returns-in-Err-clause-stops
returns-in-Err-clause-stops g c =
    let name = c.args.name in
    let n = c.args.namespace.now in
    let old = g.B.Bay.facts c.args.bay.now in
    let new = g.B.Bay.facts c.give_back.new.self in
    let opened = c.in-Ok.ensures in
    let left = c.give_back.ensures in
    let disk = g.K.Disk.facts c.in-Ok.disk in
    let back = g.K.Disk.facts c.in-Err.disk in
    let bytes = c.as_str.result.now in
    let named : bytes ≡ string_bytes name = c.as_str.ensures.value in
    let is = back_again bytes (string_bytes name) named old (g.B.Bay.facts c.open.new.self) new back opened.out opened.asked opened.names opened.back opened.cause left.out left.asked left.names left.back left.faults in
    let came = disk_of_name bytes (string_bytes name) named old.names disk opened.disk in
    rw c.stop_of.ensures (refused_name name n old new disk back c.in-Err.why came c.in-Err.ensures is)
