use Rattle.std.proofs.Common.{◌≡◌, map, take}
use Rattle.cap_codec.specs.Rows.{row_of}
use Rattle.mesh_core.proofs.plain.snapshots.Given as goal

abbrev pub invariant-loop-store : goal.invariant-loop-store
invariant-loop-store l = map (map row_of) l.snapshots.items ≡ map (map row_of) (take l.store-index l.stores)
