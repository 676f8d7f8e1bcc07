use Rattle.std.proofs.Common.{take}
use Rattle.std.specs.List.{AllByRecursion}
use Rattle.cap_codec.specs.Rows.{IsRawRow}
use Rattle.row_stream.specs.Streams.{IsStreamRow}
use Rattle.peer_run.specs.LogFiles.{slice_values}
use Rattle.peer_run.proofs.log_keeping.known_slice.Given as goal

abbrev pub invariant-loop-logged : goal.invariant-loop-logged
invariant-loop-logged l = AllByRecursion (IsStreamRow IsRawRow) (slice_values (take l.logged-index l.rows))
