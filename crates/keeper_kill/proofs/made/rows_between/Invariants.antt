use Rattle.std.specs.List.{AllByRecursion}
use Rattle.cap_codec.specs.Rows.{IsRawRow, row_of}
use Rattle.row_stream.specs.Streams.{IsStreamRow}
use Rattle.log_keeper.specs.Slices.{logged_rows}
use Rattle.keeper_kill.proofs.made.rows_between.Given as goal

abbrev pub invariant-loop-i : goal.invariant-loop-i
invariant-loop-i l = AllByRecursion (IsStreamRow IsRawRow) (logged_rows row_of l.slice.items)
