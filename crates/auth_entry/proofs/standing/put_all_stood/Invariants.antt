use Rattle.std.proofs.Common.{◌≡◌, ◌++◌, List, take}
use Rattle.std.specs.List.{AllZip}
use Rattle.cap_codec.specs.Rows.{RawValue}
use Rattle.auth_entry.specs.Standings.{IsStood}
use Rattle.auth_entry.proofs.standing.put_all_stood.Given as goal

abbrev pub invariant-loop-row : goal.invariant-loop-row
invariant-loop-row g l = record {
  stood : (before : List RawValue) → AllZip (IsStood g.S.Verify.rules l.namespace l.fn.unknown) before l.fn.stood.items
      → AllZip (IsStood g.S.Verify.rules l.namespace l.unknown) (before ++ take l.row-index l.rows) l.stood.items;
  same : g.C.Checker.judged_in l.checker ≡ g.C.Checker.judged_in l.fn.checker;
}
