use Rattle.std.proofs.Common.{◌≡◌, ◌+◌, All, length, vec_len}
use Rattle.ns_cell.specs.Passes.{IsPassOf}
use Rattle.benches.specs.Served.{IsServed}
use Rattle.benches.proofs.runs.passes_of.Given as goal

abbrev pub invariant-loop-done : goal.invariant-loop-done
invariant-loop-done l =
    All (IsPassOf l.cell) l.passes.items × (vec_len l.passes + length l.done-iterator.rest.items ≡ vec_len l.fn.all)
    × All (λ done. IsPassOf l.cell done.was.value) l.done-iterator.rest.items × All (λ done. IsServed done.was.value done.pass) l.done-iterator.rest.items
