use Rattle.std.proofs.Common.{◌≡◌, ◌∙◌, All, map, length, vec_len, sym, ap, subst, arith}
use Rattle.std.proofs.lemmas.List.{length-map}
use Rattle.ns_cell.specs.Passes.{IsPassOf}
use Rattle.benches.specs.Served.{IsServed}
use Rattle.benches.proofs.Handed.{of_ok, all_of_map}
use Rattle.benches.proofs.runs.by_threads.Goals as goal

pub passes_of-requires-clause-was : goal.passes_of-requires-clause-was
passes_of-requires-clause-was g c =
    let of_cell = IsPassOf c.in_ok-cell.cell in
    let all = c.in_ok-all.all in
    let same = of_ok (λ a. map (λ done. done.was.value) a.items ≡ map (λ job. job.pass) c.in_ok-jobs.jobs.items) c.serve_all.result all c.in_ok-all.ensures.value c.serve_all.ensures.was ∙ c.in_ok-jobs.ensures.passes in
    all_of_map of_cell (λ done. done.was.value) all.items
    (subst (All of_cell) (sym same) (of_ok (λ made. All (IsPassOf made.0) made.1.items) c.new-2.result (c.in_ok-cell.cell, c.in_ok-cell.passes) c.in_ok-cell.ensures.value c.new-2.ensures.of_cell))

pub passes_of-requires-clause-served : goal.passes_of-requires-clause-served
passes_of-requires-clause-served g c = of_ok (λ all. All (λ done. IsServed done.was.value done.pass) all.items) c.serve_all.result c.in_ok-all.all c.in_ok-all.ensures.value c.serve_all.ensures.served

pub close-requires-clause-all : goal.close-requires-clause-all
close-requires-clause-all g c =
    let all = c.in_ok-all.all in
    let same = of_ok (λ a. map (λ done. done.was.value) a.items ≡ map (λ job. job.pass) c.in_ok-jobs.jobs.items) c.serve_all.result all c.in_ok-all.ensures.value c.serve_all.ensures.was ∙ c.in_ok-jobs.ensures.passes in
    let count = of_ok (λ m. vec_len m.1 ≡ c.args.passes) c.new-2.result (c.in_ok-cell.cell, c.in_ok-cell.passes) c.in_ok-cell.ensures.value c.new-2.ensures.count in
    let passes = of_ok (λ m. (m.0.passes ≡ c.args.passes) × (m.0.namespace ≡ c.new.result.namespace)) c.new-2.result (c.in_ok-cell.cell, c.in_ok-cell.passes) c.in_ok-cell.ensures.value c.new-2.ensures.cell in
    omega (arith, c.in_ok-passes.ensures.count, ap length same, length-map all.items (λ done. done.was.value), all.ok.0, c.in_ok-cell.passes.ok.0, count, passes.0)
