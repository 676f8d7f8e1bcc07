use Rattle.std.proofs.Common.{◌≡◌, [], ◌∷◌, ◌++◌, map, All, sym, ap, ◌∙◌, subst}
use Rattle.std.proofs.lemmas.List.{map-append}
use Rattle.std.proofs.lemmas.List.Elements.{All-push, All-head, All-tail}
use Rattle.willow_entry.specs.Row.{RowValue}
use Rattle.ns_cell.specs.Passes.{IsPassOf}
use Rattle.benches.specs.Jobs.{IsJobOf}
use Rattle.benches.specs.declared.work.Job.{Job}
use Rattle.benches.proofs.Handed.{pushed_ok}
use Rattle.benches.proofs.runs.jobs_of.Goals as goal

pub loop-pass-preserved : goal.loop-pass-preserved
loop-pass-preserved c =
    let inv = c.loop-pass.invariant in
    let next = c.in-Some.ensures.steps in
    let cell = c.args.cell.now in
    let left = subst (All (IsPassOf cell)) next.0 inv.2 in
    let job : Job RowValue = record { pass = c.in-Some.pass; rows = c.in_ok-rows.rows } in
    let items = pushed_ok c.push.result c.in_ok-ok.field-0 c.push.new.self.items (c.loop-pass.jobs.items ++ job ∷ []) c.loop-pass.jobs.items c.in_ok-ok.ensures.value c.push.ensures.items in (
      subst (All (IsJobOf (λ row. row) cell)) (sym items)
          (All-push (IsJobOf (λ row. row) cell) c.loop-pass.jobs.items job inv.0 (record {
            pass = All-head (IsPassOf cell) c.in-Some.pass c.next.new.self.rest.items left;
            rows = subst (λ space. All (λ (row : RowValue). row.entry.namespace ≡ space) c.in_ok-rows.rows.items) c.requires.namespace c.in_ok-rows.ensures;
          })),
      ap (map (λ j. j.pass)) items ∙ (map-append (λ j. j.pass) c.loop-pass.jobs.items (job ∷ []) ∙ ap (λ passes. passes ++ c.in-Some.pass ∷ []) inv.1),
      All-tail (IsPassOf cell) c.in-Some.pass c.next.new.self.rest.items left,
    )
