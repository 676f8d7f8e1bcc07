use Rattle.std.proofs.Common.{[], ◌∷◌, ◌++◌, length, map, All, arith, sym, ap, ap₂, ◌∙◌, subst}
use Rattle.std.proofs.lemmas.List.{map-append}
use Rattle.std.proofs.lemmas.List.Elements.{All-push, All-tail}
use Rattle.benches.specs.Jobs.{IsJobOf}
use Rattle.benches.specs.Served.{Keeps}
use Rattle.benches.proofs.work.start_all.Goals as goal

pub loop-job-preserved : goal.loop-job-preserved
loop-job-preserved g c =
    let inv = c.loop-job.invariant in
    let new = c.push_reserved.ensures in
    let next = c.in-Some.ensures.steps in (
      ap (map (λ s. s.was.value)) new.items
          ∙ (map-append (λ s. s.was.value) c.loop-job.started.items (c.start.result ∷ [])
          ∙ (ap₂ (λ xs pass. xs ++ pass ∷ []) inv.0 c.start.ensures.was ∙ sym (map-append (λ job. job.pass) c.loop-job.yielded (c.in-Some.job ∷ [])))),
      subst (All Keeps) (sym new.items) (All-push Keeps c.loop-job.started.items c.start.result inv.1 c.start.ensures.keeps),
      omega (arith, new.len, new.capacity, ap length next.0, inv.2),
      All-tail (IsJobOf g.R.Row.value c.args.cell.now) c.in-Some.job c.next.new.self.rest.items (subst (All (IsJobOf g.R.Row.value c.args.cell.now)) next.0 inv.3),
    )
