use Rattle.std.proofs.Common.{[], ◌∷◌, ◌++◌, length, map, All, arith, sym, ap, ap₂, ◌∙◌, subst}
use Rattle.std.proofs.lemmas.List.{map-append}
use Rattle.std.proofs.lemmas.List.Elements.{All-push, All-tail}
use Rattle.benches.specs.Served.{IsServed, Keeps}
use Rattle.benches.proofs.work.finish_all.Goals as goal

pub loop-worker-preserved : goal.loop-worker-preserved
loop-worker-preserved g c =
    let inv = c.loop-worker.invariant in
    let new = c.push_reserved.ensures in
    let next = c.in-Some.ensures.steps in
    let done = c.finish.ensures in (
      ap (map (λ d. d.was.value)) new.items
          ∙ (map-append (λ d. d.was.value) c.loop-worker.all.items (c.finish.result ∷ [])
          ∙ (ap₂ (λ xs pass. xs ++ pass ∷ []) inv.0 done.was ∙ sym (map-append (λ s. s.was.value) c.loop-worker.yielded (c.in-Some.worker ∷ [])))),
      subst (All (λ d. IsServed d.was.value d.pass)) (sym new.items)
          (All-push (λ d. IsServed d.was.value d.pass) c.loop-worker.all.items c.finish.result inv.1 (subst (λ pass. IsServed pass c.finish.result.pass) (sym done.was) done.served)),
      omega (arith, new.len, new.capacity, ap length next.0, inv.2),
      All-tail Keeps c.in-Some.worker c.next.new.self.rest.items (subst (All Keeps) next.0 inv.3),
    )
