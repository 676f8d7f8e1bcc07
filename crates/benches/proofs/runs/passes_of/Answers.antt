use Rattle.std.proofs.Common.{[], ◌∷◌, ◌++◌, length, All, arith, sym, ap, ◌∙◌, subst}
use Rattle.std.proofs.lemmas.List.{length_push}
use Rattle.std.proofs.lemmas.List.Elements.{All-nil, All-push, All-head, All-tail}
use Rattle.ns_cell.specs.Passes.{IsPassOf}
use Rattle.benches.specs.Served.{IsServed}
use Rattle.benches.proofs.Handed.{pushed_ok}
use Rattle.benches.proofs.runs.passes_of.Goals as goal

pub loop-done-init : goal.loop-done-init
loop-done-init c =
    let rest = c.into_iter-done-iterator.ensures.into_iter_gives in
    let made = c.new-passes.ensures in (
      subst (All (IsPassOf c.args.cell.now)) (sym made.items) (All-nil (IsPassOf c.args.cell.now)),
      omega (arith, made.len, ap length rest.0, c.args.all.ok.0),
      subst (All (λ done. IsPassOf c.args.cell.now done.was.value)) (sym rest.0) c.requires.was,
      subst (All (λ done. IsServed done.was.value done.pass)) (sym rest.0) c.requires.served,
    )

pub loop-done-preserved : goal.loop-done-preserved
loop-done-preserved c =
    let inv = c.loop-done.invariant in
    let next = c.in-Some.ensures.steps in
    let cell = c.args.cell.now in
    let done = c.in-Some.done in
    let left = c.next.new.self.rest.items in
    let were = subst (All (λ d. IsPassOf cell d.was.value)) next.0 inv.2 in
    let served = subst (All (λ d. IsServed d.was.value d.pass)) next.0 inv.3 in
    let of_cell : IsPassOf cell done.pass = (All-head (λ d. IsServed d.was.value d.pass) done left served).later.cell ∙ All-head (λ d. IsPassOf cell d.was.value) done left were in
    let items = pushed_ok c.push.result c.in_ok-ok.field-0 c.push.new.self.items (c.loop-done.passes.items ++ done.pass ∷ []) c.loop-done.passes.items c.in_ok-ok.ensures.value c.push.ensures.items in (
      subst (All (IsPassOf cell)) (sym items) (All-push (IsPassOf cell) c.loop-done.passes.items done.pass inv.0 of_cell),
      omega (arith, ap length items, length_push c.loop-done.passes.items done.pass, c.push.new.self.ok.0, c.loop-done.passes.ok.0, ap length next.0, inv.1),
      All-tail (λ d. IsPassOf cell d.was.value) done left were,
      All-tail (λ d. IsServed d.was.value d.pass) done left served,
    )
