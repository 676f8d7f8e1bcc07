use Rattle.std.proofs.Common.{ℕ, add-one, take, arith, sym, subst}
use Rattle.std.specs.List.{AllByRecursion}
use Rattle.sync_link.proofs.Openings.{CanTell, can_tell, told_more, told_all}
use Rattle.sync_link.proofs.run.opening.known_rows.Goals as goal

pub returns : goal.returns
returns g c = told_all c.args.rows.now c.loop-at.at (omega arith) c.loop-at.invariant

pub loop-at-preserved : goal.loop-at-preserved
loop-at-preserved g c =
    let rows = c.args.rows.now in
    let at = c.loop-at.at in
    subst (λ (n : ℕ). AllByRecursion CanTell (take n rows)) (sym (add-one at)) (told_more rows at c.in-Some.row.now c.in-Some.ensures.row (can_tell c.in-Some.row.now c.row-row.ensures.fits) c.loop-at.invariant)
