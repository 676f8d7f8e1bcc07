use Rattle.std.proofs.Common.{ℕ, add-one, map, take, arith, sym, subst}
use Rattle.std.specs.List.{AllByRecursion}
use Rattle.std.proofs.lemmas.List.Elements.{recursion_from_All}
use Rattle.willow_entry.specs.Frame.{HasFrame}
use Rattle.auth_entry.specs.Rows.{entry_row}
use Rattle.sync_link.proofs.Openings.{CanTell, can_tell, told_more, told_all}
use Rattle.peer_run.proofs.closing.known_rows.Goals as goal

pub returns : goal.returns
returns c = recursion_from_All HasFrame (map entry_row c.args.rows.now) (told_all c.args.rows.now c.loop-at.at (omega arith) c.loop-at.invariant).framed

pub loop-at-preserved : goal.loop-at-preserved
loop-at-preserved c =
    let rows = c.args.rows.now in
    let at = c.loop-at.at in
    subst (λ (n : ℕ). AllByRecursion CanTell (take n rows)) (sym (add-one at)) (told_more rows at c.in-Some.row.now c.in-Some.ensures.row (can_tell c.in-Some.row.now c.row-row.ensures.fits) c.loop-at.invariant)
