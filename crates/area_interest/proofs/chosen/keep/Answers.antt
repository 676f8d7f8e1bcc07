use Rattle.std.proofs.Common.{map, sym, ap, ◌∙◌}
use Rattle.area_interest.specs.Kept.{is_kept}
use Rattle.area_interest.proofs.Keeping.{kept_inside}
use Rattle.area_interest.proofs.chosen.keep.Goals as goal

pub returns-in_ok-take-clause-rows : goal.returns-in_ok-take-clause-rows
returns-in_ok-take-clause-rows g c = λ seen is.
    let value = g.R.Row.value in
    kept_inside (is_kept c.args.last.now) seen (value c.args.row.value) (map value c.args.store.now) (map value c.take.new.store) is
    (ap (λ r. is_kept c.args.last.now (value r)) (sym c.deref.ensures) ∙ sym c.is_kept.ensures ∙ c.if-is_kept.true) c.in_ok-take.ensures.rows
