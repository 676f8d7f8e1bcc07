use Rattle.std.proofs.Common.{get_or, sym, ap, ◌∙◌}
use Rattle.std.specs.Prelude.{max}
use Rattle.std.proofs.lemmas.List.{take_all}
use Rattle.range_split.specs.Quarters.{greatest}
use Rattle.range_split.proofs.Tally.{greatest_next}
use Rattle.range_split.proofs.load.greatest.Goals as goal

pub loop-size-preserved : goal.loop-size-preserved
loop-size-preserved c =
    c.greater-most.ensures ∙ ap (λ n. max n (get_or c.args.sizes.now c.loop-size.size-index 0)) c.loop-size.invariant
    ∙ sym (greatest_next c.args.sizes.now c.loop-size.size-index c.loop-size-test.true)

pub returns : goal.returns
returns c = c.loop-size.invariant ∙ ap greatest (take_all c.loop-size.size-index c.args.sizes.now c.loop-size-test.false)
