use Rattle.std.proofs.Common.{◌∙◌, ◌-◌, sym, arith, length, Some, None}
use Rattle.willow_path.proofs.PathLimits.{total-less}
use Rattle.willow_path.proofs.PathSuccessor.{after_as, after_here, after_before, after_none}
use Rattle.willow_path.proofs.path.Path.after_prefixed.Goals as goal

pub overflow_sub-before : goal.overflow_sub-before
overflow_sub-before c = (total-less c.args.self.now c.loop-count.count c.loop-count.before c.part.result.now c.loop-count-test.true c.loop-count.invariant.placed c.loop-count.invariant.counted c.part.ensures).0

pub raised_at-requires-clause-before : goal.raised_at-requires-clause-before
raised_at-requires-clause-before c = (total-less c.args.self.now c.loop-count.count c.loop-count.before c.part.result.now c.loop-count-test.true c.loop-count.invariant.placed c.loop-count.invariant.counted c.part.ensures).1

pub returns-in-Some-clause-value : goal.returns-in-Some-clause-value
returns-in-Some-clause-value c =
    let i = c.loop-count.invariant in
    let less = total-less c.args.self.now c.loop-count.count c.loop-count.before c.part.result.now c.loop-count-test.true i.placed i.counted c.part.ensures in
    after_here c.args.self.now c.in-Some.path c.loop-count.count (c.loop-count.before - length c.part.result.now) c.loop-count-test.true i.placed less.1 i.so_far (sym c.in-Some.is ∙ c.in_ok-path.ensures)

pub returns-in-Some-clause-least : goal.returns-in-Some-clause-least
returns-in-Some-clause-least c = after_as c.args.self.now (Some c.in-Some.path) (returns-in-Some-clause-value c) c.loop-count.invariant.path

pub loop-count-preserved : goal.loop-count-preserved
loop-count-preserved c =
    let i = c.loop-count.invariant in
    let less = total-less c.args.self.now c.loop-count.count c.loop-count.before c.part.result.now c.loop-count-test.true i.placed i.counted c.part.ensures in
    record {
      placed = omega (arith, i.placed);
      counted = less.1;
      so_far = after_before c.args.self.now c.loop-count.count (c.loop-count.before - length c.part.result.now) c.loop-count-test.true i.placed less.1 i.so_far (sym c.in-None.is ∙ c.in_ok-path.ensures);
      path = i.path;
    }

pub returns-clause-value : goal.returns-clause-value
returns-clause-value c = after_none c.args.self.now c.loop-count.count (omega arith) c.loop-count.invariant.so_far

pub returns-clause-least : goal.returns-clause-least
returns-clause-least c = after_as c.args.self.now None (returns-clause-value c) c.loop-count.invariant.path
