use Rattle.std.proofs.Common.{◌≡◌, ◌-◌, ◌+◌, ◌∙◌, sym, arith}
use Rattle.lms_core.proofs.Climbs.{climb_turn, climb_none}
use Rattle.lms_core.proofs.verify.climbed.Goals as goal

pub levels-preserved : goal.levels-preserved
levels-preserved c =
    let e : c.args.levels - c.levels.level - 1 ≡ c.args.levels - (c.levels.level + 1) = omega arith in
    let t = rw e at (climb_turn c.args.identifier.now c.levels.at c.levels.reached (c.args.levels - c.levels.level) c.levels.level c.args.path.now (omega arith)) in
    rw (c.parent-reached.ensures, c.field_at-sibling.ensures) (sym t ∙ c.levels.invariant)

pub returns : goal.returns
returns c = sym (climb_none _ _ _ _ _ (omega arith)) ∙ c.levels.invariant
