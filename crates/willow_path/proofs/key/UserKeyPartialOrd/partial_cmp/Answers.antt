use Rattle.std.proofs.Common.{ap, sym, refl, Some, ◌∙◌}
use Rattle.std.specs.declared.cmp.Ordering.{Ordering}
use Rattle.std.specs.Cmp.Lexicographic.{lists_agrees}
use Rattle.willow_path.proofs.key.UserKeyPartialOrd.partial_cmp.Goals as goal

pub returns : goal.returns
returns c = ap (λ (o : Ordering). Some o) c.cmp.ensures ∙ sym (lists_agrees (λ x y. refl) c.args.self.now c.args.other.now)
