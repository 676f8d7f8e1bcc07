use Rattle.std.proofs.Common.{◌∙◌, sym, ap, arith, ℕ, Vec, Global}
use Rattle.std.specs.Option.{option_map}
use Rattle.willow_path.proofs.PathLimits.{total-take, text_of, room_for}
use Rattle.willow_path.proofs.PartSuccessor.{part_after-allowed}
use Rattle.willow_path.proofs.path.Path.raised_at.Goals as goal

pub overflow_sub-before : goal.overflow_sub-before
overflow_sub-before c = omega (arith, total-take c.args.self.now c.args.at, c.requires.before, c.requires.path.short)

pub add-requires : goal.add-requires
add-requires c =
    let text = text_of c.args.self.now c.args.at c.requires.path c.requires.at in
    let found = ap (option_map (λ (v : Vec ℕ Global). v.items)) (sym c.in-Some.is) ∙ c.in_ok-next.ensures in
    rw (c.in_ok-path-in-Some.ensures, c.deref.ensures.value) (room_for c.args.self.now c.args.at c.in-Some.next.items c.requires.path c.requires.at (part_after-allowed _ _ c.in-Some.next.items text (rw (c.min.ensures, c.part.ensures, c.requires.before) at found)))
