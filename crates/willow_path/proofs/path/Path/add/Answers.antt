use Rattle.std.proofs.Common.{rules}
use Rattle.spelling.proofs.Lists.{are_bytes}
use Rattle.willow_path.proofs.PathBytes.{AreOfPath-push, parts_of-push}
use Rattle.willow_path.proofs.path.Path.add.Goals as goal

pub invariant_of-self-2 : goal.invariant_of-self-2
invariant_of-self-2 c =
    rw (c.in_ok-extend_from_slice.ensures.ok, c.push_reserved.ensures.items, c.reserve.ensures.items)
    (AreOfPath-push c.self.inside.bytes.items c.args.part.now c.self.invariant (rw c.self.view_is c.requires) (are_bytes c.args.part.now (λ i. search (rules, c.type_inv.part i))))

pub returns-clause-added : goal.returns-clause-added
returns-clause-added c =
    rw (c.in_ok-extend_from_slice.ensures.ok, c.push_reserved.ensures.items, c.reserve.ensures.items, ← c.self.view_is)
    (parts_of-push c.self.inside.bytes.items c.args.part.now c.self.invariant.whole)

pub returns-clause-path : goal.returns-clause-path
returns-clause-path c = (invariant_of-self-2 c).path
