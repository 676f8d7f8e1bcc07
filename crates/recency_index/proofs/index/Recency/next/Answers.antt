use Rattle.std.proofs.Common.{Contains, sym, subst}
use Rattle.recency_index.proofs.Taken.{slot_holds}
use Rattle.recency_index.proofs.index.Recency.next.Goals as goal

pub next_by-requires : goal.next_by-requires
next_by-requires c = slot_holds c.self.inside.items c.self.invariant c.args.slot (subst (λ v. Contains v.slots c.args.slot) (sym c.self.view_is) c.requires)
