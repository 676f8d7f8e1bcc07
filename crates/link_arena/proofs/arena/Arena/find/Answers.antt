use Rattle.std.proofs.Common.{◌≡◌, ◌≢◌, All, MatchOption, subst, sym, vec_capacity}
use Rattle.std.specs.declared.cmp.Ordering.TheVariants.{Equal}
use Rattle.link_arena.specs.declared.twice.Order.TheVariants.{Key}
use Rattle.link_arena.specs.Arena.{Holds}
use Rattle.link_arena.specs.Ordered.{IsFilled}
use Rattle.link_arena.proofs.Sounds.{slot_told, few_told, key_filled}
use Rattle.link_arena.proofs.arena.Arena.find.Goals as goal

pub returns-clause-found : goal.returns-clause-found
returns-clause-found g c =
    let is = subst (λ slots. IsFilled (g.T.Twice.cmp_by Key) Key slots c.self.inside.tops.key c.self.invariant.0) (sym c.deref.ensures.value) (key_filled _ _ _ _ _ _ _ _ _ c.self.invariant.3) in
    subst (λ a. MatchOption c.find_key.result (All (λ pair. g.T.Twice.cmp_by Key c.args.probe.now pair.1 ≢ Equal) a.by_key) (λ slot. (value : _) × Holds a slot value × (g.T.Twice.cmp_by Key c.args.probe.now value ≡ Equal))) c.self.view_is
    (slot_told _ _ _ _ _ _ _ _ _ c.self.invariant.3 (vec_capacity c.self.inside.slots) c.args.probe.now c.find_key.result (rw c.deref.ensures.value at (c.find_key.ensures.found _ is)))

pub returns-clause-bound : goal.returns-clause-bound
returns-clause-bound g c =
    let is = subst (λ slots. IsFilled (g.T.Twice.cmp_by Key) Key slots c.self.inside.tops.key c.self.invariant.0) (sym c.deref.ensures.value) (key_filled _ _ _ _ _ _ _ _ _ c.self.invariant.3) in
    few_told _ _ _ _ _ _ _ _ _ c.self.invariant.3 _ _ c.self.view_is _ (c.find_key.ensures.bound _ is)
