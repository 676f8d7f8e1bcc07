use Rattle.std.proofs.Common.{arith, ap, length}
use Rattle.std.proofs.lemmas.List.{with_items_is}
use Rattle.link_arena.proofs.Inserts.{vacant_first, none_vacant, can_add_to, inserted}
use Rattle.link_arena.proofs.arena.Arena.insert.Goals as goal

pub fill-filled-requires-clause-vacant : goal.fill-filled-requires-clause-vacant
fill-filled-requires-clause-vacant g c = let k = c.self.invariant.3 in vacant_first _ _ _ k.within k.vacant_are

pub fill-filled-requires-clause-room : goal.fill-filled-requires-clause-room
fill-filled-requires-clause-room g c = λ none.
    let k = c.self.invariant.3 in
    let empty = none_vacant _ _ _ none k.vacant_are in
    let spare = ap (λ a. a.spare) c.self.view_is in
    omega (arith, ap length empty, k.all, c.requires.room)

pub add_both-self-inside-requires : goal.add_both-self-inside-requires
add_both-self-inside-requires g c = (
  _,
  (
    _,
    can_add_to g.T.Twice.cmp_by _ _ _ _ _ _ _ c.self.inside.held _ c.args.value c.self.invariant g.met.T.Twice.total g.met.T.Twice.apart _ _ c.self.view_is c.requires.room c.requires.free
        c.fill-filled.ensures.filled c.as_mut_slice.ensures.value,
  ),
)

pub invariant_of-self : goal.invariant_of-self
invariant_of-self g c =
    (inserted g.T.Twice.cmp_by _ _ _ _ _ _ _ c.self.inside.held _ c.args.value c.self.invariant g.met.T.Twice.total g.met.T.Twice.apart _ _ c.self.view_is c.requires.room c.requires.free
    c.fill-filled.ensures.filled c.as_mut_slice.ensures.value _ _ _ _ c.add_both-self-inside.ensures.added c.add_both-self-inside.ensures.contents (omega arith)
    (with_items_is c.fill-filled.new.slots c.add_both-self-inside.new.slots (omega arith))).sound

pub returns : goal.returns
returns g c =
    let made = inserted g.T.Twice.cmp_by _ _ _ _ _ _ _ c.self.inside.held _ c.args.value c.self.invariant g.met.T.Twice.total g.met.T.Twice.apart _ _ c.self.view_is c.requires.room c.requires.free
    c.fill-filled.ensures.filled c.as_mut_slice.ensures.value _ _ _ _ c.add_both-self-inside.ensures.added c.add_both-self-inside.ensures.contents (omega arith)
    (with_items_is c.fill-filled.new.slots c.add_both-self-inside.new.slots (omega arith)) in
    record {
      by_key = made.by_key;
      by_rank = made.by_rank;
      orders = made.orders _;
      spare = let spare = ap (λ a. a.spare) c.self.view_is in omega (arith, c.requires.room);
    }
