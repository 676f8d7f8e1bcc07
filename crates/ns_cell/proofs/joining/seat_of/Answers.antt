use Rattle.std.proofs.Common.{◌∷◌, [], refl, subst, inl}
use Rattle.willow_entry.proofs.Members.{contains_from_member}
use Rattle.ns_cell.specs.Joined.{IsJoined}
use Rattle.ns_cell.specs.Seats.{pass_of}
use Rattle.ns_cell.proofs.joining.seat_of.Goals as goal

pub returns-clause-joined : goal.returns-clause-joined
returns-clause-joined g c =
    let rest = c.pass.invariant.0 in
    let seat = c.pass.inside.seat in
    let pass = pass_of seat.table_id c.pass.inside.number seat.me in
    subst (λ p. IsJoined g.R.Row.value p.cell (p ∷ []) seat.me.0) c.pass.view_is (record {
      cell_is = refl;
      role = rest.role;
      parts = rest.parts;
      books = rest.books;
      seen = (contains_from_member (seat.me.0.seen ∷ seat.me.0.older) seat.me.0.seen (inl refl), tt);
      longest = (pass, contains_from_member (pass ∷ []) pass (inl refl), refl);
      kept = (rest.own, tt);
      log = rest.log;
    })
