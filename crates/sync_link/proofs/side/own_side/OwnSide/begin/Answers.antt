use Rattle.std.proofs.Common.{None, refl, sym, subst}
use Rattle.sync_link.specs.Held.{IsHeld}
use Rattle.sync_link.specs.declared.side.awaited.Awaited.TheVariants as awaited
use Rattle.sync_link.specs.declared.side.participant.Participant.{Participant}
use Rattle.sync_link.proofs.PieceReads.{begun_held}
use Rattle.sync_link.proofs.side.own_side.OwnSide.begin.Goals as goal

pub invariant_of-result : goal.invariant_of-result
invariant_of-result g c =
    let a = c.args in
    let participant : Participant g.row.R.Denot g.row.S.Denot = record { alloc = a.alloc; scheme = a.scheme; namespace = a.namespace; role = a.role; hello = a.hello; interest = a.interest; signature = None; snapshot = a.snapshot } in
    subst (λ held. IsHeld g.S.Verify.rules g.R.Row.value participant awaited.Hello 0 held) (sym c.new.ensures.items)
    (begun_held g.S.Verify.rules g.R.Row.value participant c.requires.own c.requires.speaks c.requires.rows refl)
