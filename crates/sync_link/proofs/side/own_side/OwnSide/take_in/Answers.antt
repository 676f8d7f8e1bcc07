use Rattle.std.proofs.Common.{rules, ◌≡◌, [], sym, subst}
use Rattle.sync_link.specs.Progress.{State, CountsOn, progress_in}
use Rattle.sync_link.specs.Asking.{AsksWhere}
use Rattle.sync_link.specs.Signing.{OwesIn}
use Rattle.sync_link.specs.Held.{IsHeld, progress_with, state_of}
use Rattle.sync_link.specs.Taking.{IsOpen}
use Rattle.sync_link.specs.declared.side.awaited.Cause.TheVariants as causes
use Rattle.sync_link.specs.declared.side.awaited.Awaited.TheVariants as awaited
use Rattle.sync_link.proofs.HearingOn.{closed_counts_on, held_shut}
use Rattle.sync_link.proofs.side.own_side.OwnSide.take_in.Goals as goal

pub returns-then-not-is_open-clause-counts : goal.returns-then-not-is_open-clause-counts
returns-then-not-is_open-clause-counts g c =
    let accepts = g.S.Verify.rules in
    let value = g.R.Row.value in
    let participant = c.self.inside.participant in
    let inbox = c.self.inside.inbox in
    let is : state_of value participant inbox.due inbox.at inbox.held.items ≡ c.args.self.now = search rules in
    let closed : IsOpen inbox.due → ⊥ = c.is_open.ensures.closed (search rules) in
    subst (λ s. CountsOn (progress_in accepts s) (progress_in accepts s) c.args.piece.now) is (closed_counts_on accepts value participant inbox.due inbox.at inbox.held.items c.args.piece.now [] [] c.self.invariant closed)

pub invariant_of-self-in-Err : goal.invariant_of-self-in-Err
invariant_of-self-in-Err g c =
    let accepts = g.S.Verify.rules in
    let value = g.R.Row.value in
    let inbox = c.self.inside.inbox in
    let new = c.hear_on.new.participant in
    let shut = c.shut.new.inbox in
    subst (λ due. IsHeld accepts value new due shut.at shut.held.items) (sym c.shut.ensures.due)
    (subst (λ held. IsHeld accepts value new (awaited.Nothing causes.Bad) shut.at held) (sym c.shut.ensures.held)
    (held_shut accepts value c.self.inside.participant new inbox.due inbox.at shut.at inbox.held.items c.self.invariant c.hear_on.ensures.keeps c.shut.ensures.at))

pub returns-in-Ok-clause-counts : goal.returns-in-Ok-clause-counts
returns-in-Ok-clause-counts g c =
    let accepts = g.S.Verify.rules in
    let value = g.R.Row.value in
    let inbox = c.self.inside.inbox in
    let new = c.hear_on.new.inbox in
    let is : state_of value c.self.inside.participant inbox.due inbox.at inbox.held.items ≡ c.args.self.now = search rules in
    subst (λ s. CountsOn (progress_in accepts s) (progress_with accepts value c.hear_on.new.participant new.due new.at new.held.items) c.args.piece.now) is c.in-Ok.ensures.counts

pub returns-in-Ok-clause-due : goal.returns-in-Ok-clause-due
returns-in-Ok-clause-due g c =
    let accepts = g.S.Verify.rules in
    let value = g.R.Row.value in
    let inbox = c.self.inside.inbox in
    let is : state_of value c.self.inside.participant inbox.due inbox.at inbox.held.items ≡ c.args.self.now = search rules in
    subst (λ (s : State). AsksWhere s.signature c.hear_on.new.participant.signature c.args.signer.now c.hear_on.new.signer (OwesIn (progress_in accepts s).side c.args.piece.now)) is c.hear_on.ensures.due

pub returns-in-Err-clause-due : goal.returns-in-Err-clause-due
returns-in-Err-clause-due g c =
    let accepts = g.S.Verify.rules in
    let value = g.R.Row.value in
    let inbox = c.self.inside.inbox in
    let is : state_of value c.self.inside.participant inbox.due inbox.at inbox.held.items ≡ c.args.self.now = search rules in
    subst (λ (s : State). AsksWhere s.signature c.hear_on.new.participant.signature c.args.signer.now c.hear_on.new.signer (OwesIn (progress_in accepts s).side c.args.piece.now)) is c.hear_on.ensures.due
