use Rattle.std.proofs.Common.{◌∙◌, Ok, Err, inl, refl, ap}
use Rattle.std.proofs.lemmas.Result.{err_from_is_err_and}
use Rattle.lms_core.specs.declared.scheme.PeerScheme.{PeerScheme}
use Rattle.sync_msg.specs.declared.role.Role.{Role}
use Rattle.sync_link.specs.declared.plan.SessionPlan.{SessionPlan}
use Rattle.peer_make.specs.KeySigners.{HandsSigners}
use Rattle.peer_stage.specs.World.{World}
use Rattle.peer_stage.proofs.Steps.{passes, shelf_on}
use Rattle.peer_run.specs.LogFiles.{file_states}
use Rattle.peer_run.specs.Preparing.{Prepares, plan_of}
use Rattle.peer_run.specs.declared.sessions.House as house
use Rattle.peer_run.proofs.sessions.open_house.Goals as goal

pub returns-in_err-opening-clause-house : goal.returns-in_err-opening-clause-house
returns-in_err-opening-clause-house g c =
    let p = err_from_is_err_and c.from_residual.result c.from_residual.ensures.1 in
    rw (p.1, p.2) (λ others. inl (c.in_err-opening.ensures.prepares others))

pub returns-in_err-signers-clause-house : goal.returns-in_err-signers-clause-house
returns-in_err-signers-clause-house g c =
    let p = err_from_is_err_and c.from_residual-in_err-signers.result c.from_residual-in_err-signers.ensures.1 in
    let h = g.H.Shelf.facts c.args.shelf.now in
    let h1 = g.H.Shelf.facts c.prepare.new.shelf in
    let h2 = g.H.Shelf.facts c.reserve_signers.new.shelf in
    let b = g.B.Bay.facts c.args.bay.now in
    let b1 = g.B.Bay.facts c.prepare.new.bay in
    let f = file_states g.K.Disk.facts c.prepare.new.file in
    let e = c.in_err-signers.field-0.0 in
    let fails = c.in_err-signers.ensures in
    rw (p.1, p.2) (λ others.
    let first : World = record others { shelf = h1; bay = b1 } in
    let second : World = record others { shelf = h2; bay = b1 } in
    passes (Prepares c.args.image c.args.cap c.args.area.now c.args.log f) _ (record others { shelf = h; bay = b }) first second c.in_ok-opening.field-0 (Err e) (c.in_ok-opening.ensures.prepares others)
    (inl (record { does = fails.hands; read_faults = fails.read_faults; write_faults = fails.write_faults; others = refl })))

pub returns-clause-house : goal.returns-clause-house
returns-clause-house g c =
    let h = g.H.Shelf.facts c.args.shelf.now in
    let h1 = g.H.Shelf.facts c.prepare.new.shelf in
    let h2 = g.H.Shelf.facts c.reserve_signers.new.shelf in
    let b = g.B.Bay.facts c.args.bay.now in
    let b1 = g.B.Bay.facts c.prepare.new.bay in
    let f = file_states g.K.Disk.facts c.prepare.new.file in
    let prepared = c.in_ok-opening.field-0 in
    let signers = c.in_ok-signers.signers in
    let hands = c.in_ok-signers.ensures in
    let brings : house.House = record { opening = prepared.opening; plan = c.plan_of.result; signers = signers } in
    λ others.
    let first : World = record others { shelf = h1; bay = b1 } in
    let second : World = record others { shelf = h2; bay = b1 } in
    passes (Prepares c.args.image c.args.cap c.args.area.now c.args.log f) _ (record others { shelf = h; bay = b }) first second prepared (Ok brings) (c.in_ok-opening.ensures.prepares others)
    (shelf_on (HandsSigners c.args.key c.args.links) _ (record others { bay = b1 }) h1 h2 second signers (Ok brings) hands.hands hands.read_faults hands.write_faults
    (ap (λ (plan : SessionPlan PeerScheme). record { opening = prepared.opening; plan = plan; signers = signers }) (c.plan_of.ensures ∙ ap (λ (role : Role). plan_of role prepared.hello c.args.limits) c.own_role.ensures), refl))
