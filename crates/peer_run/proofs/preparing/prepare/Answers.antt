use Rattle.std.proofs.Common.{◌++◌, Ok, Err, inl, refl, arith}
use Rattle.std.proofs.lemmas.Result.{err_from_is_err_and}
use Rattle.peer_stage.specs.World.{World}
use Rattle.peer_stage.specs.declared.outcome.Stop.TheVariants as stop
use Rattle.peer_stage.proofs.Steps.{passes, inside_on}
use Rattle.peer_run.specs.Getting.{GetsImage, GetsCapability}
use Rattle.peer_run.specs.Greeting.{Greets}
use Rattle.peer_run.specs.LogFiles.{file_states}
use Rattle.peer_run.specs.LogOpening.{OpensFile}
use Rattle.peer_run.specs.Opening.{OpensLog}
use Rattle.peer_run.specs.Preparing.{no_nonce}
use Rattle.peer_run.specs.declared.preparing.Prepared.{Prepared}
use Rattle.peer_run.proofs.FiledBays.{unopened}
use Rattle.peer_run.proofs.Opened.{opens_as}
use Rattle.peer_run.proofs.preparing.prepare.Goals as goal

pub open_log-requires-clause-few : goal.open_log-requires-clause-few
open_log-requires-clause-few g c κs within = omega (arith, c.in_ok-both.both.rows.ok.0)

pub returns-in_err-image-clause-opened : goal.returns-in_err-image-clause-opened
returns-in_err-image-clause-opened g c = unopened g.K.Disk.facts c.args.file.now _ c.requires.none

pub returns-in_err-image-clause-prepares : goal.returns-in_err-image-clause-prepares
returns-in_err-image-clause-prepares g c =
    let p = err_from_is_err_and c.from_residual.result c.from_residual.ensures.1 in
    rw (p.1, p.2) (λ others. inl (c.in_err-image.ensures (record others { bay = g.B.Bay.facts c.args.bay.now })))

pub returns-in_err-rows-clause-prepares : goal.returns-in_err-rows-clause-prepares
returns-in_err-rows-clause-prepares g c =
    let p = err_from_is_err_and c.from_residual-in_err-rows.result c.from_residual-in_err-rows.ensures.1 in
    let h = g.H.Shelf.facts c.args.shelf.now in
    let h1 = g.H.Shelf.facts c.get_image.new.shelf in
    let b = g.B.Bay.facts c.args.bay.now in
    let b1 = g.B.Bay.facts c.open_file.new.bay in
    rw (p.1, p.2) (λ others.
    let first : World = record others { shelf = h1; bay = b } in
    let second : World = record others { shelf = h1; bay = b1 } in
    passes (GetsImage c.args.image) _ (record others { shelf = h; bay = b }) first second c.in_ok-image.image (Err c.in_err-rows.field-0.0) (c.in_ok-image.ensures (record others { bay = b }))
    (inl (c.in_err-rows.ensures.opens (record others { shelf = h1 }))))

pub returns-in_err-both-clause-prepares : goal.returns-in_err-both-clause-prepares
returns-in_err-both-clause-prepares g c =
    let p = err_from_is_err_and c.from_residual-in_err-both.result c.from_residual-in_err-both.ensures.1 in
    let h = g.H.Shelf.facts c.args.shelf.now in
    let h1 = g.H.Shelf.facts c.get_image.new.shelf in
    let b = g.B.Bay.facts c.args.bay.now in
    let b1 = g.B.Bay.facts c.open_file.new.bay in
    let image = c.in_ok-image.image in
    rw (p.1, p.2) (λ others.
    let first : World = record others { shelf = h1; bay = b } in
    let second : World = record others { shelf = h1; bay = b1 } in
    passes (GetsImage c.args.image) _ (record others { shelf = h; bay = b }) first second image (Err stop.NoMemory) (c.in_ok-image.ensures (record others { bay = b }))
    (passes (OpensFile c.args.log (file_states g.K.Disk.facts c.open_file.new.file) image.namespace) _ first second second c.in_ok-rows.rows (Err stop.NoMemory) (c.in_ok-rows.ensures.opens (record others { shelf = h1 }))
    (inl (tt, refl))))

pub returns-in_err-opening-clause-prepares : goal.returns-in_err-opening-clause-prepares
returns-in_err-opening-clause-prepares g c =
    let p = err_from_is_err_and c.from_residual-in_err-opening.result c.from_residual-in_err-opening.ensures.1 in
    let h = g.H.Shelf.facts c.args.shelf.now in
    let h1 = g.H.Shelf.facts c.get_image.new.shelf in
    let b = g.B.Bay.facts c.args.bay.now in
    let b1 = g.B.Bay.facts c.open_file.new.bay in
    let image = c.in_ok-image.image in
    let both = c.in_ok-both.both in
    let e = c.in_err-opening.field-0.0 in
    let opens = opens_as both.namespace image.namespace both.rows.items _ (Err e) c.in_ok-both.ensures.namespace c.in_ok-both.ensures.rows c.in_err-opening.ensures in
    rw (p.1, p.2) (λ others.
    let first : World = record others { shelf = h1; bay = b } in
    let second : World = record others { shelf = h1; bay = b1 } in
    passes (GetsImage c.args.image) _ (record others { shelf = h; bay = b }) first second image (Err e) (c.in_ok-image.ensures (record others { bay = b }))
    (passes (OpensFile c.args.log (file_states g.K.Disk.facts c.open_file.new.file) image.namespace) _ first second second c.in_ok-rows.rows (Err e) (c.in_ok-rows.ensures.opens (record others { shelf = h1 }))
    (inl (opens, refl))))

pub returns-in_err-capability-clause-prepares : goal.returns-in_err-capability-clause-prepares
returns-in_err-capability-clause-prepares g c =
    let p = err_from_is_err_and c.from_residual-in_err-capability.result c.from_residual-in_err-capability.ensures.1 in
    let h = g.H.Shelf.facts c.args.shelf.now in
    let h1 = g.H.Shelf.facts c.get_image.new.shelf in
    let h2 = g.H.Shelf.facts c.get_capability.new.shelf in
    let b = g.B.Bay.facts c.args.bay.now in
    let b1 = g.B.Bay.facts c.open_file.new.bay in
    let image = c.in_ok-image.image in
    let rows = c.in_ok-rows.rows in
    let both = c.in_ok-both.both in
    let e = c.in_err-capability.field-0.0 in
    let opens = opens_as both.namespace image.namespace both.rows.items _ (Ok c.in_ok-opening.opening) c.in_ok-both.ensures.namespace c.in_ok-both.ensures.rows c.in_ok-opening.ensures in
    rw (p.1, p.2) (λ others.
    let first : World = record others { shelf = h1; bay = b } in
    let second : World = record others { shelf = h1; bay = b1 } in
    let third : World = record others { shelf = h2; bay = b1 } in
    passes (GetsImage c.args.image) _ (record others { shelf = h; bay = b }) first third image (Err e) (c.in_ok-image.ensures (record others { bay = b }))
    (passes (OpensFile c.args.log (file_states g.K.Disk.facts c.open_file.new.file) image.namespace) _ first second third rows (Err e) (c.in_ok-rows.ensures.opens (record others { shelf = h1 }))
    (inside_on (OpensLog image.namespace (image.rows.items ++ rows.items)) _ second third c.in_ok-opening.opening (Err e) opens
    (inl (c.in_err-capability.ensures (record others { bay = b1 }))))))

pub returns-in_err-hello-clause-prepares : goal.returns-in_err-hello-clause-prepares
returns-in_err-hello-clause-prepares g c =
    let p = err_from_is_err_and c.from_residual-in_err-hello.result c.from_residual-in_err-hello.ensures.1 in
    let h = g.H.Shelf.facts c.args.shelf.now in
    let h1 = g.H.Shelf.facts c.get_image.new.shelf in
    let h2 = g.H.Shelf.facts c.get_capability.new.shelf in
    let b = g.B.Bay.facts c.args.bay.now in
    let b1 = g.B.Bay.facts c.open_file.new.bay in
    let image = c.in_ok-image.image in
    let rows = c.in_ok-rows.rows in
    let both = c.in_ok-both.both in
    let e = c.in_err-hello.field-0.0 in
    let opens = opens_as both.namespace image.namespace both.rows.items _ (Ok c.in_ok-opening.opening) c.in_ok-both.ensures.namespace c.in_ok-both.ensures.rows c.in_ok-opening.ensures in
    rw (p.1, p.2) (λ others.
    let first : World = record others { shelf = h1; bay = b } in
    let second : World = record others { shelf = h1; bay = b1 } in
    let third : World = record others { shelf = h2; bay = b1 } in
    passes (GetsImage c.args.image) _ (record others { shelf = h; bay = b }) first third image (Err e) (c.in_ok-image.ensures (record others { bay = b }))
    (passes (OpensFile c.args.log (file_states g.K.Disk.facts c.open_file.new.file) image.namespace) _ first second third rows (Err e) (c.in_ok-rows.ensures.opens (record others { shelf = h1 }))
    (inside_on (OpensLog image.namespace (image.rows.items ++ rows.items)) _ second third c.in_ok-opening.opening (Err e) opens
    (passes (GetsCapability c.args.cap) _ second third third c.in_ok-capability.capability (Err e) (c.in_ok-capability.ensures (record others { bay = b1 }))
    (inl (c.in_err-hello.ensures, refl))))))

pub returns-clause-prepares : goal.returns-clause-prepares
returns-clause-prepares g c =
    let h = g.H.Shelf.facts c.args.shelf.now in
    let h1 = g.H.Shelf.facts c.get_image.new.shelf in
    let h2 = g.H.Shelf.facts c.get_capability.new.shelf in
    let b = g.B.Bay.facts c.args.bay.now in
    let b1 = g.B.Bay.facts c.open_file.new.bay in
    let image = c.in_ok-image.image in
    let rows = c.in_ok-rows.rows in
    let both = c.in_ok-both.both in
    let brings : Prepared = record { opening = c.in_ok-opening.opening; hello = c.in_ok-hello.hello } in
    let opens = opens_as both.namespace image.namespace both.rows.items _ (Ok c.in_ok-opening.opening) c.in_ok-both.ensures.namespace c.in_ok-both.ensures.rows c.in_ok-opening.ensures in
    λ others.
    let first : World = record others { shelf = h1; bay = b } in
    let second : World = record others { shelf = h1; bay = b1 } in
    let third : World = record others { shelf = h2; bay = b1 } in
    passes (GetsImage c.args.image) _ (record others { shelf = h; bay = b }) first third image (Ok brings) (c.in_ok-image.ensures (record others { bay = b }))
    (passes (OpensFile c.args.log (file_states g.K.Disk.facts c.open_file.new.file) image.namespace) _ first second third rows (Ok brings) (c.in_ok-rows.ensures.opens (record others { shelf = h1 }))
    (inside_on (OpensLog image.namespace (image.rows.items ++ rows.items)) _ second third c.in_ok-opening.opening (Ok brings) opens
    (passes (GetsCapability c.args.cap) _ second third third c.in_ok-capability.capability (Ok brings) (c.in_ok-capability.ensures (record others { bay = b1 }))
    (inside_on (Greets image.namespace c.args.area.now c.in_ok-capability.capability no_nonce) _ third third c.in_ok-hello.hello (Ok brings) c.in_ok-hello.ensures (refl, refl)))))
