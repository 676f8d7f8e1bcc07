use Rattle.std.proofs.Common.{ℕ, List, length, inl, ap, subst, arith}
use Rattle.std.specs.Prelude.{Ok, Err}
use Rattle.std.specs.String.{string_bytes}
use Rattle.std.proofs.lemmas.Result.{err_from_is_err_and}
use Rattle.sub_hub.specs.Seen.{hub_seen}
use Rattle.peer_stage.specs.World.{World}
use Rattle.peer_run.specs.Hosting.{PutsImage, Tells, own_role}
use Rattle.peer_run.specs.LogFiles.{file_states}
use Rattle.peer_run.specs.Telling.{TellsHosted, told_behind}
use Rattle.peer_run.proofs.GotImages.{untold}
use Rattle.peer_run.proofs.FiledBays.{none_opened, opened_low}
use Rattle.peer_run.proofs.HostReady.{house_own, house_hello, house_version, house_many, house_signs}
use Rattle.peer_run.proofs.HostSteps.{all_filed, attends_as, attending_stops, drawing_stops, file_stops}
use Rattle.peer_run.proofs.KeptPumps.{rest_room, stops_self}
use Rattle.peer_run.proofs.sessions.host_links.Goals as goal

pub returns-in_err-name : goal.returns-in_err-name
returns-in_err-name g c =
    let p = err_from_is_err_and c.from_residual.result c.from_residual.ensures.1 in
    let d = g.D.Door.facts c.args.door.now in
    let n = g.N.Noise.facts c.args.noise.now in
    let u = hub_seen (λ w. (goal.Watcher-dyn g (w.vtable, w.value)).told w.value) c.args.hub.now in
    let f = file_states g.K.Disk.facts c.open_named.new.file in
    rw (p.1, p.2) (λ others. file_stops c.args.words f f _ _ c.in_err-name.field-0.0 (inl (c.in_err-name.ensures.stops (record others { door = d; noise = n; hub = u }))) c.in_err-name.ensures.opened (stops_self c.in_err-name.field-0.0 f))

pub returns-in_err-draws : goal.returns-in_err-draws
returns-in_err-draws g c =
    let p = err_from_is_err_and c.from_residual-in_err-draws.result c.from_residual-in_err-draws.ensures.1 in
    let h = g.H.Shelf.facts c.args.shelf.now in
    let h1 = g.H.Shelf.facts c.open_named.new.shelf in
    let d = g.D.Door.facts c.args.door.now in
    let n = g.N.Noise.facts c.args.noise.now in
    let n1 = g.N.Noise.facts c.draw_all.new.noise in
    let u = hub_seen (λ w. (goal.Watcher-dyn g (w.vtable, w.value)).told w.value) c.args.hub.now in
    let f = file_states g.K.Disk.facts c.open_named.new.file in
    let b = g.B.Bay.facts c.args.bay.now in
    let b1 = g.B.Bay.facts c.open_named.new.bay in
    rw (p.1, p.2) (λ others. file_stops c.args.words f f _ _ c.in_err-draws.field-0.0 (drawing_stops c.args.words f others h h1 b b1 n n1 d u c.in_ok-name.house (c.in_ok-name.ensures.opens (record others { door = d; noise = n; hub = u })) c.in_err-draws.field-0.0 c.in_err-draws.ensures.draws c.in_err-draws.ensures.faults) c.in_ok-name.ensures.opened (stops_self c.in_err-draws.field-0.0 f))

pub run_sessions-requires-clause-opening : goal.run_sessions-requires-clause-opening
run_sessions-requires-clause-opening g c κs within =
    let w = c.args.words in
    house_own (own_role w.awaited) w.image w.cap w.key w.links w.area w.limits w.log (file_states g.K.Disk.facts c.open_named.new.file) (record untold { shelf = g.H.Shelf.facts c.args.shelf.now; bay = g.B.Bay.facts c.args.bay.now }) (record untold { shelf = g.H.Shelf.facts c.open_named.new.shelf; bay = g.B.Bay.facts c.open_named.new.bay }) c.in_ok-name.house (c.in_ok-name.ensures.opens untold)

pub run_sessions-requires-clause-hello : goal.run_sessions-requires-clause-hello
run_sessions-requires-clause-hello g c κs within =
    let w = c.args.words in
    house_hello (own_role w.awaited) w.image w.cap w.key w.links w.area w.limits w.log (file_states g.K.Disk.facts c.open_named.new.file) (record untold { shelf = g.H.Shelf.facts c.args.shelf.now; bay = g.B.Bay.facts c.args.bay.now }) (record untold { shelf = g.H.Shelf.facts c.open_named.new.shelf; bay = g.B.Bay.facts c.open_named.new.bay }) c.in_ok-name.house (c.in_ok-name.ensures.opens untold)

pub run_sessions-requires-clause-version : goal.run_sessions-requires-clause-version
run_sessions-requires-clause-version g c κs within =
    let w = c.args.words in
    house_version (own_role w.awaited) w.image w.cap w.key w.links w.area w.limits w.log (file_states g.K.Disk.facts c.open_named.new.file) (record untold { shelf = g.H.Shelf.facts c.args.shelf.now; bay = g.B.Bay.facts c.args.bay.now }) (record untold { shelf = g.H.Shelf.facts c.open_named.new.shelf; bay = g.B.Bay.facts c.open_named.new.bay }) c.in_ok-name.house (c.in_ok-name.ensures.opens untold)

pub run_sessions-requires-clause-sign : goal.run_sessions-requires-clause-sign
run_sessions-requires-clause-sign g c κs within =
    let w = c.args.words in
    house_signs (own_role w.awaited) w.image w.cap w.key w.links w.area w.limits w.log (file_states g.K.Disk.facts c.open_named.new.file) (record untold { shelf = g.H.Shelf.facts c.args.shelf.now; bay = g.B.Bay.facts c.args.bay.now }) (record untold { shelf = g.H.Shelf.facts c.open_named.new.shelf; bay = g.B.Bay.facts c.open_named.new.bay }) c.in_ok-name.house (c.in_ok-name.ensures.opens untold)

pub run_sessions-requires-clause-draws : goal.run_sessions-requires-clause-draws
run_sessions-requires-clause-draws g c κs within =
    let w = c.args.words in
    let many = house_many (own_role w.awaited) w.image w.cap w.key w.links w.area w.limits w.log (file_states g.K.Disk.facts c.open_named.new.file) (record untold { shelf = g.H.Shelf.facts c.args.shelf.now; bay = g.B.Bay.facts c.args.bay.now }) (record untold { shelf = g.H.Shelf.facts c.open_named.new.shelf; bay = g.B.Bay.facts c.open_named.new.bay }) c.in_ok-name.house (c.in_ok-name.ensures.opens untold) in
    omega (arith, ap length c.deref.ensures.value, c.in_ok-draws.ensures.draws.0, many, c.in_ok-name.house.signers.ok.0)

pub run_sessions-requires-clause-few : goal.run_sessions-requires-clause-few
run_sessions-requires-clause-few g c κs within =
    let w = c.args.words in
    let many = house_many (own_role w.awaited) w.image w.cap w.key w.links w.area w.limits w.log (file_states g.K.Disk.facts c.open_named.new.file) (record untold { shelf = g.H.Shelf.facts c.args.shelf.now; bay = g.B.Bay.facts c.args.bay.now }) (record untold { shelf = g.H.Shelf.facts c.open_named.new.shelf; bay = g.B.Bay.facts c.open_named.new.bay }) c.in_ok-name.house (c.in_ok-name.ensures.opens untold) in
    omega (arith, many, c.requires.links, c.in_ok-name.house.signers.ok.0)

pub run_sessions-requires-clause-call : goal.run_sessions-requires-clause-call
run_sessions-requires-clause-call g c κs within =
    let w = c.args.words in
    let many = house_many (own_role w.awaited) w.image w.cap w.key w.links w.area w.limits w.log (file_states g.K.Disk.facts c.open_named.new.file) (record untold { shelf = g.H.Shelf.facts c.args.shelf.now; bay = g.B.Bay.facts c.args.bay.now }) (record untold { shelf = g.H.Shelf.facts c.open_named.new.shelf; bay = g.B.Bay.facts c.open_named.new.bay }) c.in_ok-name.house (c.in_ok-name.ensures.opens untold) in
    λ call.
    let one = (c.requires.call call).0 in (
      omega (arith, many, one, c.in_ok-name.house.signers.ok.0),
      none_opened g.K.Disk.facts w.log c.open_named.new.file _ _ (c.requires.call call).1 c.in_ok-name.ensures.opened,
    )

-- a file that was just opened is not too long
pub run_sessions-requires-clause-file : goal.run_sessions-requires-clause-file
run_sessions-requires-clause-file g c κs within = opened_low c.args.words.log (file_states g.K.Disk.facts c.open_named.new.file) _ _ c.in_ok-name.ensures.opened

pub returns-in_err-attended : goal.returns-in_err-attended
returns-in_err-attended g c =
    let p = err_from_is_err_and c.from_residual-in_err-attended.result c.from_residual-in_err-attended.ensures.1 in
    let h = g.H.Shelf.facts c.args.shelf.now in
    let h1 = g.H.Shelf.facts c.open_named.new.shelf in
    let d = g.D.Door.facts c.args.door.now in
    let d1 = g.D.Door.facts c.run_sessions.new.door in
    let n = g.N.Noise.facts c.args.noise.now in
    let n1 = g.N.Noise.facts c.draw_all.new.noise in
    let brings = c.in_ok-name.house in
    let draws = c.in_ok-draws.draws in
    let e = c.in_err-attended.field-0.0 in
    let u = hub_seen (λ w. (goal.Watcher-dyn g (w.vtable, w.value)).told w.value) c.args.hub.now in
    let u1 = hub_seen (λ w. (goal.Watcher-dyn g (w.vtable, w.value)).told w.value) c.run_sessions.new.hub in
    let attends = attends_as c.args.words.awaited c.args.words.follow c.as_str.result.now (string_bytes c.args.words.place) c.deref.result.now draws.items brings d d1 u u1 (Err e) c.as_str.ensures.value c.deref.ensures.value c.in_err-attended.ensures.attends in
    let f = file_states g.K.Disk.facts c.open_named.new.file in
    let b = g.B.Bay.facts c.args.bay.now in
    let b1 = g.B.Bay.facts c.open_named.new.bay in
    let left = file_states g.K.Disk.facts c.run_sessions.new.file in
    rw (p.1, p.2) (λ others. file_stops c.args.words f left _ _ e (attending_stops c.args.words f others h h1 b b1 n n1 d u brings (c.in_ok-name.ensures.opens (record others { door = d; noise = n; hub = u })) draws c.in_ok-draws.ensures.draws c.in_ok-draws.ensures.faults d1 u1 e attends) c.in_ok-name.ensures.opened c.in_err-attended.ensures.stopped)

-- the file is kept up to the end of the log, which has room
pub keep_and_close-requires : goal.keep_and_close-requires
keep_and_close-requires g c =
    let x = c.in_ok-attended.attended in
    record { room = rest_room c.in_ok-name.house.opening.state.log x.state.log (file_states g.K.Disk.facts c.open_named.new.file) (file_states g.K.Disk.facts c.run_sessions.new.file) c.in_ok-attended.ensures.attends.0.is_log.few c.in_ok-attended.ensures.kept }

pub returns : goal.returns
returns g c =
    let h = g.H.Shelf.facts c.args.shelf.now in
    let h1 = g.H.Shelf.facts c.open_named.new.shelf in
    let h2 = g.H.Shelf.facts c.keep_and_close.new.shelf in
    let d = g.D.Door.facts c.args.door.now in
    let d1 = g.D.Door.facts c.run_sessions.new.door in
    let n = g.N.Noise.facts c.args.noise.now in
    let n1 = g.N.Noise.facts c.draw_all.new.noise in
    let brings = c.in_ok-name.house in
    let draws = c.in_ok-draws.draws in
    let x = c.in_ok-attended.attended in
    let u = hub_seen (λ w. (goal.Watcher-dyn g (w.vtable, w.value)).told w.value) c.args.hub.now in
    let u1 = hub_seen (λ w. (goal.Watcher-dyn g (w.vtable, w.value)).told w.value) c.run_sessions.new.hub in
    let attends = attends_as c.args.words.awaited c.args.words.follow c.as_str.result.now (string_bytes c.args.words.place) c.deref.result.now draws.items brings d d1 u u1 (Ok x) c.as_str.ensures.value c.deref.ensures.value c.in_ok-attended.ensures.attends in
    let f = file_states g.K.Disk.facts c.open_named.new.file in
    let middle = file_states g.K.Disk.facts c.run_sessions.new.file in
    let left = file_states g.K.Disk.facts c.keep_and_close.new.file in
    let b = g.B.Bay.facts c.args.bay.now in
    let b1 = g.B.Bay.facts c.open_named.new.bay in
    let ends = c.keep_and_close.ensures in
    λ others.
    let after : World = record others { shelf = h2; door = d1; noise = n1; hub = u1; bay = b1 } in
    let between : World = record others { shelf = h1; door = d1; noise = n1; hub = u1; bay = b1 } in
    let rest = subst (λ (name : List ℕ). Tells (PutsImage name) (told_behind brings.opening.rows brings.opening.first x) (TellsHosted c.args.words.awaited) between after c.keep_and_close.result) c.in_ok-name.ensures.name (ends.told (record others { door = d1; noise = n1; hub = u1; bay = b1 })) in
    all_filed c.args.words f others h h1 b b1 n n1 d u brings (c.in_ok-name.ensures.opens (record others { door = d; noise = n; hub = u })) draws c.in_ok-draws.ensures.draws c.in_ok-draws.ensures.faults d1 u1 x after c.keep_and_close.result middle left attends rest c.in_ok-name.ensures.opened
    c.in_ok-attended.ensures.kept ends.kept ends.stops
