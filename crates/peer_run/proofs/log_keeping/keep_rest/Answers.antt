use Rattle.std.proofs.Common.{◌-◌, ◌∙◌, ◌≤◌, map, length, OnOk, Some, inl, inr, refl, ap, sym, subst}
use Rattle.ns_state.specs.Log.{plain_row}
use Rattle.peer_run.specs.LogFiles.{HasRoom, KeepsOn, KeepsRest, StopsRest, WantsMemory, file_state, file_states}
use Rattle.peer_run.proofs.KeptSlices.{at_err, of_file, on_err, rest_is, slice_has_room}
use Rattle.peer_run.proofs.log_keeping.keep_rest.Goals as goal

pub keep-requires : goal.keep-requires
keep-requires g c =
    let log = c.args.state.now.log in
    let room = of_file g.K.Disk.facts c.args.file.now c.in-Some.file (λ f. HasRoom (length log - f.front) f × (f.front ≤ length log)) c.in-Some.is c.requires.room in
    record { room = slice_has_room c.deref.result.now log (file_state g.K.Disk.facts c.in-Some.file) room (ap (map plain_row) c.deref.ensures.value ∙ c.in_ok-rows-in-Some.ensures) }

pub returns-in_ok-rows-in-Some-clause-kept : goal.returns-in_ok-rows-in-Some-clause-kept
returns-in_ok-rows-in-Some-clause-kept g c =
    let log = c.args.state.now.log in
    let f = file_state g.K.Disk.facts c.in-Some.file in
    let f' = file_state g.K.Disk.facts c.keep.new.self in
    let room = of_file g.K.Disk.facts c.args.file.now c.in-Some.file (λ f. HasRoom (length log - f.front) f × (f.front ≤ length log)) c.in-Some.is c.requires.room in
    subst (λ file. OnOk c.keep.result (KeepsRest log (file_states g.K.Disk.facts file) (Some f'))) (sym c.in-Some.is)
    (subst (λ rows. OnOk c.keep.result (KeepsOn rows f f')) (rest_is c.deref.result.now log f room (ap (map plain_row) c.deref.ensures.value ∙ c.in_ok-rows-in-Some.ensures)) c.keep.ensures.kept)

-- no row was read
pub returns-in_err-rows-in-Some-clause-stops : goal.returns-in_err-rows-in-Some-clause-stops
returns-in_err-rows-in-Some-clause-stops g c =
    let f = file_state g.K.Disk.facts c.in-Some.file in
    at_err c.from_residual.result (subst (λ file. StopsRest c.args.state.now.log (file_states g.K.Disk.facts file) (Some f)) (sym c.in-Some.is) (inl refl))

pub returns-in_ok-rows-in-Some-clause-stops : goal.returns-in_ok-rows-in-Some-clause-stops
returns-in_ok-rows-in-Some-clause-stops g c =
    let log = c.args.state.now.log in
    let f = file_state g.K.Disk.facts c.in-Some.file in
    let f' = file_state g.K.Disk.facts c.keep.new.self in
    let room = of_file g.K.Disk.facts c.args.file.now c.in-Some.file (λ f. HasRoom (length log - f.front) f × (f.front ≤ length log)) c.in-Some.is c.requires.room in
    let rest = rest_is c.deref.result.now log f room (ap (map plain_row) c.deref.ensures.value ∙ c.in_ok-rows-in-Some.ensures) in
    on_err c.keep.result (λ wants. subst (λ file. StopsRest log (file_states g.K.Disk.facts file) (Some f')) (sym c.in-Some.is) (inr (subst (λ rows. WantsMemory rows f f') rest wants))) c.keep.ensures.wants
