use Rattle.std.proofs.Common.{List, map, length, inl, inr, refl, ap, subst, ◌∙◌, arith}
use Rattle.willow_entry.specs.Row.{RowValue}
use Rattle.ns_state.specs.Log.{plain_row}
use Rattle.peer_run.specs.LogFiles.{KeepsOnIf, WantsMemoryIf, file_states}
use Rattle.peer_run.proofs.HeardBehind.{read_all, read_few, slice_is, slice_room, told_slice}
use Rattle.peer_run.proofs.KeptFiles.{room_of}
use Rattle.peer_run.proofs.KeptSlices.{at_err}
use Rattle.peer_run.proofs.hearing.tell_new.Goals as goal

pub pump-left-requires : goal.pump-left-requires
pump-left-requires g c =
    let own = c.args.own.now.seen in
    let seen = c.read_log.new.pass.seen in
    let is_log = c.in_ok-rows.ensures.pass.log in
    let rows = read_all c.deref-2.result.now _ own seen c.front.result 4294967295 (c.front.ensures ∙ c.requires.front) is_log (omega arith) (ap (map plain_row) c.deref-2.ensures.value ∙ c.in_ok-rows.ensures.rows) in
    omega (arith, c.requires.front, read_few c.deref-2.result.now _ own seen c.in_ok-rows.ensures.later.seen is_log rows)

pub returns-clause-told : goal.returns-clause-told
returns-clause-told g c =
    let own = c.args.own.now.seen in
    let seen = c.read_log.new.pass.seen in
    let is_log = c.in_ok-rows.ensures.pass.log in
    let rows = read_all c.deref-2.result.now _ own seen c.front.result 4294967295 (c.front.ensures ∙ c.requires.front) is_log (omega arith) (ap (map plain_row) c.deref-2.ensures.value ∙ c.in_ok-rows.ensures.rows) in
    told_slice _ _ c.deref-2.result.now _ c.pump-left.result rows c.pump-left.ensures.pumped

pub keep_rows-requires : goal.keep_rows-requires
keep_rows-requires g c =
    let own = c.args.own.now.seen in
    let seen = c.read_log.new.pass.seen in
    let is_log = c.in_ok-rows.ensures.pass.log in
    let rows = read_all c.deref.result.now _ own seen c.front.result 4294967295 (c.front.ensures ∙ c.requires.front) is_log (omega arith) (ap (map plain_row) c.deref.ensures.value ∙ c.in_ok-rows.ensures.rows) in
    record { room = room_of (length own) (length c.deref.result.now) _ c.requires.file (slice_room c.deref.result.now _ own seen c.in_ok-rows.ensures.later.seen is_log rows) }

pub returns-clause-kept : goal.returns-clause-kept
returns-clause-kept g c =
    let own = c.args.own.now.seen in
    let seen = c.read_log.new.pass.seen in
    let is_log = c.in_ok-rows.ensures.pass.log in
    let rows = read_all c.deref.result.now _ own seen c.front.result 4294967295 (c.front.ensures ∙ c.requires.front) is_log (omega arith) (ap (map plain_row) c.deref.ensures.value ∙ c.in_ok-rows.ensures.rows) in
    subst (λ (values : List RowValue). KeepsOnIf values (file_states g.K.Disk.facts c.args.file.now) (file_states g.K.Disk.facts c.keep_rows.new.file)) (slice_is c.deref.result.now _ rows) c.in_ok-keep_rows.ensures.kept

-- nothing was read
pub returns-in_err-rows-clause-stops : goal.returns-in_err-rows-clause-stops
returns-in_err-rows-clause-stops g c = at_err _ (inl refl)

pub returns-in_err-keep_rows-clause-stops : goal.returns-in_err-keep_rows-clause-stops
returns-in_err-keep_rows-clause-stops g c =
    let own = c.args.own.now.seen in
    let seen = c.read_log.new.pass.seen in
    let is_log = c.in_ok-rows.ensures.pass.log in
    let rows = read_all c.deref.result.now _ own seen c.front.result 4294967295 (c.front.ensures ∙ c.requires.front) is_log (omega arith) (ap (map plain_row) c.deref.ensures.value ∙ c.in_ok-rows.ensures.rows) in
    at_err _ (inr (subst (λ (values : List RowValue). WantsMemoryIf values (file_states g.K.Disk.facts c.args.file.now) (file_states g.K.Disk.facts c.keep_rows.new.file)) (slice_is c.deref.result.now _ rows) c.in_err-keep_rows.ensures.wants))
