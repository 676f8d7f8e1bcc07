use Rattle.std.proofs.Common.{◌≡◌, ◌+◌, ◌∷◌, ◌∙◌, ℕ, List, Option, None, Contains, length, vec_len, refl, ap, sym, subst, arith}
use Rattle.std.specs.List.{All}
use Rattle.std.specs.Prelude.{option_map}
use mathlib.Core.List.{IsPrefix}
use Rattle.willow_entry.specs.declared.row.LogRow.{LogRow}
use Rattle.std.proofs.lemmas.Result.{err_from_is_err_and}
use Rattle.auth_entry.specs.Authorised.{AuthorisedValue}
use Rattle.auth_entry.specs.Rows.{entry_row}
use Rattle.lms_core.specs.Use.{peer_rules}
use Rattle.lms_core.specs.declared.scheme.PeerScheme.{PeerScheme}
use Rattle.log_rule.proofs.Prefixes.{prefix_length}
use Rattle.ns_cell.specs.Passes.{IsPassOf, PassValue}
use Rattle.ns_state.specs.Log.{IsLog}
use Rattle.sub_hub.specs.Hubs.{HubValue}
use Rattle.sub_hub.specs.Seen.{hub_seen}
use Rattle.sync_hello.specs.Checked.{hello_refusal}
use Rattle.sync_core.specs.SyncRules.{IsVersion}
use Rattle.sync_link.specs.Plans.{own_hello, planned}
use Rattle.sync_link.specs.declared.plan.SessionPlan.{SessionPlan}
use Rattle.peer_stage.specs.declared.outcome.Stop.TheVariants as stop
use Rattle.peer_run.specs.LogFiles.{FileState, IsAtIf, begun_at, file_states}
use Rattle.peer_run.specs.Preparing.{nonce_of}
use Rattle.peer_run.specs.Behind.{AreEmpty}
use Rattle.peer_run.proofs.BehindVisits.{as_many_of, as_many_passes, few_of, of_cell, seen_behind}
use Rattle.peer_run.proofs.Guests.{Passes, attends, own_first, passes_of, unasked, unheard}
use Rattle.peer_run.proofs.HeardBehind.{begun_is, heard_as, seen_front, seen_most}
use Rattle.peer_run.proofs.KeptPumps.{begun_at_if, kept_as, left_kept, left_stops, stops_self}
use Rattle.peer_run.proofs.Paired.{as_signed, all_may, all_back, link_each, links_out, partings_of_cell, seen_own, unused_of_cell}
use Rattle.peer_run.proofs.hosting.attend.Goals as goal

-- ---- where nobody came

pub returns-in_err-area-clause-attends : goal.returns-in_err-area-clause-attends
returns-in_err-area-clause-attends g c =
    let p = err_from_is_err_and c.from_residual.result c.from_residual.ensures.1 in
    rw (p.1, p.2) (unasked c.args.feeds c.args.place.now c.args.plan.ask (λ draw. planned peer_rules c.args.state.namespace c.args.plan (nonce_of draw)) c.args.signers.items c.args.draws.now c.args.state (g.D.Door.facts c.args.door.now) (hub_seen (λ w. (goal.Watcher-dyn g (w.vtable, w.value)).told w.value) c.args.hub.now))

pub returns-in_err-area-clause-stopped : goal.returns-in_err-area-clause-stopped
returns-in_err-area-clause-stopped g c =
    let p = err_from_is_err_and c.from_residual.result c.from_residual.ensures.1 in
    rw (p.1, p.2) (stops_self stop.NoMemory (file_states g.K.Disk.facts c.args.file.now))

pub returns-in_err-room-clause-attends : goal.returns-in_err-room-clause-attends
returns-in_err-room-clause-attends g c =
    let p = err_from_is_err_and c.from_residual-in_err-room.result c.from_residual-in_err-room.ensures.1 in
    rw (p.1, p.2) (unasked c.args.feeds c.args.place.now c.args.plan.ask (λ draw. planned peer_rules c.args.state.namespace c.args.plan (nonce_of draw)) c.args.signers.items c.args.draws.now c.args.state (g.D.Door.facts c.args.door.now) (hub_seen (λ w. (goal.Watcher-dyn g (w.vtable, w.value)).told w.value) c.args.hub.now))

pub returns-in_err-room-clause-stopped : goal.returns-in_err-room-clause-stopped
returns-in_err-room-clause-stopped g c =
    let p = err_from_is_err_and c.from_residual-in_err-room.result c.from_residual-in_err-room.ensures.1 in
    rw (p.1, p.2) (stops_self stop.NoMemory (file_states g.K.Disk.facts c.args.file.now))

pub returns-in_err-workers-clause-attends : goal.returns-in_err-workers-clause-attends
returns-in_err-workers-clause-attends g c =
    let p = err_from_is_err_and c.from_residual-in_err-workers.result c.from_residual-in_err-workers.ensures.1 in
    rw (p.1, p.2) (unasked c.args.feeds c.args.place.now c.args.plan.ask (λ draw. planned peer_rules c.args.state.namespace c.args.plan (nonce_of draw)) c.args.signers.items c.args.draws.now c.args.state (g.D.Door.facts c.args.door.now) (hub_seen (λ w. (goal.Watcher-dyn g (w.vtable, w.value)).told w.value) c.args.hub.now))

pub returns-in_err-workers-clause-stopped : goal.returns-in_err-workers-clause-stopped
returns-in_err-workers-clause-stopped g c =
    let p = err_from_is_err_and c.from_residual-in_err-workers.result c.from_residual-in_err-workers.ensures.1 in
    rw (p.1, p.2) (stops_self stop.NoMemory (file_states g.K.Disk.facts c.args.file.now))

pub returns-in_err-listen-clause-attends : goal.returns-in_err-listen-clause-attends
returns-in_err-listen-clause-attends g c =
    let p = err_from_is_err_and c.from_residual-in_err-listen.result c.from_residual-in_err-listen.ensures.1 in
    rw (p.1, p.2) (unheard c.args.feeds c.args.place.now c.args.plan.ask (λ draw. planned peer_rules c.args.state.namespace c.args.plan (nonce_of draw)) c.args.signers.items c.args.draws.now c.args.state (g.D.Door.facts c.args.door.now) (g.D.Door.facts c.listen.new.door) (hub_seen (λ w. (goal.Watcher-dyn g (w.vtable, w.value)).told w.value) c.args.hub.now) c.in_err-listen.field-0.0 c.in_err-listen.ensures)

pub returns-in_err-listen-clause-stopped : goal.returns-in_err-listen-clause-stopped
returns-in_err-listen-clause-stopped g c =
    let p = err_from_is_err_and c.from_residual-in_err-listen.result c.from_residual-in_err-listen.ensures.1 in
    rw (p.1, p.2) (stops_self c.in_err-listen.field-0.0 (file_states g.K.Disk.facts c.args.file.now))

-- ---- what the links are accepted with

pub receive-received-requires-clause-guests : goal.receive-received-requires-clause-guests
receive-received-requires-clause-guests g c κs within =
    let room = c.in_ok-room.room in
    let is = c.in_ok-room.ensures.room in
    all_may room.hall is.own_namespace
    (λ draw. subst (λ (plan : SessionPlan PeerScheme). hello_refusal peer_rules room.hall.cell.namespace (own_hello plan (nonce_of draw)) ≡ None) (sym is.plan_is)
    (subst (λ (n : List ℕ). hello_refusal peer_rules n (own_hello c.args.plan (nonce_of draw)) ≡ None) (sym is.of_namespace) (c.requires.hello draw)))
    (subst (λ (plan : SessionPlan PeerScheme). IsVersion plan.version) (sym is.plan_is) c.requires.version)
    room.own (room.own ∷ passes_of room.guests.items) room.guests.items c.args.signers.items c.args.draws.now refl is.signers_are is.nonces_are is.of_cell c.requires.sign

pub receive-received-requires-clause-workers : goal.receive-received-requires-clause-workers
receive-received-requires-clause-workers g c κs within =
    let made = c.in_ok-workers.ensures in
    (ap (λ workers. workers.host) made, ap (λ workers. workers.begun) made, omega (arith, ap (λ workers. workers.room) made, c.len.ensures, c.in_ok-room.room.guests.ok.0))

-- the own pass has seen the opening log, at the end of which the hub was begun
pub receive-received-requires-clause-own : goal.receive-received-requires-clause-own
receive-received-requires-clause-own g c κs within =
    let room = c.in_ok-room.room in
    let is = c.in_ok-room.ensures.room in
    let first = own_first room.hall.cell c.args.state.log room.own room.guests.items (1 + length c.args.signers.items) is.passes_are in
    let seen = ap (λ (pass : PassValue AuthorisedValue). pass.seen) first in (
      is.of_cell 0 room.own (omega arith),
      subst (λ (n : List ℕ). IsLog entry_row n room.own.seen) (sym is.of_namespace) (subst (IsLog entry_row c.args.state.namespace) (sym seen) c.front-front.ensures.log),
      ap (λ (hub : HubValue). hub.front) c.begin.ensures ∙ (c.front-front.ensures.front ∙ ap length (sym seen)),
    )

-- the file is kept from the opening log on
pub receive-received-requires-clause-file : goal.receive-received-requires-clause-file
receive-received-requires-clause-file g c κs within =
    let room = c.in_ok-room.room in
    let first = own_first room.hall.cell c.args.state.log room.own room.guests.items (1 + length c.args.signers.items) c.in_ok-room.ensures.room.passes_are in
    let seen = ap (λ (pass : PassValue AuthorisedValue). length pass.seen) first in
    let at : c.front-front.result ≡ length room.own.seen = c.front-front.ensures.front ∙ sym seen in
    subst (λ (file : Option FileState). IsAtIf (length room.own.seen) file) (sym c.keep_from.ensures)
    (subst (λ (k : ℕ). IsAtIf k (option_map (begun_at c.front-front.result) (file_states g.K.Disk.facts c.args.file.now))) at (begun_at_if c.front-front.result (file_states g.K.Disk.facts c.args.file.now) c.requires.file))

-- ---- what they leave

pub end_visits-behind-requires-clause-own : goal.end_visits-behind-requires-clause-own
end_visits-behind-requires-clause-own g c κs within = c.receive-received.ensures.own.later.cell ∙ c.in_ok-room.ensures.room.of_cell 0 c.in_ok-room.room.own (omega arith)

pub end_visits-behind-requires-clause-partings : goal.end_visits-behind-requires-clause-partings
end_visits-behind-requires-clause-partings g c κs within =
    partings_of_cell c.in_ok-room.room.hall c.in_ok-room.room.guests.items (g.D.Door.facts c.listen.new.door) (g.D.Door.facts c.receive-received.new.door) _ _ _ _ c.receive-received.ensures.received

pub end_visits-behind-requires-clause-unused : goal.end_visits-behind-requires-clause-unused
end_visits-behind-requires-clause-unused g c κs within =
    let room = c.in_ok-room.room in
    unused_of_cell room.hall room.guests.items (g.D.Door.facts c.listen.new.door) (g.D.Door.facts c.receive-received.new.door) _ _ _ _ c.receive-received.ensures.received room.own (room.own ∷ passes_of room.guests.items) refl c.in_ok-room.ensures.room.of_cell

pub end_visits-behind-requires-clause-opened : goal.end_visits-behind-requires-clause-opened
end_visits-behind-requires-clause-opened g c κs within =
    seen_own c.in_ok-room.room.hall c.in_ok-room.room.guests.items (g.D.Door.facts c.listen.new.door) (g.D.Door.facts c.receive-received.new.door) _ _ _ _ c.receive-received.ensures.received

pub end_visits-behind-requires-clause-many : goal.end_visits-behind-requires-clause-many
end_visits-behind-requires-clause-many g c κs within =
    let received = c.receive-received.result in
    let each = link_each c.in_ok-room.room.hall c.in_ok-room.room.guests.items (g.D.Door.facts c.listen.new.door) (g.D.Door.facts c.receive-received.new.door) _ _ _ _ c.receive-received.ensures.received in
    let many = as_many_of _ received.links.items _ each in
    omega (arith, many, received.links.ok.0, received.partings.ok.0)

pub end_visits-behind-requires-clause-few : goal.end_visits-behind-requires-clause-few
end_visits-behind-requires-clause-few g c κs within =
    let room = c.in_ok-room.room in
    let received = c.receive-received.result in
    let back = all_back room.hall room.guests.items (g.D.Door.facts c.listen.new.door) (g.D.Door.facts c.receive-received.new.door) _ _ _ _ c.receive-received.ensures.received in
    let each = as_signed room.guests.items in
    omega (arith, back, each, ap length c.in_ok-room.ensures.room.signers_are, received.partings.ok.0, received.unused.ok.0, c.requires.few, c.args.signers.ok.0)

pub end_visits-behind-requires-clause-out : goal.end_visits-behind-requires-clause-out
end_visits-behind-requires-clause-out g c κs within =
    let received = c.receive-received.result in
    let out = links_out c.in_ok-room.room.hall c.in_ok-room.room.guests.items (g.D.Door.facts c.listen.new.door) (g.D.Door.facts c.receive-received.new.door) _ _ _ _ c.receive-received.ensures.received in
    let few = few_of _ received.links.items _ out in
    omega (arith, few, received.links.ok.0)

pub end_visits-behind-requires-clause-lists : goal.end_visits-behind-requires-clause-lists
end_visits-behind-requires-clause-lists g c κs within =
    let room = c.in_ok-room.room in
    let received = c.receive-received.result in
    let back = all_back room.hall room.guests.items (g.D.Door.facts c.listen.new.door) (g.D.Door.facts c.receive-received.new.door) _ _ _ _ c.receive-received.ensures.received in
    let many : vec_len room.guests ≡ vec_len received.partings + vec_len received.unused = omega (arith, back, room.guests.ok.0, received.partings.ok.0, received.unused.ok.0) in
    subst (λ (n : ℕ). AreEmpty n room.lists) many c.in_ok-room.ensures.lists

-- all passes are of the cell
pub leave-requires-clause-passes : goal.leave-requires-clause-passes
leave-requires-clause-passes g c =
    let room = c.in_ok-room.room in
    let received = c.receive-received.result in
    let behind = c.end_visits-behind.ensures.behind in
    let old = g.D.Door.facts c.listen.new.door in
    let new = g.D.Door.facts c.receive-received.new.door in
    let did = c.receive-received.ensures.received in
    let own = c.receive-received.ensures.own.later.cell ∙ c.in_ok-room.ensures.room.of_cell 0 room.own (omega arith) in
    subst (All (IsPassOf room.hall.cell)) (sym behind.passes)
    (of_cell room.hall.cell received.own behind.own_now received.partings.items received.unused.items behind.others behind.own_read behind.others_read own (partings_of_cell room.hall room.guests.items old new _ _ _ _ did)
    (unused_of_cell room.hall room.guests.items old new _ _ _ _ did room.own (room.own ∷ passes_of room.guests.items) refl c.in_ok-room.ensures.room.of_cell))

pub leave-requires-clause-all : goal.leave-requires-clause-all
leave-requires-clause-all g c =
    let room = c.in_ok-room.room in
    let received = c.receive-received.result in
    let behind = c.end_visits-behind.ensures.behind in
    let back = all_back room.hall room.guests.items (g.D.Door.facts c.listen.new.door) (g.D.Door.facts c.receive-received.new.door) _ _ _ _ c.receive-received.ensures.received in
    let each = as_signed room.guests.items in
    let signed = ap length c.in_ok-room.ensures.room.signers_are in
    let many = as_many_passes received.partings.items received.unused.items behind.others behind.others_read in
    omega (arith, back, each, signed, many, ap length behind.passes, c.end_visits-behind.result.passes.ok.0, c.in_ok-room.ensures.room.as_many)

-- the hub's front is the end of what the own pass had seen, which it still has
pub leave-requires-clause-front : goal.leave-requires-clause-front
leave-requires-clause-front g c =
    let room = c.in_ok-room.room in
    let is = c.in_ok-room.ensures.room in
    let log = c.args.state.log in
    let first = own_first room.hall.cell log room.own room.guests.items (1 + length c.args.signers.items) is.passes_are in
    let u = hub_seen (λ w. (goal.Watcher-dyn g (w.vtable, w.value)).told w.value) c.args.hub.now in
    let received = c.receive-received.result in
    let behind = c.end_visits-behind.ensures.behind in
    let begun = begun_is c.args.plan.ask c.in_ok-area.area log c.front-front.result u _ c.begin.ensures c.front-front.ensures.front c.in_ok-area.ensures in
    let heard = heard_as c.args.plan.ask room.hall.cell.namespace c.args.state.namespace room.own.seen log received.own.seen received.stopped u _ _ received.left is.of_namespace (ap (λ (pass : PassValue AuthorisedValue). pass.seen) first) begun c.receive-received.ensures.heard in
    λ unwanted.
    let at = seen_front c.args.plan.ask c.args.state.namespace log received.own.seen received.stopped u _ received.left heard (λ wants. unwanted (c.end_visits-behind.ensures.stopped ∙ wants)) in
    (behind.own_now, subst (λ (ps : Passes). Contains ps behind.own_now) (sym behind.passes) (0, omega arith, refl), omega (arith, at, prefix_length received.own.seen behind.own_now.seen behind.own_read.later.seen))

pub leave-requires-clause-few : goal.leave-requires-clause-few
leave-requires-clause-few g c =
    let room = c.in_ok-room.room in
    let is = c.in_ok-room.ensures.room in
    let log = c.args.state.log in
    let first = own_first room.hall.cell log room.own room.guests.items (1 + length c.args.signers.items) is.passes_are in
    let u = hub_seen (λ w. (goal.Watcher-dyn g (w.vtable, w.value)).told w.value) c.args.hub.now in
    let received = c.receive-received.result in
    let begun = begun_is c.args.plan.ask c.in_ok-area.area log c.front-front.result u _ c.begin.ensures c.front-front.ensures.front c.in_ok-area.ensures in
    let heard = heard_as c.args.plan.ask room.hall.cell.namespace c.args.state.namespace room.own.seen log received.own.seen received.stopped u _ _ received.left is.of_namespace (ap (λ (pass : PassValue AuthorisedValue). pass.seen) first) begun c.receive-received.ensures.heard in
    omega (arith, c.end_visits-behind.ensures.left, seen_most c.args.plan.ask c.args.state.namespace log received.own.seen received.stopped u _ received.left heard)

-- ---- in all

pub returns-clause-attends : goal.returns-clause-attends
returns-clause-attends g c =
    let room = c.in_ok-room.room in
    let is = c.in_ok-room.ensures.room in
    let log = c.args.state.log in
    let first = own_first room.hall.cell log room.own room.guests.items (1 + length c.args.signers.items) is.passes_are in
    let u = hub_seen (λ w. (goal.Watcher-dyn g (w.vtable, w.value)).told w.value) c.args.hub.now in
    let received = c.receive-received.result in
    let begun = begun_is c.args.plan.ask c.in_ok-area.area log c.front-front.result u _ c.begin.ensures c.front-front.ensures.front c.in_ok-area.ensures in
    let heard = heard_as c.args.plan.ask room.hall.cell.namespace c.args.state.namespace room.own.seen log received.own.seen received.stopped u _ _ received.left is.of_namespace (ap (λ (pass : PassValue AuthorisedValue). pass.seen) first) begun c.receive-received.ensures.heard in
    attends c.args.feeds c.args.place.now c.args.plan c.args.signers.items c.args.draws.now c.args.state room.hall room.own received.own c.receive-received.ensures.own room.guests.items c.requires.opening
    _ _ _ received.stopped (g.D.Door.facts c.args.door.now) (g.D.Door.facts c.listen.new.door) (g.D.Door.facts c.receive-received.new.door) (g.D.Door.facts c.end_visits-behind.new.door) c.end_visits-behind.result is.plan_is is.of_namespace
    c.in_ok-listen.ensures c.receive-received.ensures.received c.end_visits-behind.ensures.behind c.end_visits-behind.ensures.stopped (1 + length c.args.signers.items) c.leave.result is.passes_are is.signers_are is.nonces_are
    c.leave.ensures.leaves u _ _ received.left _ heard c.end_visits-behind.ensures.left (seen_front c.args.plan.ask c.args.state.namespace log received.own.seen received.stopped u _ received.left heard) c.leave.ensures.told c.leave.ensures.untold

pub returns-clause-kept : goal.returns-clause-kept
returns-clause-kept g c =
    let room = c.in_ok-room.room in
    let log = c.args.state.log in
    let first = own_first room.hall.cell log room.own room.guests.items (1 + length c.args.signers.items) c.in_ok-room.ensures.room.passes_are in
    let seen = ap (λ (pass : PassValue AuthorisedValue). pass.seen) first in
    let received = c.receive-received.result in
    let f = file_states g.K.Disk.facts c.args.file.now in
    let f' = file_states g.K.Disk.facts c.receive-received.new.file in
    let kept = kept_as room.own.seen log received.own.seen received.stopped _ (option_map (begun_at c.front-front.result) f) f' seen c.keep_from.ensures c.receive-received.ensures.kept in
    left_kept room.hall received.own c.end_visits-behind.result c.leave.result (seen_behind c.args.feeds received.own _ _ _ _ _ c.end_visits-behind.result c.end_visits-behind.ensures.behind) log c.front-front.result received.stopped f f'
    c.end_visits-behind.ensures.stopped c.leave.ensures.leaves c.front-front.ensures.front
    (subst (λ (l : List (LogRow AuthorisedValue)). IsPrefix l received.own.seen) seen c.receive-received.ensures.own.later.seen) c.requires.file kept

pub returns-clause-stopped : goal.returns-clause-stopped
returns-clause-stopped g c =
    let room = c.in_ok-room.room in
    let log = c.args.state.log in
    let first = own_first room.hall.cell log room.own room.guests.items (1 + length c.args.signers.items) c.in_ok-room.ensures.room.passes_are in
    let seen = ap (λ (pass : PassValue AuthorisedValue). pass.seen) first in
    let received = c.receive-received.result in
    let f = file_states g.K.Disk.facts c.args.file.now in
    let f' = file_states g.K.Disk.facts c.receive-received.new.file in
    let kept = kept_as room.own.seen log received.own.seen received.stopped _ (option_map (begun_at c.front-front.result) f) f' seen c.keep_from.ensures c.receive-received.ensures.kept in
    left_stops room.hall received.own c.end_visits-behind.result c.leave.result log c.front-front.result received.stopped f f' c.leave.ensures.leaves kept
