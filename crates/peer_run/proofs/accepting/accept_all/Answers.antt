use Rattle.std.proofs.Common.{◌≡◌, List, ◌∷◌, Some, None, All, length, refl, sym, ap, ◌∙◌, subst, arith}
use Rattle.link_host.specs.Begun.{Begun, HaveLinks, WorkersValue}
use Rattle.link_host.proofs.Coming.{none_came, one_more_came}
use Rattle.link_host.proofs.Passing.{left_have}
use Rattle.auth_entry.specs.Rows.{entry_row}
use Rattle.ns_state.specs.Log.{IsLog}
use Rattle.ns_cell.specs.Passes.{CellValue}
use Rattle.sync_link.proofs.Offered.{later_self, later_trans}
use Rattle.peer_run.specs.Accepting.{LinksHaveCome}
use Rattle.peer_run.specs.Hall.{MayVisit}
use Rattle.peer_run.specs.LogFiles.{file_states}
use Rattle.peer_run.specs.declared.hall.Guest.{Guest}
use Rattle.peer_run.specs.declared.hall.Hall.{Hall}
use Rattle.peer_run.proofs.HeardBehind.{front_is, heard_none, heard_on}
use Rattle.peer_run.proofs.KeptPumps.{at_seen, kept_further, kept_none, kept_so, kept_some}
use Rattle.peer_run.proofs.LinksTold.{no_more_links}
use Rattle.peer_run.proofs.accepting.accept_all.Goals as goal

pub loop-guest-init : goal.loop-guest-init
loop-guest-init g c =
    let same = c.from-unused.ensures.0 in
    let d = g.D.Door.facts c.args.door.now in
    record {
      may = subst (All (MayVisit c.args.hall.now)) (sym same) c.requires.guests;
      host = c.requires.workers.0;
      have = subst (λ (guests : List Guest). HaveLinks c.args.guests.items d d c.args.workers.begun guests) (sym same) (none_came c.args.guests.items d c.args.workers.begun c.requires.workers.1);
      room = omega (arith, ap length same, c.requires.workers.2);
      read = record { later = later_self c.args.own; own = refl };
      heard = heard_none c.args.hall.now.cell.namespace c.args.own.seen _ c.requires.own.1;
      kept = kept_none c.args.own.seen (file_states g.K.Disk.facts c.args.file.now) c.requires.file;
    }

pub returns-in-Err-clause-came : goal.returns-in-Err-clause-came
returns-in-Err-clause-came g c =
    let inv = c.loop-guest.invariant in
    let failed = c.in-Err.ensures in
    let guests = c.args.guests.items in
    let d = g.D.Door.facts c.args.door.now in
    let d1 = g.D.Door.facts c.loop-guest.door in
    let d2 = g.D.Door.facts c.accept.new.door in
    let left = c.pop_front.new.self.items in
    let unused = c.push_front_reserved.new.self.items in
    let pushed : unused ≡ c.in-Some.guest ∷ left = cc (c.push_front_reserved.ensures.items, c.in-Err.job-is, failed.begins.0) in
    subst (λ (begun : List (Begun Guest)). LinksHaveCome guests d d2 begun unused (Some c.in-Err.field-0.fault)) (sym (ap (λ (workers : WorkersValue Hall Guest). workers.begun) failed.begins.1))
    (no_more_links guests d d1 d2 c.loop-guest.workers.begun c.loop-guest.unused.items left unused c.in-Some.guest c.in-Err.field-0.fault inv.have c.in-Some.ensures.items pushed failed.accepts failed.out failed.asked failed.back failed.cause)

pub tell_new-requires-clause-front : goal.tell_new-requires-clause-front
tell_new-requires-clause-front g c =
    front_is c.args.hall.now.cell.namespace c.args.own.seen c.loop-guest.own.seen _ _ c.loop-guest.left c.loop-guest.invariant.heard c.requires.own.2

pub returns-in-Err-clause-kept : goal.returns-in-Err-clause-kept
returns-in-Err-clause-kept g c = kept_so c.args.own.seen c.loop-guest.own.seen (Some c.in-Err.field-0.fault) _ _ c.loop-guest.invariant.read.later.seen c.loop-guest.invariant.kept

pub tell_new-requires-clause-file : goal.tell_new-requires-clause-file
tell_new-requires-clause-file g c =
    at_seen c.args.own.seen c.loop-guest.own.seen (file_states g.K.Disk.facts c.args.file.now) (file_states g.K.Disk.facts c.loop-guest.file) c.loop-guest.invariant.read.later.seen c.requires.file c.loop-guest.invariant.kept

pub returns-in_default-tell_new-clause-kept : goal.returns-in_default-tell_new-clause-kept
returns-in_default-tell_new-clause-kept g c =
    kept_some c.args.own.seen c.loop-guest.own.seen c.tell_new.new.own.seen (file_states g.K.Disk.facts c.args.file.now) (file_states g.K.Disk.facts c.loop-guest.file) (file_states g.K.Disk.facts c.tell_new.new.file) c.loop-guest.invariant.read.later.seen c.tell_new.ensures.later.seen c.loop-guest.invariant.kept c.in_default-tell_new.ensures.stops

pub returns-clause-kept : goal.returns-clause-kept
returns-clause-kept g c = kept_so c.args.own.seen c.loop-guest.own.seen None _ _ c.loop-guest.invariant.read.later.seen c.loop-guest.invariant.kept

pub returns-in_default-tell_new-clause-own : goal.returns-in_default-tell_new-clause-own
returns-in_default-tell_new-clause-own g c =
    let read = c.loop-guest.invariant.read in
    record { later = later_trans c.args.own c.loop-guest.own c.tell_new.new.own read.later c.tell_new.ensures.later; own = c.tell_new.ensures.own ∙ read.own }

pub loop-guest-preserved : goal.loop-guest-preserved
loop-guest-preserved g c =
    let inv = c.loop-guest.invariant in
    let next = c.in-Some.ensures.items in
    let came = c.in_default-accept.ensures in
    let begun = came.begins in
    let told = c.tell_new.ensures in
    let seen = c.tell_new.new.own.seen in
    let cell = told.later.cell ∙ (inv.read.later.cell ∙ c.requires.own.0) in
    record {
      may = left_have (MayVisit c.args.hall.now) c.loop-guest.unused.items c.pop_front.new.self.items c.in-Some.guest next inv.may;
      host = begun.2 ∙ inv.host;
      have =
          one_more_came c.args.guests.items (g.D.Door.facts c.args.door.now) (g.D.Door.facts c.loop-guest.door) (g.D.Door.facts c.accept.new.door) c.loop-guest.workers.begun c.accept.new.self.begun c.loop-guest.unused.items
          c.pop_front.new.self.items c.in-Some.guest begun.0 inv.have next begun.3 came.accepts came.out came.asked came.back came.cause;
      room = omega (arith, begun.4, ap length next, inv.room);
      read = record { later = later_trans c.args.own c.loop-guest.own c.tell_new.new.own inv.read.later told.later; own = told.own ∙ inv.read.own };
      heard =
          heard_on c.args.hall.now.cell.namespace c.args.own.seen c.loop-guest.own.seen seen _ _ _ c.loop-guest.left c.in-Ok.more inv.heard told.later.seen
          (subst (λ (cell : CellValue). IsLog entry_row cell.namespace seen) cell told.pass.log) c.in-Ok.ensures.told;
      kept = kept_further c.args.own.seen c.loop-guest.own.seen seen _ _ _ inv.read.later.seen told.later.seen inv.kept c.in-Ok.ensures.kept;
    }
