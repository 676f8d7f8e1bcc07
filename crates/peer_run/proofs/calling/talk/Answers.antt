use Rattle.std.proofs.Common.{refl, inl}
use Rattle.lms_core.specs.Use.{peer_rules}
use Rattle.peer_make.specs.KeySigners.{gives_of, left_of}
use Rattle.sync_hello.proofs.Meaning.{passes_means}
use Rattle.sync_link.specs.Plans.{own_hello}
use Rattle.sync_link.specs.UnderWay.{Start}
use Rattle.sync_link.proofs.AskedFor.{acts_as}
use Rattle.sync_link.proofs.Begun.{no_snapshot}
use Rattle.sync_link.proofs.Offered.{later_self}
use Rattle.peer_run.proofs.calling.talk.Goals as goal

-- where there is no memory for the checker, nothing was begun
pub returns-in_default-clause-runs : goal.returns-in_default-clause-runs
returns-in_default-clause-runs g c =
    let n = c.args.cell.now.namespace in
    let own = own_hello c.args.plan.now c.args.nonce in
    let pass = c.args.pass.now in
    let start : Start = record { rules = peer_rules; namespace = n; role = c.args.plan.now.role; hello = own; own_fits = c.known_plan.ensures peer_rules n c.requires.hello; own_passes = (passes_means peer_rules n own).0 c.requires.hello; interest = c.args.plan.now.interest; gives = gives_of c.args.signer; log = pass.seen; pass = pass; link = g.L.Link.facts c.args.link.now; most = g.L.Link.most c.args.link.now; left = left_of c.args.signer; faults = 0 } in
    no_snapshot start pass (later_self pass) refl

pub returns-in_default-clause-in_time : goal.returns-in_default-clause-in_time
unfolding returns-in_default-clause-runs
returns-in_default-clause-in_time g c = record { did = returns-in_default-clause-runs g c; asked = inl tt; stops = inl (tt, refl) }

pub returns-clause-in_time : goal.returns-clause-in_time
returns-clause-in_time g c = acts_as (λ still. tt) c.run_session.ensures.in_time
