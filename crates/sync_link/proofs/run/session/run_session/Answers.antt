use Rattle.std.proofs.Common.{◌≡◌, ℕ, List, map, refl, ap, sym, ◌∙◌}
use Rattle.auth_entry.specs.Rows.{entry_row}
use Rattle.sync_link.specs.Plans.{own_hello, planned}
use Rattle.sync_link.specs.UnderWay.{Start, IsBy, IsReady, brought}
use Rattle.ns_cell.specs.Passes.{CellValue}
use Rattle.sync_hello.proofs.Meaning.{passes_means}
use Rattle.sync_link.proofs.AskedFor.{acts_as}
use Rattle.sync_link.proofs.Begun.{unopened}
use Rattle.sync_link.proofs.Openings.{opening_of}
use Rattle.sync_link.proofs.Promised.{keeps_promises}
use Rattle.sync_link.proofs.run.session.run_session.Goals as goal

pub open_session-requires-clause-rows : goal.open_session-requires-clause-rows
open_session-requires-clause-rows g c κs within =
    let cell = c.args.cell.now in
    let pass = c.snapshot.new.pass in
    let rows = map entry_row c.in-Ok.snapshot in
    let same : c.namespace.result ≡ cell.namespace = c.namespace.ensures ∙ c.requires.namespace in
    let there : pass.cell.namespace ≡ cell.namespace = ap (λ (x : CellValue). x.namespace) (c.snapshot.ensures.later.cell ∙ c.requires.pass) in
    opening_of c.namespace.result pass rows c.in-Ok.ensures.live c.snapshot.ensures.pass (there ∙ sym same) c.known_rows.ensures

pub run_opened-requires-clause-begun : goal.run_opened-requires-clause-begun
run_opened-requires-clause-begun g c κs within =
    let cell = c.args.cell.now in
    let pass = c.snapshot.new.pass in
    let rows = map entry_row c.in-Ok.snapshot in
    let same : c.namespace.result ≡ cell.namespace = c.namespace.ensures ∙ c.requires.namespace in
    let there : pass.cell.namespace ≡ cell.namespace = ap (λ (x : CellValue). x.namespace) (c.snapshot.ensures.later.cell ∙ c.requires.pass) in
    let start : Start = record { rules = g.S.Verify.rules; namespace = cell.namespace; role = c.args.plan.now.role; hello = own_hello c.args.plan.now c.args.nonce; own_fits = c.known_plan.ensures g.S.Verify.rules c.args.cell.now.namespace c.requires.hello; own_passes = (passes_means g.S.Verify.rules c.args.cell.now.namespace (own_hello c.args.plan.now c.args.nonce)).0 c.requires.hello; interest = c.args.plan.now.interest; gives = g.K.Signer.gives c.args.signer.now; log = pass.seen; pass = c.args.pass.now; link = g.L.Link.facts c.args.link.now; most = g.L.Link.most c.args.link.now; left = g.K.Signer.left c.args.signer.now; faults = g.K.Signer.faults c.args.signer.now } in
    let ready : IsReady start rows pass = record { rows_are = c.in-Ok.ensures.live; opens = opening_of cell.namespace pass rows c.in-Ok.ensures.live c.snapshot.ensures.pass there c.known_rows.ensures; later = c.snapshot.ensures.later; seen = refl; own = c.snapshot.ensures.own; turn = c.snapshot.ensures.turn; pass = c.snapshot.ensures.pass } in
    let party : brought start ≡ planned g.S.Verify.rules c.namespace.result c.args.plan.now c.args.nonce = ap (λ (n : List ℕ). planned g.S.Verify.rules n c.args.plan.now c.args.nonce) (sym same) in
    let u = c.in-Ok-open_session.ensures.opens start pass party refl ready in
    let goes : IsBy start g.S.Verify.rules cell.namespace (g.K.Signer.gives c.args.signer.now) (g.L.Link.most c.open_session.new.link) = record { by_rules = refl; in_namespace = refl; gives_so = refl; at_once = sym c.open_session.ensures.most; signs = c.requires.signs } in
    (start, (goes, u))

pub returns-in-Err-clause-in_time : goal.returns-in-Err-clause-in_time
returns-in-Err-clause-in_time g c =
    let start : Start = record { rules = g.S.Verify.rules; namespace = c.args.cell.now.namespace; role = c.args.plan.now.role; hello = own_hello c.args.plan.now c.args.nonce; own_fits = c.known_plan.ensures g.S.Verify.rules c.args.cell.now.namespace c.requires.hello; own_passes = (passes_means g.S.Verify.rules c.args.cell.now.namespace (own_hello c.args.plan.now c.args.nonce)).0 c.requires.hello; interest = c.args.plan.now.interest; gives = g.K.Signer.gives c.args.signer.now; log = c.snapshot.new.pass.seen; pass = c.args.pass.now; link = g.L.Link.facts c.args.link.now; most = g.L.Link.most c.args.link.now; left = g.K.Signer.left c.args.signer.now; faults = g.K.Signer.faults c.args.signer.now } in
    acts_as (λ u. refl) (unopened start c.snapshot.new.pass c.snapshot.ensures.later c.snapshot.ensures.own)

pub returns-in-Err-open_session-clause-in_time : goal.returns-in-Err-open_session-clause-in_time
returns-in-Err-open_session-clause-in_time g c =
    let cell = c.args.cell.now in
    let pass = c.snapshot.new.pass in
    let rows = map entry_row c.in-Ok.snapshot in
    let same : c.namespace.result ≡ cell.namespace = c.namespace.ensures ∙ c.requires.namespace in
    let there : pass.cell.namespace ≡ cell.namespace = ap (λ (x : CellValue). x.namespace) (c.snapshot.ensures.later.cell ∙ c.requires.pass) in
    let start : Start = record { rules = g.S.Verify.rules; namespace = cell.namespace; role = c.args.plan.now.role; hello = own_hello c.args.plan.now c.args.nonce; own_fits = c.known_plan.ensures g.S.Verify.rules c.args.cell.now.namespace c.requires.hello; own_passes = (passes_means g.S.Verify.rules c.args.cell.now.namespace (own_hello c.args.plan.now c.args.nonce)).0 c.requires.hello; interest = c.args.plan.now.interest; gives = g.K.Signer.gives c.args.signer.now; log = pass.seen; pass = c.args.pass.now; link = g.L.Link.facts c.args.link.now; most = g.L.Link.most c.args.link.now; left = g.K.Signer.left c.args.signer.now; faults = g.K.Signer.faults c.args.signer.now } in
    let ready : IsReady start rows pass = record { rows_are = c.in-Ok.ensures.live; opens = opening_of cell.namespace pass rows c.in-Ok.ensures.live c.snapshot.ensures.pass there c.known_rows.ensures; later = c.snapshot.ensures.later; seen = refl; own = c.snapshot.ensures.own; turn = c.snapshot.ensures.turn; pass = c.snapshot.ensures.pass } in
    let party : brought start ≡ planned g.S.Verify.rules c.namespace.result c.args.plan.now c.args.nonce = ap (λ (n : List ℕ). planned g.S.Verify.rules n c.args.plan.now c.args.nonce) (sym same) in
    acts_as (λ u. refl) (c.in-Err-open_session.ensures.opens start pass party refl ready)

pub returns-in-Ok-open_session-clause-in_time : goal.returns-in-Ok-open_session-clause-in_time
returns-in-Ok-open_session-clause-in_time g c =
    let cell = c.args.cell.now in
    let pass = c.snapshot.new.pass in
    let rows = map entry_row c.in-Ok.snapshot in
    let same : c.namespace.result ≡ cell.namespace = c.namespace.ensures ∙ c.requires.namespace in
    let there : pass.cell.namespace ≡ cell.namespace = ap (λ (x : CellValue). x.namespace) (c.snapshot.ensures.later.cell ∙ c.requires.pass) in
    let start : Start = record { rules = g.S.Verify.rules; namespace = cell.namespace; role = c.args.plan.now.role; hello = own_hello c.args.plan.now c.args.nonce; own_fits = c.known_plan.ensures g.S.Verify.rules c.args.cell.now.namespace c.requires.hello; own_passes = (passes_means g.S.Verify.rules c.args.cell.now.namespace (own_hello c.args.plan.now c.args.nonce)).0 c.requires.hello; interest = c.args.plan.now.interest; gives = g.K.Signer.gives c.args.signer.now; log = pass.seen; pass = c.args.pass.now; link = g.L.Link.facts c.args.link.now; most = g.L.Link.most c.args.link.now; left = g.K.Signer.left c.args.signer.now; faults = g.K.Signer.faults c.args.signer.now } in
    let ready : IsReady start rows pass = record { rows_are = c.in-Ok.ensures.live; opens = opening_of cell.namespace pass rows c.in-Ok.ensures.live c.snapshot.ensures.pass there c.known_rows.ensures; later = c.snapshot.ensures.later; seen = refl; own = c.snapshot.ensures.own; turn = c.snapshot.ensures.turn; pass = c.snapshot.ensures.pass } in
    let party : brought start ≡ planned g.S.Verify.rules c.namespace.result c.args.plan.now c.args.nonce = ap (λ (n : List ℕ). planned g.S.Verify.rules n c.args.plan.now c.args.nonce) (sym same) in
    let u = c.in-Ok-open_session.ensures.opens start pass party refl ready in
    let goes : IsBy start g.S.Verify.rules cell.namespace (g.K.Signer.gives c.args.signer.now) (g.L.Link.most c.open_session.new.link) = record { by_rules = refl; in_namespace = refl; gives_so = refl; at_once = sym c.open_session.ensures.most; signs = c.requires.signs } in
    acts_as (λ still. still.1) (c.run_opened.ensures.ends start c.seen-opened.ensures.seen goes u)

pub returns-in-Err-clause-runs : goal.returns-in-Err-clause-runs
returns-in-Err-clause-runs g c = (returns-in-Err-clause-in_time g c).did

pub returns-in-Err-open_session-clause-runs : goal.returns-in-Err-open_session-clause-runs
returns-in-Err-open_session-clause-runs g c = (returns-in-Err-open_session-clause-in_time g c).did

pub returns-in-Ok-open_session-clause-runs : goal.returns-in-Ok-open_session-clause-runs
returns-in-Ok-open_session-clause-runs g c = (returns-in-Ok-open_session-clause-in_time g c).did

pub returns-in-Err-clause-promises : goal.returns-in-Err-clause-promises
returns-in-Err-clause-promises g c = keeps_promises _ _ _ _ _ _ _ _ _

pub returns-in-Err-open_session-clause-promises : goal.returns-in-Err-open_session-clause-promises
returns-in-Err-open_session-clause-promises g c = keeps_promises _ _ _ _ _ _ _ _ _

pub returns-in-Ok-open_session-clause-promises : goal.returns-in-Ok-open_session-clause-promises
returns-in-Ok-open_session-clause-promises g c = keeps_promises _ _ _ _ _ _ _ _ _
