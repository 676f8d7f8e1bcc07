use Rattle.std.proofs.Common.{◌≡◌, ℕ, List, [], map, take, None, Err, sym, ap, ◌∙◌, subst}
use Rattle.willow_outside.specs.Told.{Extends}
use Rattle.willow_outside.specs.Facts.{LinkFacts}
use Rattle.session_end.specs.declared.end.SessionEnd.TheVariants as ends
use Rattle.auth_entry.specs.Rows.{entry_row}
use Rattle.sync_hello.proofs.Meaning.{passes}
use Rattle.sync_hello.specs.declared.hello.Hello.{Hello}
use Rattle.row_intake.specs.Links.{ReadsNothing}
use Rattle.row_intake.specs.declared.tally.Tally.{Tally}
use Rattle.sync_link.specs.Sessions.{Party}
use Rattle.sync_link.specs.Writing.{CountsWrite}
use Rattle.sync_link.specs.UnderWay.{EndsSo, IsUnderWay}
use Rattle.sync_link.specs.Progress.{State, begun, progress_in, first_bytes}
use Rattle.sync_link.specs.Plans.{own_hello}
use Rattle.sync_link.specs.Talking.{SpeaksSome}
use Rattle.sync_link.proofs.Begun.{unbegun, unwritten, begins}
use Rattle.sync_link.proofs.Openings.{sound_of}
use Rattle.sync_link.proofs.run.opening.open_session.Goals as goal

pub begin-requires-clause-rows : goal.begin-requires-clause-rows
begin-requires-clause-rows g c = sound_of c.args.namespace (map entry_row c.args.snapshot) c.requires.rows

pub begin-requires-clause-speaks : goal.begin-requires-clause-speaks
begin-requires-clause-speaks g c =
    subst SpeaksSome (sym c.in-Ok.ensures) (passes g.S.Verify.rules c.args.namespace (own_hello c.args.plan.now c.args.nonce) c.requires.passes).speaks

pub returns-in-Err-clause-opens : goal.returns-in-Err-clause-opens
returns-in-Err-clause-opens g c start pass e link ready =
    subst (λ (l : LinkFacts). EndsSo start pass l start.faults (Unit {0}) ends.NoMemory) link (unbegun start (map entry_row c.args.snapshot) pass ready)

pub returns-in-Err-write_first-clause-opens : goal.returns-in-Err-write_first-clause-opens
returns-in-Err-write_first-clause-opens g c start pass e link ready =
    let now = g.L.Link.facts c.write_first.new.link in
    let due = first_bytes start.role start.hello in
    let said : first_bytes c.args.plan.now.role c.in-Ok.hello ≡ due = ap (first_bytes c.args.plan.now.role) c.in-Ok.ensures ∙ sym (ap (λ (f : List ℕ → Party). first_bytes (f []).role (f []).hello) e) in
    let held = subst (λ (l : List ℕ). (k : ℕ) × Extends (g.L.Link.facts c.args.link.now).held now.held (take k l)) said c.in-Err-write_first.ensures.held in
    unwritten start (map entry_row c.args.snapshot) pass ready now (subst (λ (l : LinkFacts). ReadsNothing l now) (sym link) c.write_first.ensures.rest) c.in-Err-write_first.end
    (subst (λ (l : LinkFacts). (k : ℕ) × Extends l.held now.held (take k due)) (sym link) held)
    (subst (λ (l : LinkFacts). CountsWrite {A = Unit {0}} l.write_faults now.write_faults (Err c.in-Err-write_first.end)) (sym link) c.in-Err-write_first.ensures.counts)

pub returns-in-Ok-write_first-clause-opens : goal.returns-in-Ok-write_first-clause-opens
returns-in-Ok-write_first-clause-opens g c start pass e link ready =
    let now = g.L.Link.facts c.write_first.new.link in
    let rows = map entry_row c.args.snapshot in
    let due = first_bytes start.role start.hello in
    let said : first_bytes c.args.plan.now.role c.in-Ok.hello ≡ due = ap (first_bytes c.args.plan.now.role) c.in-Ok.ensures ∙ sym (ap (λ (f : List ℕ → Party). first_bytes (f []).role (f []).hello) e) in
    let held = subst (λ (l : List ℕ). Extends (g.L.Link.facts c.args.link.now).held now.held l) said c.in-Ok-write_first.ensures.held in
    let first : begun start.namespace start.role start.hello start.interest rows ≡ c.begin.result =
    ap (λ (f : List ℕ → Party). begun (f []).namespace (f []).role (f []).hello (f []).interest rows) e
    ∙ ap (λ (h : Hello). begun c.args.namespace c.args.plan.now.role h c.args.plan.now.interest rows) (sym c.in-Ok.ensures)
    ∙ sym c.begin.ensures in
    let u = begins start rows pass ready now (subst (λ (l : LinkFacts). ReadsNothing l now) (sym link) c.write_first.ensures.rest) (subst (λ (l : LinkFacts). Extends l.held now.held due) (sym link) held) (c.in-Ok-write_first.ensures.counts ∙ sym (ap (λ (l : LinkFacts). l.write_faults) link)) in
    let v = subst (λ (x : State). IsUnderWay start (record { progress = progress_in start.rules x; tally = record { rows = 0; stored = 0; kept = 0; missed = 0; refused = 0; first = None }; count = 0; pass = pass; link = now; left = start.left; faults = start.faults })) first u in
    subst (λ (t : Tally). IsUnderWay start (record { progress = progress_in start.rules c.begin.result; tally = t; count = 0; pass = pass; link = now; left = start.left; faults = start.faults })) (sym c.new.ensures) v
