use Rattle.std.proofs.Common.{◌≡◌, subst, rules}
use Rattle.link_host.specs.Hosted.{IsHosted}
use Rattle.link_host.specs.declared.hosting.Hosted.{Hosted}
use Rattle.link_host.proofs.Coming.{hosted_as}
use Rattle.link_host.proofs.hosting.host_reserved.Goals as goal

pub scoped-door-requires : goal.scoped-door-requires
scoped-door-requires g c = record { at = λ a. ((c.requires.jobs, c.requires.workers.0, c.requires.workers.1, c.requires.workers.2), (search rules, search rules, search rules, search rules, search rules)) }

pub returns : goal.returns
returns g c =
    let accepted = c.scoped-door.result.1 in
    let did = c.scoped-door.ensures.1 in
    let old = g.D.Door.facts c.args.door.now in
    let x : Hosted g.row.H-Job.Denot g.row.H-Parting.Denot = record { partings = c.finish.result; unused = c.from.result; stopped = accepted.why } in
    let so : IsHosted (g.H.Host.does c.args.host.now) c.args.jobs.items old (g.D.Door.facts c.finish.new.door) x =
    hosted_as g.H.Host.does accepted.workers.host c.args.host.now c.args.jobs.items accepted.left.items old (g.D.Door.facts c.scoped-door.result.0.now) (g.D.Door.facts c.finish.new.door) accepted.workers.begun x did.1 c.from.ensures.0 did.2 c.finish.ensures in
    let same : c.finish.new.door ≡ c.door-1.given.0 = search rules in
    subst (λ door. IsHosted (g.H.Host.does c.args.host.now) c.args.jobs.items old (g.D.Door.facts door) x) same so
