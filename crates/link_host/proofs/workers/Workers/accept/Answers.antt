use Rattle.std.proofs.Common.{◌≡◌, ◌+◌, ◌-◌, sym, ap, ◌∙◌, subst, arith}
use Rattle.link_host.specs.Keeping.{Keeps}
use Rattle.link_host.proofs.Running.{one_more_keeps}
use Rattle.link_host.proofs.workers.Workers.accept.Goals as goal

pub invariant_of-self : goal.invariant_of-self
invariant_of-self g c =
    let fields = c.self.inside in
    let host = c.requires.host ∙ ap (λ value. value.host) (sym c.self.view_is) in
    let left : fields.room - 1 + 1 ≡ fields.room = omega (arith, c.requires.room, ap (λ value. value.room) c.self.view_is) in
    one_more_keeps g.L.Link.facts g.H.Host.does fields.host.value fields.started c.push_reserved.new.self fields.links fields.partings fields.room (fields.room - 1) c.start-worker.result c.self.invariant
    (subst (λ host. Keeps g.L.Link.facts g.H.Host.does host c.start-worker.result) host c.start-worker.ensures.keeps)
    c.push_reserved.ensures.items c.push_reserved.ensures.len c.push_reserved.ensures.capacity left
