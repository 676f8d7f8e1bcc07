use Rattle.std.proofs.Common.{◌≡◌, [], length, map, All, arith, refl, sym, ap, subst}
use Rattle.std.proofs.lemmas.List.{nil_from_length}
use Rattle.link_host.specs.Keeping.{Keeps, begun_of}
use Rattle.link_host.proofs.Passing.{first_has, left_have, passed_one_more, passed_all}
use Rattle.link_host.proofs.Visiting.{none_over, one_more_over, all_over}
use Rattle.link_host.proofs.workers.join_all.Goals as goal

pub loop-worker-init : goal.loop-worker-init
loop-worker-init g c =
    let rest = c.into_iter-worker-iterator.ensures.into_iter_gives in
    record {
      over = none_over (g.H.Host.does c.args.host.now.value) g.L.Link.facts c.args.links.items c.args.partings.items c.requires.links.0 c.requires.partings.0;
      all = rest.0;
      links = omega (arith, c.requires.links.1, ap length rest.0, ap length c.requires.links.0, c.args.started.ok.0, c.args.links.ok.0);
      partings = omega (arith, c.requires.partings.1, ap length rest.0, ap length c.requires.partings.0, c.args.started.ok.0, c.args.partings.ok.0);
      keeps = subst (All (Keeps g.L.Link.facts g.H.Host.does c.args.host.now.value)) (sym rest.0) c.requires.keeps;
    }

pub finish-link-requires-after_bounds : goal.finish-link-requires-after_bounds
finish-link-requires-after_bounds g c κs within = first_has (Keeps g.L.Link.facts g.H.Host.does c.args.host.now.value) c.loop-worker.worker-iterator.rest.items c.next.new.self.rest.items c.in-Some.worker c.in-Some.ensures.steps.0 c.loop-worker.invariant.keeps

pub loop-worker-preserved : goal.loop-worker-preserved
loop-worker-preserved g c =
    let inv = c.loop-worker.invariant in
    let next = c.in-Some.ensures.steps in
    let kept = c.push_reserved.ensures in
    let pushed = c.push_reserved-in-loop-worker.ensures in
    record {
      over =
          one_more_over (g.H.Host.does c.args.host.now.value) (begun_of g.L.Link.facts) g.L.Link.facts c.loop-worker.yielded c.in-Some.worker c.loop-worker.links.items c.push_reserved.new.self.items c.finish-link.result.link
          c.loop-worker.partings.items c.push_reserved-in-loop-worker.new.self.items
          (record { job = c.in-Some.worker.job.value; handed_out = g.L.Link.facts c.in-Some.worker.handed_out.value; parting = c.finish-link.result.parting; link = g.L.Link.facts c.finish-link.result.link })
          inv.over
          (record { fresh = (first_has (Keeps g.L.Link.facts g.H.Host.does c.args.host.now.value) c.loop-worker.worker-iterator.rest.items c.next.new.self.rest.items c.in-Some.worker next.0 inv.keeps).fresh; did = c.finish-link.ensures })
          refl refl kept.items pushed.items;
      all = passed_one_more c.args.started.items c.loop-worker.yielded c.loop-worker.worker-iterator.rest.items c.next.new.self.rest.items c.in-Some.worker inv.all next.0;
      links = omega (arith, kept.len, kept.capacity, ap length next.0, inv.links);
      partings = omega (arith, pushed.len, pushed.capacity, ap length next.0, inv.partings);
      keeps = left_have (Keeps g.L.Link.facts g.H.Host.does c.args.host.now.value) c.loop-worker.worker-iterator.rest.items c.next.new.self.rest.items c.in-Some.worker next.0 inv.keeps;
    }

pub returns : goal.returns
returns g c =
    let rest = c.loop-worker.worker-iterator.rest in
    let none : rest.items ≡ [] = nil_from_length rest.items (omega (arith, c.in-None.ensures.steps.0, rest.ok.0)) in
    all_over (g.H.Host.does c.args.host.now.value) (begun_of g.L.Link.facts) c.loop-worker.yielded c.args.started.items (map g.L.Link.facts c.loop-worker.links.items) c.loop-worker.partings.items (passed_all c.args.started.items c.loop-worker.yielded c.loop-worker.worker-iterator.rest.items c.loop-worker.invariant.all none) c.loop-worker.invariant.over
