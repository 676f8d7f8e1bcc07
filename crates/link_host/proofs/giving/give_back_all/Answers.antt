use Rattle.std.proofs.Common.{◌≡◌, [], length, arith, ap}
use Rattle.std.proofs.lemmas.List.{nil_from_length}
use Rattle.link_host.proofs.Passing.{passed_one_more, passed_all}
use Rattle.link_host.proofs.Visiting.{none_back, one_more_back, all_given_back}
use Rattle.link_host.proofs.giving.give_back_all.Goals as goal

pub loop-link-init : goal.loop-link-init
loop-link-init g c =
    let rest = c.into_iter-link-iterator.ensures.into_iter_gives in
    record { back = none_back (g.D.Door.facts c.args.door.now); all = rest.0; out = omega (arith, c.requires, ap length rest.0, c.args.links.ok.0) }

pub loop-link-preserved : goal.loop-link-preserved
loop-link-preserved g c =
    let inv = c.loop-link.invariant in
    let next = c.in-Some.ensures.steps in
    let back = c.give_back.ensures in
    record {
      back =
          one_more_back g.L.Link.facts c.loop-link.yielded c.in-Some.link (g.D.Door.facts c.args.door.now) (g.D.Door.facts c.loop-link.door) (g.D.Door.facts c.give_back.new.self) inv.back (omega (arith, ap length next.0, inv.out))
          back.back back.out back.accepts back.asked back.faults;
      all = passed_one_more c.args.links.items c.loop-link.yielded c.loop-link.link-iterator.rest.items c.next.new.self.rest.items c.in-Some.link inv.all next.0;
      out = omega (arith, ap length next.0, inv.out, back.out);
    }

pub returns : goal.returns
returns g c =
    let rest = c.loop-link.link-iterator.rest in
    let none : rest.items ≡ [] = nil_from_length rest.items (omega (arith, c.in-None.ensures.steps.0, rest.ok.0)) in
    all_given_back g.L.Link.facts c.loop-link.yielded c.args.links.items (g.D.Door.facts c.args.door.now) (g.D.Door.facts c.loop-link.door) (passed_all c.args.links.items c.loop-link.yielded c.loop-link.link-iterator.rest.items c.loop-link.invariant.all none) c.loop-link.invariant.back
