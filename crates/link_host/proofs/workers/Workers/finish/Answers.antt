use Rattle.std.proofs.Common.{map, arith}
use Rattle.std.proofs.lemmas.List.{length-map}
use Rattle.link_host.proofs.Visiting.{as_many_links, visited}
use Rattle.link_host.proofs.workers.Workers.finish.Goals as goal

pub give_back_all-requires-after_bounds : goal.give_back_all-requires-after_bounds
give_back_all-requires-after_bounds g c κs within =
    let over = c.join-links.ensures in
    omega (arith, c.requires, c.join-links.result.0.ok.0, length-map c.join-links.result.0.items g.L.Link.facts, as_many_links (g.H.Host.does c.args.self.host) c.args.self.begun (map g.L.Link.facts c.join-links.result.0.items) c.join-links.result.1.items over)

pub returns : goal.returns
returns g c =
    visited (g.H.Host.does c.args.self.host) c.args.self.begun (map g.L.Link.facts c.join-links.result.0.items) c.join-links.result.1.items (g.D.Door.facts c.args.door.now) (g.D.Door.facts c.give_back_all.new.door) c.join-links.ensures c.give_back_all.ensures
