use Rattle.std.proofs.Common.{◌≡◌, ◌∙◌, ◌∷◌, ◌++◌, length, take, drop, map, refl, sym, ap, subst, arith}
use Rattle.std.specs.List.{All}
use Rattle.std.proofs.lemmas.List.{take_at}
use Rattle.std.proofs.lemmas.List.Elements.{All-append, All-map}
use Rattle.link_host.specs.Begun.{AreGivenBack}
use Rattle.ns_cell.specs.Passes.{IsPassOf}
use Rattle.peer_run.specs.Feeding.{HasSeenOpening, FeedsAll}
use Rattle.peer_run.specs.MetPasses.{HasMetAll}
use Rattle.peer_run.specs.declared.hall.Guest.{Guest}
use Rattle.peer_run.specs.declared.hall.Parting.{Parting}
use Rattle.peer_run.proofs.BehindVisits.{all_seen, behind_so}
use Rattle.peer_run.proofs.Guests.{Passes, handed_on, passes_of}
use Rattle.peer_run.proofs.behind.end_visits.Goals as goal

pub meet_all-requires-clause-passes : goal.meet_all-requires-clause-passes
meet_all-requires-clause-passes g c =
    let received = c.args.received in
    let cell = c.args.cell.now in
    subst (All (IsPassOf cell)) (sym (c.deref_mut.ensures.value ∙ c.part-others.ensures.others))
    (All-append (IsPassOf cell) (handed_on received.partings.items) (passes_of received.unused.items) (All-map (IsPassOf cell) (λ (p : Parting). p.pass) received.partings.items c.requires.partings)
    (All-map (IsPassOf cell) (λ (u : Guest). u.pass) received.unused.items c.requires.unused))

-- the own pass has met all others
pub feed_links-tails-requires-clause-opened : goal.feed_links-tails-requires-clause-opened
feed_links-tails-requires-clause-opened g c =
    let received = c.args.received in
    let met : HasMetAll received.own c.meet_all.new.own (handed_on received.partings.items ++ passes_of received.unused.items) c.meet_all.new.passes =
    subst (λ (olds : Passes). HasMetAll received.own c.meet_all.new.own olds c.meet_all.new.passes) (c.deref_mut.ensures.value ∙ c.part-others.ensures.others) c.meet_all.ensures.met in
    subst (All (HasSeenOpening c.meet_all.new.own)) (sym (c.deref.ensures.value ∙ c.part-others.ensures.ends)) (all_seen received.own c.meet_all.new.own received.partings.items (passes_of received.unused.items) c.meet_all.new.passes met c.requires.opened)

pub returns-clause-behind : goal.returns-clause-behind
returns-clause-behind g c =
    let received = c.args.received in
    let facts = g.L.Link.facts in
    let met : HasMetAll received.own c.meet_all.new.own (handed_on received.partings.items ++ passes_of received.unused.items) c.meet_all.new.passes =
    subst (λ (olds : Passes). HasMetAll received.own c.meet_all.new.own olds c.meet_all.new.passes) (c.deref_mut.ensures.value ∙ c.part-others.ensures.others) c.meet_all.ensures.met in
    let olds : map facts c.deref_mut-2.result.now ≡ map facts received.links.items = ap (map facts) c.deref_mut-2.ensures.value in
    let all = subst (λ olds. FeedsAll c.args.feeds 1 c.meet_all.new.own c.feed_links-tails.new.own c.deref.result.now olds (map facts c.feed_links-tails.new.links) c.feed_links-tails.result.items) olds c.feed_links-tails.ensures.feeds in
    let links = c.feed_links-tails.new.links in
    let links_are : take received.links.len (links ++ drop (length links) received.links.items) ≡ links = take_at links (drop (length links) received.links.items) received.links.len (omega (arith, c.feed_links-tails.auto.links, c.deref_mut-2.ensures.len)) in
    let back : AreGivenBack (map facts links) (g.D.Door.facts c.args.door.now) (g.D.Door.facts c.give_back_all.new.door) =
    subst (λ ls. AreGivenBack (map facts ls) (g.D.Door.facts c.args.door.now) (g.D.Door.facts c.give_back_all.new.door)) links_are c.give_back_all.ensures in
    let others = c.meet_all.new.passes in
    let before = c.part-others.result.0 in
    let others_are : take before.len (others ++ drop (length others) before.items) ≡ others = take_at others (drop (length others) before.items) before.len (omega (arith, c.meet_all.auto.passes, c.deref_mut.ensures.len)) in
    let gathered : c.gather.result.items ≡ c.feed_links-tails.new.own ∷ others = subst (λ (os : Passes). c.gather.result.items ≡ c.feed_links-tails.new.own ∷ os) others_are c.gather.ensures in
    behind_so c.args.feeds received.own c.meet_all.new.own c.feed_links-tails.new.own received.partings.items received.unused.items others (map facts received.links.items) (map facts links) c.deref.result.now c.feed_links-tails.result.items
    (g.D.Door.facts c.args.door.now) (g.D.Door.facts c.give_back_all.new.door) _ met all back (c.deref.ensures.value ∙ c.part-others.ensures.ends) gathered (sym c.deref.ensures.value) refl
