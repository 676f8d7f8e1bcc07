use Rattle.std.proofs.Common.{◌∙◌, ◌+◌, ◌<◌, List, ◌∷◌, [], length, get_or, set, refl, sym, ap, subst, arith}
use Rattle.std.proofs.lemmas.List.{get_or_default, length-append, length-map, length-set}
use Rattle.sync_link.proofs.Offered.{later_self, later_trans}
use Rattle.peer_run.specs.Feeding.{FeedsBehind}
use Rattle.peer_run.specs.declared.tails.Tail.{Tail}
use Rattle.peer_run.proofs.FedLinks.{FedBelow, fed_on, seen_at}
use Rattle.peer_run.proofs.FedPlaces.{all_done, before_on, none_done}
use Rattle.peer_run.proofs.feeding.feed_links.Goals as goal

pub loop-at-init : goal.loop-at-init
loop-at-init g c = record {
  later = later_self c.args.own.now;
  own = refl;
  tails = ap length c.requires.room.0;
  room = c.requires.room.1;
  many = refl;
  ahead = λ k x above. refl;
  fed = λ same. none_done g.L.Link.facts (FeedsBehind c.args.feeds c.args.own.now.seen) c.args.from c.args.ends.now c.args.links.now 0 refl c.args.tails.items;
}

pub feed_link-tail-requires-clause-pass : goal.feed_link-tail-requires-clause-pass
feed_link-tail-requires-clause-pass g c = c.loop-at.invariant.later.cell ∙ c.requires.pass

pub feed_link-tail-requires-clause-opened : goal.feed_link-tail-requires-clause-opened
feed_link-tail-requires-clause-opened g c =
    let at = c.loop-at.at in
    let end = c.index-ends-at.result in
    let within : at < length c.args.ends.now = omega (arith, c.loop-at-test.true, c.requires.many) in
    seen_at c.args.own.now c.loop-at.own c.args.ends.now at end c.loop-at.invariant.later (λ d. get_or_default c.args.ends.now at d end within ∙ sym c.index-ends-at.is) (c.requires.opened at end within)

pub loop-at-preserved : goal.loop-at-preserved
loop-at-preserved g c =
    let at = c.loop-at.at in
    let inv = c.loop-at.invariant in
    let end = c.index-ends-at.result in
    let old = get_or c.loop-at.links at c.index-links-at.result in
    let new = c.feed_link-tail.new.link in
    let own = c.feed_link-tail.new.own in
    let tail = c.feed_link-tail.result in
    let tails = c.loop-at.tails.items in
    let fed = c.feed_link-tail.ensures in
    let pushed = c.push_reserved.ensures in
    let in_ends : at < length c.args.ends.now = omega (arith, c.loop-at-test.true, c.requires.many) in
    let in_links : at < length c.loop-at.links = omega (arith, c.loop-at-test.true, inv.many) in
    record {
      later = later_trans c.args.own.now c.loop-at.own own inv.later fed.later;
      own = fed.own ∙ inv.own;
      tails = omega (arith, ap length pushed.items, length-append tails (tail ∷ []), inv.tails);
      room = omega (arith, inv.room, pushed.capacity);
      many = omega (arith, length-set c.loop-at.links at new, inv.many);
      ahead = before_on c.args.links.now c.loop-at.links at new inv.ahead;
      fed =
          subst (λ (ts : List Tail). FedBelow g.L.Link.facts c.args.feeds c.args.from c.args.own.now c.args.ends.now c.args.links.now (at + 1) own (set c.loop-at.links at new) ts) (sym pushed.items)
          (fed_on g.L.Link.facts c.args.feeds c.args.from c.args.own.now c.args.ends.now c.args.links.now at (c.args.from + at) c.loop-at.own own c.loop-at.links tails end old new tail inv.later fed.later in_links inv.tails inv.ahead
          (λ d. get_or_default c.args.ends.now at d end in_ends ∙ sym c.index-ends-at.is) (λ d. get_or_default c.loop-at.links at d c.index-links-at.result in_links) refl fed.feeds inv.fed);
    }

pub returns : goal.returns
returns g c =
    let inv = c.loop-at.invariant in
    let facts = g.L.Link.facts in
    let olds = c.args.links.now in
    let links = c.loop-at.links in
    record {
      feeds = record {
        is_pass = c.number-number.ensures.pass;
        later = inv.later;
        own = inv.own;
        as_many = (omega (arith, inv.many, length-map links facts, length-map olds facts), omega (arith, inv.tails, c.loop-at-test.false, c.loop-at.auto.at-end, length-map olds facts));
        fed = λ same. all_done facts (FeedsBehind c.args.feeds c.args.own.now.seen) c.args.from c.args.ends.now olds c.loop-at.at links c.loop-at.tails.items c.loop-at-test.false inv.many (inv.fed same);
      };
    }
