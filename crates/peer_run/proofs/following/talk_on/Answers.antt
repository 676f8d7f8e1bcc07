use Rattle.std.proofs.Common.{true, subst}
use Rattle.willow_outside.specs.Facts.{LinkFacts}
use Rattle.lms_core.specs.Use.{peer_rules}
use Rattle.peer_make.specs.KeySigners.{gives_of}
use Rattle.sync_link.specs.Plans.{planned}
use Rattle.peer_run.specs.Following.{FollowsBehind, TalksOverLink, area_to_follow}
use Rattle.peer_run.proofs.following.talk_on.Goals as goal

pub returns-clause-talks : goal.returns-clause-talks
returns-clause-talks g c =
    let did = c.talk-end.ensures.in_time in
    let n = c.args.cell.now.namespace in
    let after = c.follow_behind-tail.new.pass in
    let back = g.L.Link.facts c.follow_behind-tail.new.link in
    let tail = c.follow_behind-tail.result in
    subst (λ (link : LinkFacts). TalksOverLink true (planned peer_rules n c.args.plan.now c.args.nonce) (gives_of c.args.signer) c.args.pass.now after link back c.talk-end.result tail) c.new-bytes.ensures.facts
    (record {
      between = c.talk-end.new.pass;
      behind = g.L.Link.facts c.talk-end.new.link;
      ran = did.did;
      by_byte = λ same. did.stops;
      followed = subst (λ (link : LinkFacts). FollowsBehind peer_rules n (area_to_follow true c.talk-end.result) c.talk-end.new.pass after link back tail) c.into_inner-link.ensures.facts c.follow_behind-tail.ensures.follows;
    })
