use Rattle.std.proofs.Common.{◌≡◌, ◌+◌, ◌<◌, ◌∷◌, true, false, length, drop, arith}
use Rattle.scheme_core.specs.Claims.{accepts_claim}
use Rattle.scheme_core.specs.OpenClaims.{needs_digest}
use Rattle.scheme_core.proofs.Accepting.{AreLeft, answer-needed, answered-more, left-all, left-behind, left-here}
use Rattle.scheme_core.proofs.together.answers.Goals as goal
use Rattle.scheme_core.proofs.together.answers.Goals.{then-needs_digest+in_ok-push, else-needs_digest+in_ok-answer+in_ok-push-2}

pub claims-preserved : goal.claims-preserved
claims-preserved g c =
    let claims = c.args.claims.now in
    let claim = c.claim-item.result in
    let made = c.args.made.now in
    let i = c.claims.claim-index in
    let next = c.claims.next in
    let within : i < length claims = omega arith in
    let more = drop (i + 1) claims in
    let left : AreLeft (drop next made) (claim ∷ more) = left-here (drop next made) claims i claim within c.claim-item.is c.claims.invariant.left in
    elim c.if-needs_digest.branch [
      | then-needs_digest+in_ok-push w ↦
          let needs : needs_digest claim ≡ true = cc in
          record {
            answered =
                let own = answer-needed g.S.Verify.rules made next claim more w.as_slice.result.now w.eq.result c.requires.open needs left w.as_slice.ensures w.eq.ensures in
                let told = answered-more (accepts_claim g.S.Verify.rules) claims i claim c.claims.answers.items w.eq.result within c.claim-item.is c.claims.invariant.answered own in
                rw (w.answers-is, w.in_ok-push.ensures.items) told;
            left = rw w.next-is (left-behind made next claim more needs left);
          }
      | else-needs_digest+in_ok-answer+in_ok-push-2 w ↦
          let other : needs_digest claim ≡ false = cc in
          let told = answered-more (accepts_claim g.S.Verify.rules) claims i claim c.claims.answers.items w.in_ok-answer.answer within c.claim-item.is c.claims.invariant.answered w.in_ok-answer.ensures in
          record {
            answered = rw (w.answers-is, w.in_ok-push-2.ensures.items) told;
            left = rw w.next-is (left-all (drop next made) claim more other left);
          }
    ]
