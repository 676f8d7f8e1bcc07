use Rattle.std.proofs.Common.{◌≡◌, ℕ, ◌+◌, ◌<◌, slice_index, sym, ap, ◌∙◌, arith}
use Rattle.sha2.specs.Sha256.{add32, digest_bytes}
use Rattle.sha_lanes.specs.Lanes.{hash_in}
use Rattle.sha_lanes.specs.Chain.{run, step}
use Rattle.sha_lanes.specs.Step.{IsReady}
use Rattle.sha_lanes.proofs.OfLanes.{splat_at}
use Rattle.sha_lanes.proofs.OfSteps.{length-digest}
use Rattle.sha_lanes.proofs.OfChains.{run_none, run_more}
use Rattle.sha_lanes.proofs.step.run_steps.Goals as goal

pub steps-init : goal.steps-init
steps-init c = λ l front h fits is. (sym (run_none front _ _), c.begin-midstate.ensures.words l front h is)

pub steps-preserved : goal.steps-preserved
steps-preserved c = λ l front h fits is.
    let number = slice_index c.args.numbers l in
    let done = c.steps.done in
    let v = c.steps.reached in
    let value = digest_bytes (hash_in c.args.values l) 8 in
    let sum = c.add-at.ensures.each l h ∙ ap (add32 number) (splat_at c.from.result l h ∙ c.from.ensures) in
    let here : slice_index c.add-at.result l ≡ number + done = omega (arith, sum, fits, c.steps-test.true) in
    let low : slice_index c.add-at.result l < 256 = omega (arith, here, fits, c.steps-test.true) in
    let before = c.steps.invariant l front h fits is in
    let at = slice_index c.add-at.result l in
    let long = length-digest (slice_index v.a l) (slice_index v.b l) (slice_index v.c l) (slice_index v.d l) (slice_index v.e l) (slice_index v.f l) (slice_index v.g l) (slice_index v.h l) in
    let ready : IsReady c.steps.words c.begin-midstate.result c.numbered.result v l front at = record {
      begun = before.1;
      numbered = c.numbered.ensures l front h low is;
      shared = c.begin-midstate.ensures.midstate l at front (digest_bytes (hash_in v l) 8) h is long;
    } in
    let hashed = c.hash_step-reached.ensures.digest l at front h ready in (
      hashed ∙ (λ i. step front (here i) (before.0 i)) ∙ sym (run_more front number done value),
      c.hash_step-reached.ensures.words l at front h ready,
    )

pub returns : goal.returns
returns c = λ l front h fits is.
    let all : c.steps.done ≡ c.args.count = omega arith in
    (c.steps.invariant l front h fits is).0 ∙ ap (λ (n : ℕ). run front (slice_index c.args.numbers l) n (digest_bytes (hash_in c.args.values l) 8)) all
