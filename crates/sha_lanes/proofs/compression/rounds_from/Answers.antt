use Rattle.std.proofs.Common.{◌≡◌, arith}
use Rattle.sha_lanes.proofs.OfSchedules.{IsSchedule-at, IsSchedule-less, rounds-at}
use Rattle.sha_lanes.proofs.compression.rounds_from.Goals as goal

pub turns-preserved : goal.turns-preserved
turns-preserved c =
    let turn = c.eight_rounds_and_words-reached.ensures in (
      λ l b low held. IsSchedule-at _ b _ _ (omega arith) (turn.words l b low (c.turns.invariant.0 l b low held)),
      λ l b h low held before.
          rounds-at h _ _ _ _ (omega arith) (turn.state l b h low (c.turns.invariant.0 l b low held) (c.turns.invariant.1 l b h low held before)),
    )

pub ends-init : goal.ends-init
ends-init c =
    let done : c.turns.turn ≡ 6 = omega (arith, c.requires, c.turns-test.false, c.turns.auto.turn-end) in (
      λ l b low held. IsSchedule-at _ b _ _ (omega (arith, done)) (c.turns.invariant.0 l b low held),
      λ l b h low held before. rounds-at h _ _ _ _ (omega (arith, done)) (c.turns.invariant.1 l b h low held before),
    )

pub ends-preserved : goal.ends-preserved
ends-preserved c = (
  c.ends.invariant.0,
  λ l b h low held before.
      let w = c.ends.invariant.0 l b low held in
      let few = c.ends-test.true in
      let s1 = c.four_rounds-reached.ensures l b h low (IsSchedule-less _ b _ _ (omega (arith, few)) w) (c.ends.invariant.1 l b h low held before) in
      rounds-at h _ _ _ _ (omega arith) (c.four_rounds-reached-in-ends.ensures l b h low (IsSchedule-less _ b _ _ (omega (arith, few)) w) s1),
)

pub returns-clause-state : goal.returns-clause-state
returns-clause-state c = λ l b h low held before.
    rounds-at h _ _ _ _ (omega (arith, c.ends-test.false, c.ends.auto.turn-end)) (c.ends.invariant.1 l b h low held before)
