use Rattle.std.proofs.Common.{◌≡◌, ◌+◌, ◌&&◌, true, false, Some, MatchOption, Contains, refl, sym, ap, ◌∙◌, subst, arith}
use Rattle.recency_index.specs.Recency.{IsItemAt}
use Rattle.area_interest.specs.Interest.{is_within}
use Rattle.area_interest.proofs.Walking.{IsWalk, begun, ends_behind_all, ends_at_last, ends_at_limit, goes_past, slot_there}
use Rattle.area_interest.proofs.last.last_within.Goals as goal

pub loop-taken-init : goal.loop-taken-init
loop-taken-init c = begun c.args.index.now.items c.args.index.now.slots c.args.count c.args.bytes c.first-at.result c.first-at.ensures.first

pub returns-in_default : goal.returns-in_default
returns-in_default c =
    let l = c.loop-taken in
    ends_at_last c.args.index.now.items c.args.index.now.slots c.args.count c.args.bytes l.taken l.sum l.at l.last l.invariant c.first-at.ensures.as_many c.in_default.is

pub unreachable-requires : goal.unreachable-requires
unreachable-requires c =
    let none : Contains c.args.index.now.slots c.in-Some.slot → ⊥ =
    subst (λ o. MatchOption o (Contains c.args.index.now.slots c.in-Some.slot → ⊥) (λ item. IsItemAt c.args.index.now c.in-Some.slot item.now)) c.in_default-at.is c.at.ensures in
    none (slot_there c.args.index.now.slots c.loop-taken.taken c.in-Some.slot (sym c.loop-taken.invariant.at_is ∙ c.in-Some.is))

pub overflow_add-more : goal.overflow_add-more
overflow_add-more c = omega (arith, c.loop-taken.invariant.small, c.size_of-size.ensures.small, c.loop-taken-test.true, c.ranges.most.fits)

pub returns-then-not-are_within : goal.returns-then-not-are_within
returns-then-not-are_within c =
    let l = c.loop-taken in
    let item = c.in-Some-at.item.now in
    let past : (is_within c.args.count (l.taken + 1) && is_within c.args.bytes (l.sum + item.length)) ≡ false =
    ap (λ n. is_within c.args.count (l.taken + 1) && is_within c.args.bytes (l.sum + n)) (sym c.size_of-size.ensures.size) ∙ sym c.are_within.ensures ∙ c.if-not-are_within.true in
    ends_at_limit c.args.index.now.items c.args.index.now.slots c.args.count c.args.bytes l.taken l.sum l.at l.last l.invariant item
    (c.in-Some-at.ensures.stands l.taken (sym l.invariant.at_is ∙ c.in-Some.is)) past

pub loop-taken-preserved : goal.loop-taken-preserved
loop-taken-preserved c =
    let l = c.loop-taken in
    let item = c.in-Some-at.item.now in
    let at = sym l.invariant.at_is ∙ c.in-Some.is in
    let within : (is_within c.args.count (l.taken + 1) && is_within c.args.bytes (l.sum + item.length)) ≡ true =
    ap (λ n. is_within c.args.count (l.taken + 1) && is_within c.args.bytes (l.sum + n)) (sym c.size_of-size.ensures.size) ∙ sym c.are_within.ensures ∙ c.if-not-are_within.false in
    subst (λ n. IsWalk c.args.index.now.items c.args.index.now.slots c.args.count c.args.bytes (l.taken + 1) (l.sum + n) c.next-at.result (Some c.in-Some-at.item)) (sym c.size_of-size.ensures.size)
    (goes_past c.args.index.now.items c.args.index.now.slots c.args.count c.args.bytes l.taken l.sum l.at l.last l.invariant item (c.in-Some-at.ensures.stands l.taken at) c.in-Some-at.item c.next-at.result refl within
    (omega (arith, c.size_of-size.ensures.size, c.size_of-size.ensures.small)) (c.next-at.ensures l.taken at))

pub returns : goal.returns
returns c =
    let l = c.loop-taken in
    ends_behind_all c.args.index.now.items c.args.index.now.slots c.args.count c.args.bytes l.taken l.sum l.at l.last l.invariant (omega (arith, c.loop-taken-test.false, c.requires))
