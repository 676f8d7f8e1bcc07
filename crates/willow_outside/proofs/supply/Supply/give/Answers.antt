use Rattle.std.proofs.Common.{◌≡◌, ℕ, List, ◌+◌, ◌-◌, take, drop, arith, ap, ◌∙◌}
use Rattle.std.proofs.lemmas.List.{length-take-le}
use Rattle.willow_outside.proofs.Pieces.{piece-moved, piece-joined}
use Rattle.willow_outside.proofs.supply.Supply.give.Goals as goal

copied : (bytes front whole : List ℕ) (at n : ℕ) → front ≡ take (at + n - at) (drop at whole) → whole ≡ bytes → front ≡ take n (drop at bytes)
copied bytes front whole at n e same =
    let count : at + n - at ≡ n = omega arith in
    rw count at e ∙ ap (λ (xs : List ℕ). take n (drop at xs)) same

pub returns-clause-bytes : goal.returns-clause-bytes
returns-clause-bytes c =
    let s = c.self.inside in
    let n = c.min-n.result in
    rw (← c.self.view_is) (piece-moved s.bytes.items c.copy_from_slice.new.self (drop n c.args.buf.now) s.at n (copied _ _ _ _ _ c.copy_from_slice.ensures.after c.deref.ensures.value) (omega (arith, length-take-le n c.args.buf.now, c.copy_from_slice.ensures.len)))

pub returns-clause-given : goal.returns-clause-given
returns-clause-given c =
    let s = c.self.inside in
    let n = c.min-n.result in
    rw (← c.self.view_is) (piece-joined s.bytes.items c.copy_from_slice.new.self (drop n c.args.buf.now) s.at n (copied _ _ _ _ _ c.copy_from_slice.ensures.after c.deref.ensures.value) (omega (arith, length-take-le n c.args.buf.now, c.copy_from_slice.ensures.len)))
