-- How a climb goes on, one level at a time.
use Rattle.std.proofs.Common.{◌≡◌, ℕ, zero, suc, ◌+◌, ◌-◌, ◌*◌, ◌/◌, ◌<◌, List, drop, refl, arith}
use Rattle.std.proofs.lemmas.List.{drop-drop}
use Rattle.lms_core.specs.Bytes.{field}
use Rattle.lms_core.specs.Tree.{parent_value, climb}

-- a climb along what is left of a path, with its first level taken
pub climb_turn : (id : List ℕ) (node : ℕ) (value : List ℕ) (n at : ℕ) (path : List ℕ) → 0 < n → climb id node value n (drop (32 * at) path) ≡ climb id (node / 2) (parent_value id node value (field (32 * at) 32 path)) (n - 1) (drop (32 * (at + 1)) path)
unfolding climb
climb_turn id node value zero at path h = absurd (omega arith)
climb_turn id node value (suc n) at path h =
    let e : suc n - 1 ≡ n = omega arith in
    let f : 32 * at + 32 ≡ 32 * (at + 1) = omega arith in
    rw (e, drop-drop 32 (32 * at) path, f) refl

pub climb_none : (id : List ℕ) (node : ℕ) (value : List ℕ) (n : ℕ) (path : List ℕ) → n ≡ 0 → climb id node value n path ≡ value
unfolding climb
climb_none id node value n path h = rw h refl
