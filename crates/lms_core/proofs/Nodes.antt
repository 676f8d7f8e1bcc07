-- The numbers of the nodes of a tree: those on the level l above the leaves go from 2 ^ (h - l) to 2 * 2 ^ (h - l).
use Rattle.std.proofs.Common.{◌≡◌, ℕ, suc, ◌+◌, ◌-◌, ◌*◌, ◌/◌, ◌^◌, ◌<◌, ◌≤◌, inl, inr, refl, arith}
use Rattle.std.proofs.Math.Nat.{pow-suc}
use Rattle.lms_core.specs.Signer.{sibling}
use Rattle.lms_core.proofs.Secrets.{parity, sibling_odd, sibling_even}

-- each level has twice as many nodes as the one above it
pub pow_level : (h l : ℕ) → l < h → 2 ^ (h - l) ≡ 2 * 2 ^ (h - (l + 1))
pow_level h l p =
    let e : h - l ≡ suc (h - (l + 1)) = omega arith in
    rw (e, pow-suc) (omega arith)

pub pow_level_below : (h l : ℕ) → 0 < l → l ≤ h → 2 ^ (h - (l - 1)) ≡ 2 * 2 ^ (h - l)
pow_level_below h l p q =
    let e : l - 1 + 1 ≡ l = omega arith in
    rw e at (pow_level h (l - 1) (omega arith))

pub pow_level_top : (h l : ℕ) → l ≡ h → 2 ^ (h - l) ≡ 1
pow_level_top h l e =
    let z : h - l ≡ 0 = omega arith in
    rw z refl

-- a node's sibling stands on the node's level
pub sibling_from : (h l node : ℕ) → l < h → 2 ^ (h - l) ≤ node → node < 2 * 2 ^ (h - l) → 2 ^ (h - l) ≤ sibling node
sibling_from h l node p q r =
    let e = pow_level h l p in
    elim (parity node) [ inl odd ↦ (let s = sibling_odd node odd in omega arith) | inr even ↦ (let s = sibling_even node even in omega arith) ]

pub sibling_to : (h l node : ℕ) → l < h → 2 ^ (h - l) ≤ node → node < 2 * 2 ^ (h - l) → sibling node < 2 * 2 ^ (h - l)
sibling_to h l node p q r =
    let e = pow_level h l p in
    elim (parity node) [ inl odd ↦ (let s = sibling_odd node odd in omega arith) | inr even ↦ (let s = sibling_even node even in omega arith) ]

-- the node above a node stands on the level above
pub half_from : (h l node : ℕ) → l < h → 2 ^ (h - l) ≤ node → 2 ^ (h - (l + 1)) ≤ node / 2
half_from h l node p q =
    let e = pow_level h l p in
    omega arith

pub half_to : (h l node : ℕ) → l < h → node < 2 * 2 ^ (h - l) → node / 2 < 2 * 2 ^ (h - (l + 1))
half_to h l node p q =
    let e = pow_level h l p in
    omega arith
