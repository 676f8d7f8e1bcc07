-- What the limits of a path say when a component is added.
use Rattle.std.proofs.Common.{◌≡◌, ℕ, zero, suc, ◌+◌, ◌-◌, ◌<◌, ◌≤◌, min, Bool, true, false, List, [], ◌∷◌, ◌++◌, length, take, drop, get_or, Some, None, nat_lt, nat_le, if◌then◌else◌, refl, ap, ◌∙◌, arith, lit≤}
use Rattle.std.specs.List.{AllByRecursion}
use Rattle.std.proofs.lemmas.List.{length_push, take_more, take-append-drop, length-take}
use Rattle.spelling.specs.Spelling.{IsText}
use Rattle.std.proofs.lemmas.Bool.Decides.{nat_tests}
use Rattle.spelling.specs.Form.{AreBytes}
use Rattle.willow_path.specs.declared.limits.TheConstants.{MAX_PART, MAX_PARTS, MAX_TOTAL}
use Rattle.willow_path.specs.Path.{IsPart, IsPath, total}
use Rattle.willow_path.specs.PathPush.{push_refusal, HasRoom}
use Rattle.spelling.proofs.Lists.{All-append}

pub total-append : (xs ys : List (List ℕ)) → total (xs ++ ys) ≡ total xs + total ys
total-append [] ys = omega arith
total-append (x ∷ xs) ys = omega (arith, total-append xs ys)

no_cause : {R : Type 0} (a b c : Bool) (x y z : R) → (if a then Some x else if b then Some y else if c then Some z else None) ≡ None → (a ≡ false) × (b ≡ false) × (c ≡ false)
no_cause true b c x y z h = absurd (cc)
no_cause false true c x y z h = absurd (cc)
no_cause false false true x y z h = absurd (cc)
no_cause false false false x y z h = (refl, refl, refl)

pub room : (path : List (List ℕ)) (part : List ℕ) → push_refusal path part ≡ None → HasRoom path part
unfolding push_refusal
room path part h =
    let no = no_cause (nat_lt MAX_PART (length part)) (nat_le MAX_PARTS (length path)) (nat_lt MAX_TOTAL (total path + length part)) _ _ _ h in
    record { short = grind (arith, nat_tests, no.0); few = grind (arith, nat_tests, no.1); within = grind (arith, nat_tests, no.2) }

pub IsPath-push : (path : List (List ℕ)) (part : List ℕ) → IsPath path → HasRoom path part → AreBytes part → IsPath (path ++ part ∷ [])
IsPath-push path part p r b = record {
  few = omega (arith, length_push path part, r.few);
  parts_fit = All-append IsPart path (part ∷ []) p.parts_fit ((r.short, b), tt);
  short = omega (arith, total-append path (part ∷ []), r.within);
}

pub IsPath-empty : IsPath []
IsPath-empty = record { few = lit≤ tt; parts_fit = tt; short = lit≤ tt }

-- ---- the components of a path

pub total-take_more : (path : List (List ℕ)) (i : ℕ) → i < length path → total (take (i + 1) path) ≡ total (take i path) + length (get_or path i [])
total-take_more path i lt = ap total (take_more path i [] lt) ∙ total-append (take i path) (get_or path i [] ∷ []) ∙ omega arith

pub total-take : (path : List (List ℕ)) (i : ℕ) → total (take i path) ≤ total path
total-take path i = omega (arith, total-append (take i path) (drop i path), ap total (take-append-drop i path))

pub part_fits : (path : List (List ℕ)) (i : ℕ) → AllByRecursion IsPart path → i < length path → IsPart (get_or path i [])
part_fits [] i a lt = absurd (omega (arith, lt))
part_fits (part ∷ parts) zero a lt = a.0
part_fits (part ∷ parts) (suc i) a lt = part_fits parts i a.1 (omega (arith, lt))

pub room_of : (path : List (List ℕ)) (i : ℕ) → IsPath path → i < length path → HasRoom (take i path) (get_or path i [])
room_of path i p lt = record {
  short = (part_fits path i p.parts_fit lt).0;
  few = omega (arith, length-take i path, p.few);
  within = omega (arith, total-take_more path i lt, total-take path (i + 1), p.short);
}

-- the room that the components before it leave to a component
pub text_of : (path : List (List ℕ)) (i : ℕ) → IsPath path → i < length path → IsText (min MAX_PART (MAX_TOTAL - total (take i path))) (get_or path i [])
text_of path i p lt = let r = room_of path i p lt in (omega (arith, r.short, r.within), (part_fits path i p.parts_fit lt).1)

pub room_for : (path : List (List ℕ)) (i : ℕ) (next : List ℕ) → IsPath path → i < length path → IsText (min MAX_PART (MAX_TOTAL - total (take i path))) next → HasRoom (take i path) next
room_for path i next p lt is = record {
  short = omega (arith, is.0);
  few = omega (arith, length-take i path, p.few);
  within = omega (arith, is.0, total-take path i, p.short);
}

-- one component less
pub total-less : (path : List (List ℕ)) (k before : ℕ) (part : List ℕ) → 0 < k → k ≤ length path → before ≡ total (take k path) → part ≡ get_or path (k - 1) []
    → (length part ≤ before) × (before - length part ≡ total (take (k - 1) path))
total-less path k before part some le counted is =
    let n : k - 1 + 1 ≡ k = omega arith in
    let all = ap (λ (m : ℕ). total (take m path)) n in
    let more = total-take_more path (k - 1) (omega arith) in
    let len = ap length is in
    (omega (arith, all, more, len, counted), omega (arith, all, more, len, counted))
