-- The components that stand in a path's bytes.
use Rattle.std.proofs.Common.{◌≡◌, ℕ, ◌+◌, ◌-◌, ◌≤◌, List, [], ◌∷◌, ◌++◌, length, get_or, take, drop, nat_eq, refl, sym, ap, subst, ◌∙◌, append_assoc, arith}
use Rattle.std.specs.Cmp.Lexicographic.{pointwise, bytes_decides}
use Rattle.std.proofs.lemmas.Bool.Decides.{same_from_decides}
use Rattle.std.proofs.lemmas.List.{length-append, append-nil, take_at, take_all, drop_at, take-append-drop}
use Rattle.std.proofs.lemmas.List.Concat.{flat_map-append}
use Rattle.spelling.specs.Form.{AreBytes}
use Rattle.willow_path.specs.Path.{IsPath, IsPrefix, is_prefix, total}
use Rattle.willow_path.specs.PathPush.{HasRoom}
use Rattle.willow_path.specs.PathSpelling.{part_spelling}
use Rattle.willow_path.specs.PathBytes.{parts_spelling, first_parts, parts_of, AreOfParts, AreOfPath, IsFirstPart}
use Rattle.willow_path.proofs.PathLimits.{IsPath-empty, IsPath-push}
use Rattle.willow_path.proofs.PathOrder.{path_eq_decides, is_prefix_decides}

-- ---- the components back from their bytes

first_parts-all : (most : List ℕ) (parts : List (List ℕ)) → length (parts_spelling parts) ≤ length most → first_parts most (parts_spelling parts) ≡ parts
unfolding first_parts
first_parts-all most [] le = refl
first_parts-all [] (part ∷ parts) le = absurd (omega (arith, le))
first_parts-all (x ∷ most) (part ∷ parts) le =
    let one = take_at part (parts_spelling parts) (length part) refl in
    let others = drop_at part (parts_spelling parts) (length part) refl in
    let more = first_parts-all most parts (omega (arith, le, length-append part (parts_spelling parts))) in
    rw (one, others, more) refl

pub parts_of-spelled : (parts : List (List ℕ)) → parts_of (parts_spelling parts) ≡ parts
unfolding parts_of
parts_of-spelled parts = first_parts-all (parts_spelling parts) parts (omega arith)

pub AreOfParts-from : (bytes : List ℕ) (parts : List (List ℕ)) → bytes ≡ parts_spelling parts → AreOfParts bytes
AreOfParts-from bytes parts e = record { spelled = e ∙ ap parts_spelling (sym (parts_of-spelled parts) ∙ ap parts_of (sym e)) }

pub parts_of-from : (bytes : List ℕ) (parts : List (List ℕ)) → bytes ≡ parts_spelling parts → parts_of bytes ≡ parts
parts_of-from bytes parts e = ap parts_of e ∙ parts_of-spelled parts

pub AreOfPath-from : (bytes : List ℕ) (parts : List (List ℕ)) → bytes ≡ parts_spelling parts → IsPath parts → AreOfPath bytes
AreOfPath-from bytes parts e p = record { whole = AreOfParts-from bytes parts e; path = subst IsPath (sym (parts_of-from bytes parts e)) p }

-- ---- none, and one more

pub AreOfPath-empty : AreOfPath []
AreOfPath-empty = AreOfPath-from [] [] refl IsPath-empty

pub parts_of-empty : parts_of [] ≡ []
parts_of-empty = parts_of-spelled []

-- the bytes of one component more
pub spelled_more : (parts : List (List ℕ)) (part : List ℕ) → (parts_spelling parts ++ length part ∷ []) ++ part ≡ parts_spelling (parts ++ part ∷ [])
spelled_more parts part =
    append_assoc (parts_spelling parts) (length part ∷ []) part
    ∙ ap (λ (l : List ℕ). parts_spelling parts ++ l) (sym (append-nil (length part ∷ part)))
    ∙ sym (flat_map-append part_spelling parts (part ∷ []))

pub added_bytes : (bytes part : List ℕ) → AreOfParts bytes → (bytes ++ length part ∷ []) ++ part ≡ parts_spelling (parts_of bytes ++ part ∷ [])
added_bytes bytes part w = ap (λ (l : List ℕ). (l ++ length part ∷ []) ++ part) w.spelled ∙ spelled_more (parts_of bytes) part

pub parts_of-push : (bytes part : List ℕ) → AreOfParts bytes → parts_of ((bytes ++ length part ∷ []) ++ part) ≡ parts_of bytes ++ part ∷ []
parts_of-push bytes part w = parts_of-from _ (parts_of bytes ++ part ∷ []) (added_bytes bytes part w)

pub AreOfPath-push : (bytes part : List ℕ) → AreOfPath bytes → HasRoom (parts_of bytes) part → AreBytes part → AreOfPath ((bytes ++ length part ∷ []) ++ part)
AreOfPath-push bytes part w r b = AreOfPath-from _ (parts_of bytes ++ part ∷ []) (added_bytes bytes part w.whole) (IsPath-push (parts_of bytes) part w.path r b)

-- ---- the first component

first_from : (n : ℕ) (rest : List ℕ) (parts : List (List ℕ)) → n ∷ rest ≡ parts_spelling parts → (n ≤ length rest) × IsFirstPart (n ∷ rest) (take n rest) (drop n rest)
first_from n rest [] e = absurd cc
first_from n rest (part ∷ parts) e =
    let len : n ≡ length part = cc in
    let text : rest ≡ part ++ parts_spelling parts = cc in
    let one : take n rest ≡ part = ap (take n) text ∙ take_at part (parts_spelling parts) n (sym len) in
    let others : drop n rest ≡ parts_spelling parts = ap (drop n) text ∙ drop_at part (parts_spelling parts) n (sym len) in
    let all : parts_of (n ∷ rest) ≡ part ∷ parts = parts_of-from (n ∷ rest) (part ∷ parts) e in
    let more : parts_of (drop n rest) ≡ parts = parts_of-from (drop n rest) parts others in (
      omega (arith, ap length text, length-append part (parts_spelling parts), len),
      record {
        parts = rw (one, more) all;
        whole = AreOfParts-from (drop n rest) parts others;
        fewer = omega (arith, ap length others, ap length text, length-append part (parts_spelling parts));
      },
    )

pub first_part_is : (n : ℕ) (rest : List ℕ) → AreOfParts (n ∷ rest) → (n ≤ length rest) × IsFirstPart (n ∷ rest) (take n rest) (drop n rest)
first_part_is n rest w = first_from n rest (parts_of (n ∷ rest)) w.spelled

-- ---- counts

pub length_parts : (parts : List (List ℕ)) → length (parts_spelling parts) ≡ total parts + length parts
length_parts [] = refl
length_parts (part ∷ parts) = omega (arith, length-append part (parts_spelling parts), length_parts parts)

-- ---- comparisons

pub same_parts : (p q : List (List ℕ)) → parts_spelling p ≡ parts_spelling q → p ≡ q
same_parts p q e = sym (parts_of-spelled p) ∙ ap parts_of e ∙ parts_of-spelled q

pub equal_bytes : (p q : List (List ℕ)) → pointwise nat_eq (parts_spelling p) (parts_spelling q) ≡ pointwise (pointwise nat_eq) p q
equal_bytes p q =
    let bytes = bytes_decides (parts_spelling p) (parts_spelling q) in
    same_from_decides {P = p ≡ q} _ _ (λ h. same_parts p q (bytes.0 h), λ e. bytes.1 (ap parts_spelling e)) (path_eq_decides p q)

prefix_from : (p q : List (List ℕ)) (rest : List ℕ) → parts_spelling q ≡ parts_spelling p ++ rest → IsPrefix p q
prefix_from [] q rest e = (q, refl)
prefix_from (part ∷ parts) [] rest e = absurd cc
prefix_from (part ∷ parts) (first ∷ others) rest e =
    let len : length first ≡ length part = cc in
    let text : first ++ parts_spelling others ≡ (part ++ parts_spelling parts) ++ rest = cc in
    let regrouped = text ∙ append_assoc part (parts_spelling parts) rest in
    let same : first ≡ part =
    sym (take_at first (parts_spelling others) (length part) len) ∙ ap (take (length part)) regrouped ∙ take_at part (parts_spelling parts ++ rest) (length part) refl in
    let behind : parts_spelling others ≡ parts_spelling parts ++ rest =
    sym (drop_at first (parts_spelling others) (length part) len) ∙ ap (drop (length part)) regrouped ∙ drop_at part (parts_spelling parts ++ rest) (length part) refl in
    let more = prefix_from parts others rest behind in
    let is = more.1 in
    (more.0, cc)

-- the bytes of one path begin those of the other
pub prefix_bytes : (p q : List (List ℕ)) → pointwise nat_eq (parts_spelling p) (take (length (parts_spelling p)) (parts_spelling q)) ≡ is_prefix p q
prefix_bytes p q =
    let front = take (length (parts_spelling p)) (parts_spelling q) in
    let rest = drop (length (parts_spelling p)) (parts_spelling q) in
    let bytes = bytes_decides (parts_spelling p) front in
    let whole : front ++ rest ≡ parts_spelling q = take-append-drop (length (parts_spelling p)) (parts_spelling q) in
    same_from_decides {P = IsPrefix p q} _ _ (
      λ h. prefix_from p q rest (sym whole ∙ ap (λ (l : List ℕ). l ++ rest) (sym (bytes.0 h))),
      λ x. bytes.1 (sym (ap (take (length (parts_spelling p))) (ap parts_spelling x.1 ∙ flat_map-append part_spelling p x.0) ∙ take_at (parts_spelling p) (parts_spelling x.0) _ refl)),
    )
    (is_prefix_decides p q)

-- as a pattern on a slice gives the first byte and those behind it
pub first_part_at : (bytes : List ℕ) (n : ℕ) → 1 ≤ length bytes → n ≡ get_or bytes 0 0 → AreOfParts bytes
    → (n ≤ length (take (length bytes - 1) (drop 1 bytes))) × IsFirstPart bytes (take n (take (length bytes - 1) (drop 1 bytes))) (drop n (take (length bytes - 1) (drop 1 bytes)))
first_part_at [] n some e w = absurd (omega (arith, some))
first_part_at (b ∷ rest) n some e w =
    let all : take (length (b ∷ rest) - 1) rest ≡ rest = take_all (length (b ∷ rest) - 1) rest (omega arith) in
    let byte : n ≡ b = e in
    rw (all, byte) (first_part_is b rest w)
