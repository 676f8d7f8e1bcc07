-- A word of components, read from the left.
use Rattle.std.proofs.Common.{◌≡◌, ℕ, suc, ◌+◌, ◌<◌, ◌≤◌, Bool, true, false, ◌==◌, cond, not, List, [], ◌∷◌, ◌++◌, length, get_or, take, drop, Result, Ok, Err, Option, Some, None, inl, inr, refl, sym, ap, ◌∙◌, arith, subst, append_assoc}
use Rattle.std.specs.List.{position_or_len}
use Rattle.std.proofs.Math.Seq.{take-append_seam, drop-append_seam, get_or-append_seam}
use Rattle.std.proofs.lemmas.Bool.{false≢true, cases_eq}
use Rattle.std.proofs.lemmas.Bool.Decides.{nat_tests}
use Rattle.std.proofs.lemmas.List.{take-append-drop, length-append}
use Rattle.hex.specs.Hex.{decode_of, is_hex_digit}
use Rattle.hex.specs.declared.error.FromHexError.{FromHexError}
use Rattle.hex.proofs.HexLemmas.{decode_of-ok}
use Rattle.willow_path.specs.Path.{IsPath}
use Rattle.willow_path.specs.PathPush.{push_refusal, HasRoom}
use Rattle.willow_path.specs.declared.path.PathRefusal.{PathRefusal}
use Rattle.spelling.specs.Answers.{JudgesFirst}
use Rattle.spelling.specs.declared.ending.End.{End}
use Rattle.spelling.specs.declared.ending.End.TheVariants as ends
use Rattle.willow_path.proofs.PathLimits.{room_of}
use Rattle.peer_words.specs.Values.{AreParts, IsParts}

-- the whole word spells the path so far followed by what is left, and nothing else
pub record IsFront (word : List ℕ) (path : List (List ℕ)) (left : List ℕ) : Type 0 where
  pub goes_on : (rest : List (List ℕ)) → AreParts left rest → AreParts word (path ++ rest)
  pub only : (whole : List (List ℕ)) → AreParts word whole → (rest : List (List ℕ)) × (whole ≡ path ++ rest) × AreParts left rest
  pub is_path : IsPath path

-- ---- where the first component ends

abbrev pub is_slash : ℕ → Bool
is_slash b = b == 47

abbrev at_slash : List ℕ → Bool
at_slash [] = true
at_slash (c ∷ cs) = is_slash c

parts_at_slash : (rest : List ℕ) (parts : List (List ℕ)) → AreParts rest parts → at_slash rest ≡ true
parts_at_slash rest [] is = ap at_slash is
parts_at_slash rest (part ∷ parts) is = ap at_slash is.2

no_slash : (c : ℕ) → is_hex_digit c ≡ true → is_slash c ≡ false
no_slash c digit = elim (cases_eq c 47) [
  | inl same ↦ absurd (false≢true (sym (ap is_hex_digit same) ∙ digit))
  | inr other ↦ grind (arith, nat_tests)
]

ends_there : (digits rest : List ℕ) → ((k : ℕ) (d : ℕ) → k < length digits → is_hex_digit (get_or digits k d) ≡ true) → at_slash rest ≡ true → position_or_len is_slash (digits ++ rest) ≡ length digits
ends_there [] [] all slash = refl
ends_there [] (c ∷ cs) all slash = ap (λ (b : Bool). cond (not b) (1 + position_or_len is_slash cs) 0) slash
ends_there (c ∷ cs) rest all slash =
    ap (λ (b : Bool). cond (not b) (1 + position_or_len is_slash (cs ++ rest)) 0) (no_slash c (all 0 0 (omega arith)))
    ∙ omega (arith, ends_there cs rest (λ k d lt. all (suc k) d (omega arith)) slash)

-- the digits up to there are the first component, and the others follow
pub opened : (others : List ℕ) (n : ℕ) (part : List ℕ) (parts : List (List ℕ)) → n ≡ position_or_len is_slash others → AreParts (47 ∷ others) (part ∷ parts)
    → (decode_of (take n others) ≡ Ok part) × AreParts (drop n others) parts
opened others n part parts end is =
    let behind : others ≡ is.0 ++ is.1 = ap (λ (word : List ℕ). drop 1 word) is.2 in
    let len : n ≡ length is.0 = end ∙ (ap (λ (word : List ℕ). position_or_len is_slash word) behind ∙ ends_there is.0 is.1 (decode_of-ok is.0 part is.3).1 (parts_at_slash is.1 parts is.4)) in
    let digits : take n others ≡ is.0 = ap (λ (m : ℕ). take m others) len ∙ (ap (λ (word : List ℕ). take (length is.0) word) behind ∙ take-append_seam is.0 is.1) in
    let rest : drop n others ≡ is.1 = ap (λ (m : ℕ). drop m others) len ∙ (ap (λ (word : List ℕ). drop (length is.0) word) behind ∙ drop-append_seam is.0 is.1) in
    (ap decode_of digits ∙ is.3, subst (λ (word : List ℕ). AreParts word parts) (sym rest) is.4)

-- ---- one component more

pub front_of : (left : List ℕ) → 1 ≤ length left → get_or left 0 0 ≡ 47 → left ≡ 47 ∷ drop 1 left
front_of [] some slash = absurd (omega arith)
front_of (c ∷ cs) some slash = ap (λ (d : ℕ). d ∷ cs) slash

empty_apart : (others : List ℕ) → (47 ∷ others) ≡ [] → ⊥
empty_apart others same = absurd (omega (arith, ap length same))

pub same_ok : (r : Result (List ℕ) FromHexError) (a b : List ℕ) → r ≡ Ok a → r ≡ Ok b → a ≡ b
same_ok r a b p q = cc

regroup : (path : List (List ℕ)) (part : List ℕ) (rest : List (List ℕ)) → path ++ (part ∷ rest) ≡ (path ++ part ∷ []) ++ rest
regroup path part rest = sym (append_assoc path (part ∷ []) rest)

-- what a path that the word spells goes on with
next_part : (word left : List ℕ) (path : List (List ℕ)) (n : ℕ) → IsFront word path left → left ≡ 47 ∷ drop 1 left → n ≡ position_or_len is_slash (drop 1 left) → (whole : List (List ℕ)) → AreParts word whole
    → (part : List ℕ) × (rest : List (List ℕ)) × (whole ≡ path ++ (part ∷ rest)) × (decode_of (take n (drop 1 left)) ≡ Ok part) × AreParts (drop n (drop 1 left)) rest
next_part word left path n front is end whole spelled =
    let found = front.only whole spelled in
    by_rest found.0 found.1 (subst (λ (w : List ℕ). AreParts w found.0) is found.2)
  where
    by_rest : (rest : List (List ℕ)) → whole ≡ path ++ rest → AreParts (47 ∷ drop 1 left) rest
        → (part : List ℕ) × (others : List (List ℕ)) × (whole ≡ path ++ (part ∷ others)) × (decode_of (take n (drop 1 left)) ≡ Ok part) × AreParts (drop n (drop 1 left)) others
    by_rest [] same parts = absurd (empty_apart (drop 1 left) parts)
    by_rest (part ∷ others) same parts = let more = opened (drop 1 left) n part others end parts in (part, others, same, more.0, more.1)

pub front_grows : (word left : List ℕ) (path : List (List ℕ)) (n : ℕ) (part : List ℕ) (longer : List (List ℕ)) (rest : List ℕ) → IsFront word path left → 1 ≤ length left → get_or left 0 0 ≡ 47
    → n ≡ position_or_len is_slash (drop 1 left) → decode_of (take n (drop 1 left)) ≡ Ok part → longer ≡ path ++ part ∷ [] → IsPath longer → rest ≡ drop n (drop 1 left) → IsFront word longer rest
front_grows word left path n part longer rest front some slash end decoded grown fits cut =
    let is = front_of left some slash in
    record {
      goes_on = λ parts spelled.
          let here : AreParts (47 ∷ drop 1 left) (part ∷ parts) = (take n (drop 1 left), drop n (drop 1 left), ap (λ (w : List ℕ). 47 ∷ w) (sym (take-append-drop n (drop 1 left))), decoded, subst (λ (w : List ℕ). AreParts w parts) cut spelled) in
          subst (λ (whole : List (List ℕ)). AreParts word whole) (regroup path part parts ∙ ap (λ (p : List (List ℕ)). p ++ parts) (sym grown)) (front.goes_on (part ∷ parts) (subst (λ (w : List ℕ). AreParts w (part ∷ parts)) (sym is) here));
      only = λ whole spelled.
          let next = next_part word left path n front is end whole spelled in
          let same : next.0 ≡ part = same_ok (decode_of (take n (drop 1 left))) next.0 part next.3 decoded in (
            next.1,
            next.2 ∙ (regroup path next.0 next.1 ∙ (ap (λ (p : List ℕ). (path ++ p ∷ []) ++ next.1) same ∙ ap (λ (p : List (List ℕ)). p ++ next.1) (sym grown))),
            subst (λ (w : List ℕ). AreParts w next.1) (sym cut) next.4,
          );
      is_path = fits;
    }

-- ---- refusals

pub no_front_slash : (word left : List ℕ) (path : List (List ℕ)) → IsFront word path left → 1 ≤ length left → (get_or left 0 0 ≡ 47 → ⊥) → (whole : List (List ℕ)) → IsParts word whole → ⊥
no_front_slash word left path front some other whole is =
    let found = front.only whole is.parts in by_rest found.0 found.2
  where
    by_rest : (rest : List (List ℕ)) → AreParts left rest → ⊥
    by_rest [] parts = absurd (omega (arith, ap length parts))
    by_rest (part ∷ others) parts = other (ap (λ (w : List ℕ). get_or w 0 0) parts.2)

pub no_digits : (word left : List ℕ) (path : List (List ℕ)) (n : ℕ) → IsFront word path left → 1 ≤ length left → get_or left 0 0 ≡ 47 → n ≡ position_or_len is_slash (drop 1 left)
    → ((part : List ℕ) → decode_of (take n (drop 1 left)) ≡ Ok part → ⊥) → (whole : List (List ℕ)) → IsParts word whole → ⊥
no_digits word left path n front some slash end none whole is =
    let next = next_part word left path n front (front_of left some slash) end whole is.parts in
    none next.0 next.3

no_cause : (path : List (List ℕ)) (part : List ℕ) → HasRoom path part → push_refusal path part ≡ None
unfolding push_refusal
no_cause path part room =
    let short = room.short in
    let few = room.few in
    let within = room.within in
    grind (arith, nat_tests)

-- a component behind a path within the limits has room
room_there : (path : List (List ℕ)) (part : List ℕ) (rest : List (List ℕ)) → IsPath (path ++ (part ∷ rest)) → HasRoom path part
room_there path part rest fits =
    let len : length path < length (path ++ (part ∷ rest)) = omega (arith, length-append path (part ∷ rest)) in
    let room = room_of (path ++ (part ∷ rest)) (length path) fits len in
    subst (λ (p : List ℕ). HasRoom path p) (get_or-append_seam path part rest []) (subst (λ (front : List (List ℕ)). HasRoom front (get_or (path ++ (part ∷ rest)) (length path) [])) (take-append_seam path (part ∷ rest)) room)

pub no_room : (word left : List ℕ) (path : List (List ℕ)) (n : ℕ) (part : List ℕ) (why : PathRefusal) → IsFront word path left → 1 ≤ length left → get_or left 0 0 ≡ 47 → n ≡ position_or_len is_slash (drop 1 left)
    → decode_of (take n (drop 1 left)) ≡ Ok part → push_refusal path part ≡ Some why → (whole : List (List ℕ)) → IsParts word whole → ⊥
no_room word left path n part why front some slash end decoded refused whole is =
    let next = next_part word left path n front (front_of left some slash) end whole is.parts in
    let same : next.0 ≡ part = same_ok (decode_of (take n (drop 1 left))) next.0 part next.3 decoded in
    let fits : IsPath (path ++ (part ∷ next.1)) = subst (λ (p : List (List ℕ)). IsPath p) (next.2 ∙ ap (λ (p : List ℕ). path ++ (p ∷ next.1)) same) is.is_path in
    none_some why (sym (no_cause path part (room_there path part next.1 fits)) ∙ refused)
  where
    none_some : (why : PathRefusal) → None ≡ Some why → ⊥
    none_some why same = cc

-- a push that is refused tells why
pub refused_push : (end : End PathRefusal) (why : PathRefusal) (cause : Option PathRefusal) → JudgesFirst {T = Unit {0}} (Err end) cause → end ≡ ends.Refused why → cause ≡ Some why
refused_push end why cause answer is = subst (λ (e : End PathRefusal). JudgesFirst {T = Unit {0}} (Err e) cause) is answer
