-- The reader of a range of times goes with its spelling.
use Rattle.std.proofs.Common.{◌≡◌, ℕ, zero, suc, ◌+◌, ◌-◌, ◌^◌, ◌<◌, ◌≤◌, min, Bool, true, false, List, [], ◌∷◌, ◌++◌, length, get_or, take, drop, replicate, Option, None, Result, Ok, Err, if◌then◌else◌, nat_lt, cond, ltb, refl, sym, ap, ◌∙◌, arith}
use Rattle.std.specs.Prelude.{IfSome, IfOk, ⊤}
use Rattle.std.specs.Int.{w64, from_be_bytes, to_be_bytes}
use Rattle.std.proofs.lemmas.Bool.{ltb-false, ltb-true, lt-ltb, le-ltb}
use Rattle.std.proofs.lemmas.List.{get_or_append_left, get_or_past, get_or_default, length-append, length-replicate}
use Rattle.spelling.specs.Front.{Whole, Part, Wrong, ◌>>=◌}
use Rattle.spelling.specs.Form.{AreBytes}
use Rattle.spelling.specs.Reading.{number_at, option_at, Gives}
use Rattle.spelling.specs.declared.input.Unread.{Unread}
use Rattle.spelling.specs.declared.input.Unread.TheVariants as unread
use Rattle.spelling.specs.Spelling.{option_spelling}
use Rattle.spelling.proofs.Lists.{All-append, byte_below}
use Rattle.spelling.proofs.Guards.{guard_whole, guard_part, guard_passes, guard_fails, test_fails}
use Rattle.spelling.proofs.Joining.{Reads, Completes, Reads-then, Reads-last, Reads-is, any_follows}
use Rattle.spelling.proofs.Fields.{u64-reads, wide64}
use Rattle.spelling.proofs.Repeated.{option-reads}
use Rattle.willow_area.specs.Times.{Times, IsTimes}
use Rattle.willow_area.specs.TimesSpelling.{byte_or_ff, highest, above_at, times_at, times_spelling}

-- ---- the highest number that begins with some bytes

-- more bytes never raise it
ff_falls : (bytes tail : List ℕ) (i : ℕ) (short : Bool) → ltb i (length bytes) ≡ short → byte_or_ff (bytes ++ tail) i ≤ byte_or_ff bytes i
ff_falls bytes tail i true h = let e = get_or_append_left bytes tail 255 i (ltb-true i (length bytes) h) in rw e (omega arith)
ff_falls bytes tail i false h = let e = get_or_past bytes i 255 (ltb-false i (length bytes) h) in rw e (omega arith)

highest_falls : (bytes tail : List ℕ) → highest (bytes ++ tail) ≤ highest bytes
unfolding highest
highest_falls bytes tail =
    let f = λ (i : ℕ). ff_falls bytes tail i (ltb i (length bytes)) refl in
    omega (arith, f 0, f 1, f 2, f 3, f 4, f 5, f 6, f 7)

-- behind eight bytes it stays
ff_stays : (bytes tail : List ℕ) (i : ℕ) → i < length bytes → byte_or_ff (bytes ++ tail) i ≡ byte_or_ff bytes i
ff_stays bytes tail i lt = ap (λ (b : ℕ). min b 255) (get_or_append_left bytes tail 255 i lt)

highest_stays : (bytes tail : List ℕ) → 8 ≤ length bytes → highest (bytes ++ tail) ≡ highest bytes
unfolding highest
highest_stays bytes tail long =
    omega (arith, ff_stays bytes tail 0 (omega arith), ff_stays bytes tail 1 (omega arith), ff_stays bytes tail 2 (omega arith), ff_stays bytes tail 3 (omega arith), ff_stays bytes tail 4 (omega arith), ff_stays bytes tail 5 (omega arith), ff_stays bytes tail 6 (omega arith), ff_stays bytes tail 7 (omega arith))

-- it is the number that stands there
ff_exact : (bytes : List ℕ) (i : ℕ) → i < length bytes → AreBytes bytes → byte_or_ff bytes i ≡ get_or bytes i 0
ff_exact bytes i lt are = let e = get_or_default bytes i 255 0 lt in let b = byte_below bytes i are in omega arith

same_bytes : (a b : ℕ → ℕ) → ((i : ℕ) → i < 8 → a i ≡ b i)
    → from_be_bytes w64 (a 0 ∷ a 1 ∷ a 2 ∷ a 3 ∷ a 4 ∷ a 5 ∷ a 6 ∷ a 7 ∷ []) ≡ from_be_bytes w64 (b 0 ∷ b 1 ∷ b 2 ∷ b 3 ∷ b 4 ∷ b 5 ∷ b 6 ∷ b 7 ∷ [])
same_bytes a b e =
    omega (arith, e 0 (omega arith), e 1 (omega arith), e 2 (omega arith), e 3 (omega arith), e 4 (omega arith), e 5 (omega arith), e 6 (omega arith), e 7 (omega arith))

highest_exact : (bytes : List ℕ) → length bytes ≡ 8 → AreBytes bytes → highest bytes ≡ from_be_bytes w64 bytes
unfolding highest
highest_exact bytes len are = same_bytes (byte_or_ff bytes) (λ i. get_or bytes i 0) (λ i lt. ff_exact bytes i (omega arith) are)

number_are_bytes : (n : ℕ) → AreBytes (to_be_bytes w64 n)
number_are_bytes n = (omega arith, (omega arith, (omega arith, (omega arith, (omega arith, (omega arith, (omega arith, (omega arith, tt))))))))

highest_number : (n : ℕ) (rest : List ℕ) → n < 2 ^ 64 → highest (to_be_bytes w64 n ++ rest) ≡ n
highest_number n rest lt =
    highest_stays (to_be_bytes w64 n) rest (omega (arith, wide64.len n)) ∙ highest_exact (to_be_bytes w64 n) (wide64.len n) (number_are_bytes n) ∙ wide64.again n lt

-- ---- a number above a start

is_long : {A : Type 0} (short : Bool) (made x : A) (left rest : List ℕ) → cond short Part (Whole made left) ≡ Whole x rest → short ≡ false
is_long true made x left rest e = absurd cc
is_long false made x left rest e = refl

is_short : {A : Type 0} (short : Bool) (made : A) (left : List ℕ) → cond short Part (Whole made left) ≡ Part → short ≡ true
is_short true made left e = refl
is_short false made left e = absurd cc

never_wrong : {A : Type 0} (short : Bool) (made : A) (left : List ℕ) → cond short Part (Whole made left) ≡ Wrong → ⊥
never_wrong true made left e = cc
never_wrong false made left e = cc

-- the highest number that begins with the bytes is above the start: bytes ff behind them complete it
ff_are_bytes : (n : ℕ) → AreBytes (replicate n 255)
ff_are_bytes zero = tt
ff_are_bytes (suc n) = (omega arith, ff_are_bytes n)

ff_behind : (bytes : List ℕ) (k i : ℕ) → i < length bytes + k → get_or (bytes ++ replicate k 255) i 255 ≡ get_or bytes i 255
ff_behind [] zero i lt = refl
ff_behind [] (suc k) zero lt = refl
ff_behind [] (suc k) (suc i) lt = ff_behind [] k i (omega (arith, lt)) ∙ get_or_past [] i 255 (omega arith)
ff_behind (b ∷ bytes) k zero lt = refl
ff_behind (b ∷ bytes) k (suc i) lt = ff_behind bytes k i (omega (arith, lt))

ff_same : (bytes : List ℕ) (k i : ℕ) → i < length bytes + k → byte_or_ff (bytes ++ replicate k 255) i ≡ byte_or_ff bytes i
ff_same bytes k i lt = ap (λ (b : ℕ). min b 255) (ff_behind bytes k i lt)

highest_same : (bytes : List ℕ) (k : ℕ) → 8 ≤ length bytes + k → highest (bytes ++ replicate k 255) ≡ highest bytes
unfolding highest
highest_same bytes k long = same_bytes (byte_or_ff (bytes ++ replicate k 255)) (byte_or_ff bytes) (λ i lt. ff_same bytes k i (omega (arith, lt, long)))

highest_completes : (start : ℕ) (bytes : List ℕ) → AreBytes bytes → length bytes < 8 → start < highest bytes → Completes (to_be_bytes w64) (λ n. (start < n) × (n < 2 ^ 64)) bytes
highest_completes start bytes are short above =
    let ff = replicate (8 - length bytes) 255 in
    let long : length (bytes ++ ff) ≡ 8 = omega (arith, length-append bytes ff, length-replicate {A = ℕ} (8 - length bytes) 255, short) in
    let are_all : AreBytes (bytes ++ ff) = All-append _ bytes ff are (ff_are_bytes (8 - length bytes)) in
    let is : from_be_bytes w64 (bytes ++ ff) ≡ highest bytes = sym (highest_exact (bytes ++ ff) long are_all) ∙ highest_same bytes (8 - length bytes) (omega (arith, short)) in
    let number = from_be_bytes w64 (bytes ++ ff) in
    let rises : start < number = omega (arith, is, above) in
    let fits : number < 2 ^ 64 = wide64.below (bytes ++ ff) are_all in
    record { value = number; more = ff; fits_value = (rises, fits); parts = wide64.back (bytes ++ ff) long are_all }

pub above-reads : (start : ℕ) → Reads (above_at start) (to_be_bytes w64) (λ n. (start < n) × (n < 2 ^ 64))
unfolding above_at
above-reads start = record {
  takes = λ bytes x rest are e.
      let g = guard_whole (nat_lt start (highest bytes)) (number_at w64 bytes) x rest e in
      let t = u64-reads.takes bytes x rest are g.1 in
      let is : highest bytes ≡ x = ap highest t.parts ∙ highest_number x rest t.fits in
      let above : start < x = omega (arith, ltb-true start (highest bytes) g.0) in
      record { fits = (above, t.fits); parts = t.parts; rest_are = t.rest_are };
  again = λ x rest f.
      guard_passes (nat_lt start (highest (to_be_bytes w64 x ++ rest))) (number_at w64 (to_be_bytes w64 x ++ rest))
      (lt-ltb start (highest (to_be_bytes w64 x ++ rest)) (omega (arith, highest_number x rest f.1, f.0)))
      ∙ u64-reads.again x rest f.1;
  more = λ bytes x rest tail e.
      let g = guard_whole (nat_lt start (highest bytes)) (number_at w64 bytes) x rest e in
      let long : 8 ≤ length bytes = ltb-false (length bytes) 8 (is_long (nat_lt (length bytes) 8) (from_be_bytes w64 (take 8 bytes)) x (drop 8 bytes) rest g.1) in
      guard_passes (nat_lt start (highest (bytes ++ tail))) (number_at w64 (bytes ++ tail)) (ap (nat_lt start) (highest_stays bytes tail long) ∙ g.0)
      ∙ u64-reads.more bytes x rest tail g.1;
  wrong = λ bytes tail e.
      let low = test_fails (nat_lt start (highest bytes)) (number_at w64 bytes) (never_wrong (nat_lt (length bytes) 8) (from_be_bytes w64 (take 8 bytes)) (drop 8 bytes)) e in
      guard_fails (nat_lt start (highest (bytes ++ tail))) (number_at w64 (bytes ++ tail))
      (le-ltb start (highest (bytes ++ tail)) (omega (arith, highest_falls bytes tail, ltb-false start (highest bytes) low)));
  part = λ bytes are e.
      let g = guard_part (nat_lt start (highest bytes)) (number_at w64 bytes) e in
      let short : length bytes < 8 = ltb-true (length bytes) 8 (is_short (nat_lt (length bytes) 8) (from_be_bytes w64 (take 8 bytes)) (drop 8 bytes) g.1) in
      highest_completes start bytes are short (ltb-true start (highest bytes) g.0);
}

passed : (test : Bool) (r : Result ⊤ Unread) (x : ⊤) → r ≡ (if test then Ok tt else Err unread.Wrong) → r ≡ Ok x → test ≡ true
passed true r x e h = refl
passed false r x e h = absurd cc

-- what was read behind the test is above the start
pub read_is_above : (result : Result ℕ Unread) (tested : Result ⊤ Unread) (x : ⊤) (start high : ℕ) (bytes left : List ℕ) → AreBytes bytes → high ≡ highest bytes
    → tested ≡ (if nat_lt start high then Ok tt else Err unread.Wrong) → tested ≡ Ok x → Gives (λ n. n) result left (number_at w64 bytes) → IfOk result (λ n. start < n)
read_is_above (Ok n) tested x start high bytes left are h e was gives =
    let t = u64-reads.takes bytes n left are gives in
    let is : highest bytes ≡ n = ap highest t.parts ∙ highest_number n left t.fits in
    omega (arith, h, ltb-true start high (passed (nat_lt start high) tested x e was))
read_is_above (Err u) tested x start high bytes left are h e was gives = tt

-- ---- ranges of times

from_start : (start : ℕ) → Reads (λ bytes. option_at (above_at start) bytes >>= λ end. Whole (record { start = start; end = end.0 }) end.1) (λ (t : Times). option_spelling (to_be_bytes w64) t.end)
    (λ t. IfSome t.end (λ n. (start < n) × (n < 2 ^ 64)) × (t ≡ record { start = start; end = t.end }))
from_start start = Reads-last (λ (t : Times). t.end) (λ (end : Option ℕ). record { start = start; end = end }) (option-reads (above-reads start)) (λ end. refl)

pub times-reads : Reads times_at times_spelling IsTimes
unfolding times_at
times-reads =
    let joined = Reads-then (λ (start : ℕ × List ℕ). option_at (above_at start.0) start.1 >>= λ end. Whole (record { start = start.0; end = end.0 }) end.1) (λ (t : Times). t.start)
    u64-reads from_start (λ start t f. ap (λ (s : Times). s.start) f.1) (any_follows u64-reads (λ start f. (record { start = start; end = None }, (tt, refl)))) in
    Reads-is joined (λ t. refl) (λ t f. record { starts = f.0; ends = f.1.0 }) (λ t f. (f.starts, (f.ends, refl)))
