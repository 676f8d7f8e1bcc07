-- Each field's reader goes with its spelling.
use Rattle.std.proofs.Common.{◌≡◌, ℕ, zero, suc, ◌-◌, ◌^◌, ◌<◌, ◌≤◌, Bool, true, false, cond, ltb, List, [], ◌∷◌, ◌++◌, length, get_or, take, drop, replicate, refl, sym, ap, subst, ◌∙◌, arith}
use Rattle.std.specs.Prelude.{nat_le}
use Rattle.std.specs.Int.{Width, w16, w32, w64, byte_len, from_be_bytes, to_be_bytes}
use Rattle.std.proofs.lemmas.Bool.{ltb-false, ltb-true, le-ltb, leb-true, leb-false, le-leb, lt-leb}
use Rattle.std.proofs.lemmas.List.{take_at, drop_at, take-append-drop, length-append, length-take, length-replicate, get_or_append_left, get_or_past, take-append-le, drop-append-le}
use Rattle.std.proofs.lemmas.Nat.{be_bytes_2, be_bytes_4, be_bytes_8, from_be_bytes-to_be_bytes_2, from_be_bytes-to_be_bytes_4, from_be_bytes-to_be_bytes_8}
use Rattle.spelling.specs.Front.{Front, Whole, Part, Wrong}
use Rattle.spelling.specs.Form.{AreBytes}
use Rattle.spelling.specs.Spelling.{byte_spelling, AreSoManyBytes}
use Rattle.spelling.specs.Reading.{holds_at, byte_at, byte_up_to, bytes_at, number_at, number_up_to}
use Rattle.spelling.proofs.Lists.{All-append, All-take, All-drop, byte_below}
use Rattle.spelling.proofs.Joining.{Takes, Reads, Completes, Follows, whole_value, whole_rest, whole_not_part}
use Rattle.spelling.proofs.Guards.{guard_whole, guard_part, guard_passes, guard_fails, test_fails}

-- ---- a byte

byte_takes : (bytes : List ℕ) (x : ℕ) (rest : List ℕ) → AreBytes bytes → byte_at bytes ≡ Whole x rest → Takes bytes (byte_spelling x) rest (x < 2 ^ 8)
byte_takes [] x rest are e = absurd cc
byte_takes (b ∷ bytes) x rest are e =
    let value = whole_value b x bytes rest e in
    let left = whole_rest b x bytes rest e in
    record { fits = subst (λ (n : ℕ). n < 2 ^ 8) value are.0; parts = ap (λ (n : ℕ). n ∷ bytes) value ∙ ap (λ (l : List ℕ). x ∷ l) left; rest_are = subst AreBytes left are.1 }

byte_more : (bytes : List ℕ) (x : ℕ) (rest tail : List ℕ) → byte_at bytes ≡ Whole x rest → byte_at (bytes ++ tail) ≡ Whole x (rest ++ tail)
byte_more [] x rest tail e = absurd cc
byte_more (b ∷ bytes) x rest tail e = ap (λ (n : ℕ). Whole n (bytes ++ tail)) (whole_value b x bytes rest e) ∙ ap (λ (l : List ℕ). Whole x (l ++ tail)) (whole_rest b x bytes rest e)

byte_wrong : (bytes tail : List ℕ) → byte_at bytes ≡ Wrong → byte_at (bytes ++ tail) ≡ Wrong
byte_wrong [] tail e = absurd cc
byte_wrong (b ∷ bytes) tail e = absurd cc

byte_part : (bytes : List ℕ) → byte_at bytes ≡ Part → Completes byte_spelling (λ b. b < 2 ^ 8) bytes
byte_part [] e = record { value = 0; more = 0 ∷ []; fits_value = omega arith; parts = refl }
byte_part (b ∷ bytes) e = absurd cc

pub byte-reads : Reads byte_at byte_spelling (λ b. b < 2 ^ 8)
byte-reads = record { takes = byte_takes; again = λ x rest fits. refl; more = byte_more; wrong = byte_wrong; part = λ bytes are e. byte_part bytes e }

-- where a byte is not there yet, any value of one byte can be
pub byte_follows : {T : Type 0} {fits_next : ℕ → T → Type 0} (b : ℕ) (t : T) → b < 2 ^ 8 → fits_next b t → (bytes : List ℕ) → AreBytes bytes → byte_at bytes ≡ Part → Follows byte_spelling (λ n. n < 2 ^ 8) fits_next bytes
byte_follows b t lt f [] are e = record { first = record { value = b; more = b ∷ []; fits_value = lt; parts = refl }; next = t; fits_behind = f }
byte_follows b t lt f (c ∷ bytes) are e = absurd cc

-- ---- a byte up to a limit

up_to_takes : (limit : ℕ) (bytes : List ℕ) (x : ℕ) (rest : List ℕ) → AreBytes bytes → byte_up_to limit bytes ≡ Whole x rest → Takes bytes (byte_spelling x) rest ((x ≤ limit) × (x < 2 ^ 8))
up_to_takes limit [] x rest are e = absurd cc
up_to_takes limit (b ∷ bytes) x rest are e =
    let g = guard_whole (nat_le b limit) (Whole b bytes) x rest e in
    let t = byte_takes (b ∷ bytes) x rest are g.1 in
    let is = whole_value b x bytes rest g.1 in
    record { fits = (subst (λ (n : ℕ). n ≤ limit) is (leb-true b limit g.0), t.fits); parts = t.parts; rest_are = t.rest_are }

up_to_more : (limit : ℕ) (bytes : List ℕ) (x : ℕ) (rest tail : List ℕ) → byte_up_to limit bytes ≡ Whole x rest → byte_up_to limit (bytes ++ tail) ≡ Whole x (rest ++ tail)
up_to_more limit [] x rest tail e = absurd cc
up_to_more limit (b ∷ bytes) x rest tail e =
    let g = guard_whole (nat_le b limit) (Whole b bytes) x rest e in
    guard_passes (nat_le b limit) (Whole b (bytes ++ tail)) g.0 ∙ byte_more (b ∷ bytes) x rest tail g.1

up_to_wrong : (limit : ℕ) (bytes tail : List ℕ) → byte_up_to limit bytes ≡ Wrong → byte_up_to limit (bytes ++ tail) ≡ Wrong
up_to_wrong limit [] tail e = absurd cc
up_to_wrong limit (b ∷ bytes) tail e = guard_fails (nat_le b limit) (Whole b (bytes ++ tail)) (test_fails (nat_le b limit) (Whole b bytes) (λ h. cc) e)

up_to_part : (limit : ℕ) (bytes : List ℕ) → byte_up_to limit bytes ≡ Part → Completes byte_spelling (λ b. (b ≤ limit) × (b < 2 ^ 8)) bytes
up_to_part limit [] e = record { value = 0; more = 0 ∷ []; fits_value = (omega arith, omega arith); parts = refl }
up_to_part limit (b ∷ bytes) e = let g = guard_part (nat_le b limit) (Whole b bytes) e in absurd (whole_not_part b bytes (Whole b bytes) refl g.1)

pub byte_up_to-reads : (limit : ℕ) → Reads (byte_up_to limit) byte_spelling (λ b. (b ≤ limit) × (b < 2 ^ 8))
byte_up_to-reads limit = record {
  takes = up_to_takes limit;
  again = λ x rest f. guard_passes (nat_le x limit) (Whole x rest) (le-leb x limit f.0);
  more = up_to_more limit;
  wrong = up_to_wrong limit;
  part = λ bytes are e. up_to_part limit bytes e;
}

-- ---- a test between fields

holds_takes : (test : Bool) (bytes : List ℕ) (x : Unit {0}) (rest : List ℕ) → AreBytes bytes → holds_at test bytes ≡ Whole x rest → Takes bytes [] rest (test ≡ true)
holds_takes true bytes x rest are e = record { fits = refl; parts = whole_rest tt x bytes rest e; rest_are = subst AreBytes (whole_rest tt x bytes rest e) are }
holds_takes false bytes x rest are e = absurd cc

holds_again : (test : Bool) (x : Unit {0}) (rest : List ℕ) → test ≡ true → holds_at test ([] ++ rest) ≡ Whole x rest
holds_again test x rest h = ap (λ (b : Bool). holds_at b rest) h

holds_more : (test : Bool) (bytes : List ℕ) (x : Unit {0}) (rest tail : List ℕ) → holds_at test bytes ≡ Whole x rest → holds_at test (bytes ++ tail) ≡ Whole x (rest ++ tail)
holds_more true bytes x rest tail e = ap (λ (l : List ℕ). Whole x (l ++ tail)) (whole_rest tt x bytes rest e)
holds_more false bytes x rest tail e = absurd cc

holds_wrong : (test : Bool) (bytes tail : List ℕ) → holds_at test bytes ≡ Wrong → holds_at test (bytes ++ tail) ≡ Wrong
holds_wrong true bytes tail e = absurd cc
holds_wrong false bytes tail e = refl

holds_part : (test : Bool) (bytes : List ℕ) → holds_at test bytes ≡ Part → ⊥
holds_part true bytes e = cc
holds_part false bytes e = cc

pub holds-reads : (test : Bool) → Reads (holds_at test) (λ _. []) (λ _. test ≡ true)
holds-reads test = record { takes = holds_takes test; again = holds_again test; more = holds_more test; wrong = holds_wrong test; part = λ bytes are e. absurd (holds_part test bytes e) }

-- ---- so many bytes, and what is made of them

-- what was read of so many bytes: there were as many
enough : {A : Type 0} (short : Bool) (made x : A) (left rest : List ℕ) → cond short Part (Whole made left) ≡ Whole x rest → (short ≡ false) × (made ≡ x) × (left ≡ rest)
enough true made x left rest e = absurd cc
enough false made x left rest e = (refl, whole_value made x left rest e, whole_rest made x left rest e)

never_wrong : {A : Type 0} (short : Bool) (made : A) (left : List ℕ) → cond short Part (Whole made left) ≡ Wrong → ⊥
never_wrong true made left e = cc
never_wrong false made left e = cc

is_short : {A : Type 0} (short : Bool) (made : A) (left : List ℕ) → cond short Part (Whole made left) ≡ Part → short ≡ true
is_short true made left e = refl
is_short false made left e = absurd cc

pub zeros_are_bytes : (n : ℕ) → AreBytes (replicate n 0)
zeros_are_bytes zero = tt
zeros_are_bytes (suc n) = (omega arith, zeros_are_bytes n)

-- n bytes, seen as a value
abbrev made_at : {A : Type 0} → ℕ → (List ℕ → A) → List ℕ → Front A
made_at n make bytes = cond (ltb (length bytes) n) Part (Whole (make (take n bytes)) (drop n bytes))

-- Where the value and its n bytes tell each other, they are read.
made_reads : {A : Type 0} (n : ℕ) (make : List ℕ → A) (spell : A → List ℕ) (fits : A → Type 0)
    → ((bytes : List ℕ) → length bytes ≡ n → AreBytes bytes → fits (make bytes) × (spell (make bytes) ≡ bytes))
    → ((x : A) → fits x → (length (spell x) ≡ n) × (make (spell x) ≡ x))
    → Reads (made_at n make) spell fits
made_reads {A} n make spell fits there back = record {
  takes = λ bytes x rest are e.
      let g = enough (ltb (length bytes) n) (make (take n bytes)) x (drop n bytes) rest e in
      let long : n ≤ length bytes = ltb-false _ _ g.0 in
      let t = there (take n bytes) (omega (arith, length-take n bytes)) (All-take _ n bytes are) in
      record {
        fits = subst fits g.1 t.0;
        parts = sym (take-append-drop n bytes) ∙ ap (λ (l : List ℕ). l ++ drop n bytes) (sym t.1) ∙ ap (λ (y : A). spell y ++ drop n bytes) g.1 ∙ ap (λ (l : List ℕ). spell x ++ l) g.2;
        rest_are = subst AreBytes g.2 (All-drop _ n bytes are);
      };
  again = λ x rest f.
      let b = back x f in
      let long : ltb (length (spell x ++ rest)) n ≡ false = le-ltb _ _ (omega (arith, length-append (spell x) rest, b.0)) in
      rw (long, take_at (spell x) rest n b.0, drop_at (spell x) rest n b.0, b.1) refl;
  more = λ bytes x rest tail e.
      let g = enough (ltb (length bytes) n) (make (take n bytes)) x (drop n bytes) rest e in
      let long : n ≤ length bytes = ltb-false _ _ g.0 in
      let longer : ltb (length (bytes ++ tail)) n ≡ false = le-ltb _ _ (omega (arith, length-append bytes tail, long)) in
      rw (longer, take-append-le n bytes tail long, drop-append-le n bytes tail long, g.1, g.2) refl;
  wrong = λ bytes tail e. absurd (never_wrong (ltb (length bytes) n) (make (take n bytes)) (drop n bytes) e);
  part = λ bytes are e.
      let short : length bytes < n = ltb-true _ _ (is_short (ltb (length bytes) n) (make (take n bytes)) (drop n bytes) e) in
      let zeros = replicate (n - length bytes) 0 in
      let long : length (bytes ++ zeros) ≡ n = omega (arith, length-append bytes zeros, length-replicate {A = ℕ} (n - length bytes) 0) in
      let t = there (bytes ++ zeros) long (All-append _ bytes zeros are (zeros_are_bytes (n - length bytes))) in
      record { value = make (bytes ++ zeros); more = zeros; fits_value = t.0; parts = t.1 };
}

pub bytes-reads : (n : ℕ) → Reads (bytes_at n) (λ x. x) (AreSoManyBytes n)
bytes-reads n = made_reads n (λ bytes. bytes) (λ x. x) (AreSoManyBytes n) (λ bytes long are. ((long, are), refl)) (λ x fits. (fits.0, refl))

-- ---- numbers

-- a width whose numbers and bytes tell each other
pub record IsWide (w : Width) (limit : ℕ) : Type 0 where
  pub len : (n : ℕ) → length (to_be_bytes w n) ≡ byte_len w
  pub back : (bytes : List ℕ) → length bytes ≡ byte_len w → AreBytes bytes → to_be_bytes w (from_be_bytes w bytes) ≡ bytes
  pub again : (n : ℕ) → n < limit → from_be_bytes w (to_be_bytes w n) ≡ n
  pub below : (bytes : List ℕ) → AreBytes bytes → from_be_bytes w bytes < limit

pub wide16 : IsWide w16 (2 ^ 16)
wide16 = record {
  len = λ n. refl;
  back = λ bytes len are. be_bytes_2 bytes _ len (λ i. byte_below bytes i are) refl;
  again = λ n lt. from_be_bytes-to_be_bytes_2 n lt;
  below = λ bytes are. omega (arith, byte_below bytes 0 are, byte_below bytes 1 are);
}

pub wide32 : IsWide w32 (2 ^ 32)
wide32 = record {
  len = λ n. refl;
  back = λ bytes len are. be_bytes_4 bytes _ len (λ i. byte_below bytes i are) refl;
  again = λ n lt. from_be_bytes-to_be_bytes_4 n lt;
  below = λ bytes are. omega (arith, byte_below bytes 0 are, byte_below bytes 1 are, byte_below bytes 2 are, byte_below bytes 3 are);
}

pub wide64 : IsWide w64 (2 ^ 64)
wide64 = record {
  len = λ n. refl;
  back = λ bytes len are. be_bytes_8 bytes _ len (λ i. byte_below bytes i are) refl;
  again = λ n lt. from_be_bytes-to_be_bytes_8 n lt;
  below = λ bytes are. omega (arith, byte_below bytes 0 are, byte_below bytes 1 are, byte_below bytes 2 are, byte_below bytes 3 are, byte_below bytes 4 are, byte_below bytes 5 are, byte_below bytes 6 are, byte_below bytes 7 are);
}

pub number-reads : (w : Width) (limit : ℕ) → IsWide w limit → Reads (number_at w) (to_be_bytes w) (λ n. n < limit)
number-reads w limit wide = made_reads (byte_len w) (from_be_bytes w) (to_be_bytes w) (λ n. n < limit) (λ bytes long are. (wide.below bytes are, wide.back bytes long are)) (λ n fits. (wide.len n, wide.again n fits))

pub u16-reads : Reads (number_at w16) (to_be_bytes w16) (λ n. n < 2 ^ 16)
u16-reads = number-reads w16 (2 ^ 16) wide16

pub u32-reads : Reads (number_at w32) (to_be_bytes w32) (λ n. n < 2 ^ 32)
u32-reads = number-reads w32 (2 ^ 32) wide32

pub u64-reads : Reads (number_at w64) (to_be_bytes w64) (λ n. n < 2 ^ 64)
u64-reads = number-reads w64 (2 ^ 64) wide64

-- ---- numbers up to a limit

-- a width whose least number that begins with some bytes stands there in place of the bytes that are not there
pub record IsLeast (w : Width) : Type 0 where
  pub rises : (bytes tail : List ℕ) → from_be_bytes w bytes ≤ from_be_bytes w (bytes ++ tail)
  pub stays : (bytes tail : List ℕ) → byte_len w ≤ length bytes → from_be_bytes w (bytes ++ tail) ≡ from_be_bytes w bytes
  pub zeros : (bytes : List ℕ) (k : ℕ) → from_be_bytes w (bytes ++ replicate k 0) ≡ from_be_bytes w bytes

byte_rises : (bytes tail : List ℕ) (i : ℕ) (within : Bool) → ltb i (length bytes) ≡ within → get_or bytes i 0 ≤ get_or (bytes ++ tail) i 0
byte_rises bytes tail i true h = let e = get_or_append_left bytes tail 0 i (ltb-true i (length bytes) h) in rw e (omega arith)
byte_rises bytes tail i false h = let e = get_or_past bytes i 0 (ltb-false i (length bytes) h) in rw e (omega arith)

byte_stays : (bytes tail : List ℕ) (i : ℕ) → i < length bytes → get_or (bytes ++ tail) i 0 ≡ get_or bytes i 0
byte_stays bytes tail i lt = get_or_append_left bytes tail 0 i lt

-- zeros behind the bytes change no number
zero_behind : (bytes : List ℕ) (k i : ℕ) → get_or (bytes ++ replicate k 0) i 0 ≡ get_or bytes i 0
zero_behind [] zero i = refl
zero_behind [] (suc k) zero = refl
zero_behind [] (suc k) (suc i) = zero_behind [] k i ∙ get_or_past [] i 0 (omega arith)
zero_behind (b ∷ bytes) k zero = refl
zero_behind (b ∷ bytes) k (suc i) = zero_behind bytes k i

pub least16 : IsLeast w16
least16 = record {
  rises = λ bytes tail. let f = λ (i : ℕ). byte_rises bytes tail i (ltb i (length bytes)) refl in omega (arith, f 0, f 1);
  stays = λ bytes tail long. let f = byte_stays bytes tail in omega (arith, f 0 (omega arith), f 1 (omega arith));
  zeros = λ bytes k. let f = zero_behind bytes k in omega (arith, f 0, f 1);
}

pub least32 : IsLeast w32
least32 = record {
  rises = λ bytes tail. let f = λ (i : ℕ). byte_rises bytes tail i (ltb i (length bytes)) refl in omega (arith, f 0, f 1, f 2, f 3);
  stays = λ bytes tail long. let f = byte_stays bytes tail in omega (arith, f 0 (omega arith), f 1 (omega arith), f 2 (omega arith), f 3 (omega arith));
  zeros = λ bytes k. let f = zero_behind bytes k in omega (arith, f 0, f 1, f 2, f 3);
}

-- a spelled number with bytes behind it is the least that begins so
spelled_least : (w : Width) (top : ℕ) → IsWide w top → IsLeast w → (n : ℕ) (rest : List ℕ) → n < top → from_be_bytes w (to_be_bytes w n ++ rest) ≡ n
spelled_least w top wide least n rest lt = least.stays (to_be_bytes w n) rest (omega (arith, wide.len n)) ∙ wide.again n lt

pub number_up_to-reads : (w : Width) (top limit : ℕ) → IsWide w top → IsLeast w → limit < top → Reads (number_up_to w limit) (to_be_bytes w) (λ n. (n ≤ limit) × (n < top))
number_up_to-reads w top limit wide least below =
    let plain = number-reads w top wide in record {
      takes = λ bytes x rest are e.
          let g = guard_whole (nat_le (from_be_bytes w bytes) limit) (number_at w bytes) x rest e in
          let t = plain.takes bytes x rest are g.1 in
          let is : from_be_bytes w bytes ≡ x = ap (from_be_bytes w) t.parts ∙ spelled_least w top wide least x rest t.fits in
          record { fits = (subst (λ (n : ℕ). n ≤ limit) is (leb-true _ _ g.0), t.fits); parts = t.parts; rest_are = t.rest_are };
      again = λ x rest f.
          guard_passes (nat_le (from_be_bytes w (to_be_bytes w x ++ rest)) limit) (number_at w (to_be_bytes w x ++ rest))
          (ap (λ (n : ℕ). nat_le n limit) (spelled_least w top wide least x rest f.1) ∙ le-leb x limit f.0)
          ∙ plain.again x rest f.1;
      more = λ bytes x rest tail e.
          let g = guard_whole (nat_le (from_be_bytes w bytes) limit) (number_at w bytes) x rest e in
          let long : byte_len w ≤ length bytes = ltb-false _ _ (enough (ltb (length bytes) (byte_len w)) (from_be_bytes w (take (byte_len w) bytes)) x (drop (byte_len w) bytes) rest g.1).0 in
          guard_passes (nat_le (from_be_bytes w (bytes ++ tail)) limit) (number_at w (bytes ++ tail)) (ap (λ (n : ℕ). nat_le n limit) (least.stays bytes tail long) ∙ g.0)
          ∙ plain.more bytes x rest tail g.1;
      wrong = λ bytes tail e.
          let high = test_fails (nat_le (from_be_bytes w bytes) limit) (number_at w bytes) (never_wrong (ltb (length bytes) (byte_len w)) (from_be_bytes w (take (byte_len w) bytes)) (drop (byte_len w) bytes)) e in
          guard_fails (nat_le (from_be_bytes w (bytes ++ tail)) limit) (number_at w (bytes ++ tail))
          (lt-leb (from_be_bytes w (bytes ++ tail)) limit (omega (arith, least.rises bytes tail, leb-false _ _ high)));
      part = λ bytes are e.
          let g = guard_part (nat_le (from_be_bytes w bytes) limit) (number_at w bytes) e in
          let short : length bytes < byte_len w = ltb-true _ _ (is_short (ltb (length bytes) (byte_len w)) (from_be_bytes w (take (byte_len w) bytes)) (drop (byte_len w) bytes) g.1) in
          let zeros = replicate (byte_len w - length bytes) 0 in
          let long : length (bytes ++ zeros) ≡ byte_len w = omega (arith, length-append bytes zeros, length-replicate {A = ℕ} (byte_len w - length bytes) 0) in
          let are_all : AreBytes (bytes ++ zeros) = All-append _ bytes zeros are (zeros_are_bytes (byte_len w - length bytes)) in
          let n = from_be_bytes w bytes in
          let le : n ≤ limit = leb-true _ _ g.0 in
          let is : from_be_bytes w (bytes ++ zeros) ≡ n = least.zeros bytes (byte_len w - length bytes) in
          record { value = n; more = zeros; fits_value = (le, omega (arith, le, below)); parts = ap (to_be_bytes w) (sym is) ∙ wide.back (bytes ++ zeros) long are_all };
    }

pub u16_up_to-reads : (limit : ℕ) → limit < 2 ^ 16 → Reads (number_up_to w16 limit) (to_be_bytes w16) (λ n. (n ≤ limit) × (n < 2 ^ 16))
u16_up_to-reads limit below = number_up_to-reads w16 (2 ^ 16) limit wide16 least16 below

pub u32_up_to-reads : (limit : ℕ) → limit < 2 ^ 32 → Reads (number_up_to w32 limit) (to_be_bytes w32) (λ n. (n ≤ limit) × (n < 2 ^ 32))
u32_up_to-reads limit below = number_up_to-reads w32 (2 ^ 32) limit wide32 least32 below
