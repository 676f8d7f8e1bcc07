-- The parts of lists that are joined of several, where the lengths of the parts are known: a public key has four,
-- a key file five and a signature six.
use Rattle.std.proofs.Common.{◌≡◌, ℕ, ◌+◌, List, [], ◌++◌, length, take, drop, refl, arith, append_assoc, length-append}
use Rattle.std.proofs.lemmas.List.{append-nil, take_at, drop_at}
use Rattle.lms_core.specs.Bytes.{field}

-- the middle of three lists
pub field_of : (x y z s : List ℕ) (n m : ℕ) → length x ≡ n → length y ≡ m → s ≡ x ++ (y ++ z) → take m (drop n s) ≡ y
field_of x y z s n m hx hy hs = rw (hs, drop_at x (y ++ z) n hx) (take_at y z m hy)

pub len_two : (x y : List ℕ) (n m k : ℕ) → length x ≡ n → length y ≡ m → n + m ≡ k → length (x ++ y) ≡ k
len_two x y n m k hx hy hk = omega (arith, length-append x y)

-- the parts of a list that is joined of four
pub record Four (a b c d s : List ℕ) : Type 0 where
  pub first : take 4 s ≡ a
  pub second : field 4 4 s ≡ b
  pub third : field 8 16 s ≡ c
  pub last : field 24 32 s ≡ d

pub four : (a b c d : List ℕ) → length a ≡ 4 → length b ≡ 4 → length c ≡ 16 → length d ≡ 32 → Four a b c d (((a ++ b) ++ c) ++ d)
four a b c d ha hb hc hd =
    let s = ((a ++ b) ++ c) ++ d in
    let ab : length (a ++ b) ≡ 8 = len_two a b 4 4 8 ha hb refl in
    let abc : length ((a ++ b) ++ c) ≡ 24 = len_two (a ++ b) c 8 16 24 ab hc refl in
    let e1 : s ≡ a ++ (b ++ (c ++ d)) = simp append_assoc in
    let e2 : s ≡ (a ++ b) ++ (c ++ d) = simp append_assoc in
    let e3 : s ≡ ((a ++ b) ++ c) ++ (d ++ []) = simp append-nil in
    record {
      first = rw e1 (take_at a (b ++ (c ++ d)) 4 ha);
      second = field_of a b (c ++ d) s 4 4 ha hb e1;
      third = field_of (a ++ b) c d s 8 16 ab hc e2;
      last = field_of ((a ++ b) ++ c) d [] s 24 32 abc hd e3;
    }

-- the parts of a list that is joined of five
pub record Five (a b c d e s : List ℕ) : Type 0 where
  pub first : take 4 s ≡ a
  pub second : field 4 1 s ≡ b
  pub third : field 5 16 s ≡ c
  pub fourth : field 21 32 s ≡ d
  pub last : field 53 4 s ≡ e
  pub len : length s ≡ 57

pub five : (a b c d e : List ℕ) → length a ≡ 4 → length b ≡ 1 → length c ≡ 16 → length d ≡ 32 → length e ≡ 4 → Five a b c d e ((((a ++ b) ++ c) ++ d) ++ e)
five a b c d e ha hb hc hd he =
    let s = (((a ++ b) ++ c) ++ d) ++ e in
    let ab : length (a ++ b) ≡ 5 = len_two a b 4 1 5 ha hb refl in
    let abc : length ((a ++ b) ++ c) ≡ 21 = len_two (a ++ b) c 5 16 21 ab hc refl in
    let abcd : length (((a ++ b) ++ c) ++ d) ≡ 53 = len_two ((a ++ b) ++ c) d 21 32 53 abc hd refl in
    let e1 : s ≡ a ++ (b ++ (c ++ (d ++ e))) = simp append_assoc in
    let e2 : s ≡ (a ++ b) ++ (c ++ (d ++ e)) = simp append_assoc in
    let e3 : s ≡ ((a ++ b) ++ c) ++ (d ++ e) = simp append_assoc in
    let e4 : s ≡ (((a ++ b) ++ c) ++ d) ++ (e ++ []) = simp append-nil in
    record {
      first = rw e1 (take_at a (b ++ (c ++ (d ++ e))) 4 ha);
      second = field_of a b (c ++ (d ++ e)) s 4 1 ha hb e1;
      third = field_of (a ++ b) c (d ++ e) s 5 16 ab hc e2;
      fourth = field_of ((a ++ b) ++ c) d e s 21 32 abc hd e3;
      last = field_of (((a ++ b) ++ c) ++ d) e [] s 53 4 abcd he e4;
      len = omega (arith, length-append (((a ++ b) ++ c) ++ d) e);
    }

-- the parts of a list that is joined of six
pub record Six (a b c v t p s : List ℕ) : Type 0 where
  pub first : take 4 s ≡ a
  pub second : field 4 4 s ≡ b
  pub third : field 8 32 s ≡ c
  pub fourth : field 40 1088 s ≡ v
  pub fifth : field 1128 4 s ≡ t
  pub last : drop 1132 s ≡ p
  pub len : length s ≡ 1132 + length p

pub six : (a b c v t p : List ℕ) → length a ≡ 4 → length b ≡ 4 → length c ≡ 32 → length v ≡ 1088 → length t ≡ 4 → Six a b c v t p (((((a ++ b) ++ c) ++ v) ++ t) ++ p)
six a b c v t p ha hb hc hv ht =
    let s = ((((a ++ b) ++ c) ++ v) ++ t) ++ p in
    let ab : length (a ++ b) ≡ 8 = len_two a b 4 4 8 ha hb refl in
    let abc : length ((a ++ b) ++ c) ≡ 40 = len_two (a ++ b) c 8 32 40 ab hc refl in
    let abcv : length (((a ++ b) ++ c) ++ v) ≡ 1128 = len_two ((a ++ b) ++ c) v 40 1088 1128 abc hv refl in
    let abcvt : length ((((a ++ b) ++ c) ++ v) ++ t) ≡ 1132 = len_two (((a ++ b) ++ c) ++ v) t 1128 4 1132 abcv ht refl in
    let e0 : s ≡ a ++ (b ++ (c ++ (v ++ (t ++ p)))) = simp append_assoc in
    let e1 : s ≡ a ++ (b ++ (c ++ (v ++ (t ++ p)))) = simp append_assoc in
    let e2 : s ≡ (a ++ b) ++ (c ++ (v ++ (t ++ p))) = simp append_assoc in
    let e3 : s ≡ ((a ++ b) ++ c) ++ (v ++ (t ++ p)) = simp append_assoc in
    let e4 : s ≡ (((a ++ b) ++ c) ++ v) ++ (t ++ p) = simp append_assoc in
    record {
      first = rw e0 (take_at a (b ++ (c ++ (v ++ (t ++ p)))) 4 ha);
      second = field_of a b (c ++ (v ++ (t ++ p))) s 4 4 ha hb e1;
      third = field_of (a ++ b) c (v ++ (t ++ p)) s 8 32 ab hc e2;
      fourth = field_of ((a ++ b) ++ c) v (t ++ p) s 40 1088 abc hv e3;
      fifth = field_of (((a ++ b) ++ c) ++ v) t p s 1128 4 abcv ht e4;
      last = drop_at ((((a ++ b) ++ c) ++ v) ++ t) p 1132 abcvt;
      len = omega (arith, length-append ((((a ++ b) ++ c) ++ v) ++ t) p);
    }
