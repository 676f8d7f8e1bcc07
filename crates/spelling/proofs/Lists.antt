-- Lists of bytes, and lists of values spelled one after the other.
use Rattle.std.proofs.Common.{◌≡◌, ℕ, zero, suc, ◌-◌, ◌^◌, ◌<◌, List, [], ◌∷◌, ◌++◌, length, get_or, take, drop, sym, ap, ◌∙◌, append_assoc, arith, Fits, w8}
use Rattle.std.proofs.lemmas.List.{append-nil, take_at, take-append-drop, length-append}
use Rattle.std.specs.List.{AllByRecursion}
use Rattle.spelling.specs.Form.{AreBytes}

-- ---- each of a list

pub All-append : {X : Type 0} (P : X → Type 0) (xs ys : List X) → AllByRecursion P xs → AllByRecursion P ys → AllByRecursion P (xs ++ ys)
All-append P [] ys px py = py
All-append P (x ∷ xs) ys px py = (px.0, All-append P xs ys px.1 py)

pub All-left : {X : Type 0} (P : X → Type 0) (xs ys : List X) → AllByRecursion P (xs ++ ys) → AllByRecursion P xs
All-left P [] ys p = tt
All-left P (x ∷ xs) ys p = (p.0, All-left P xs ys p.1)

pub All-right : {X : Type 0} (P : X → Type 0) (xs ys : List X) → AllByRecursion P (xs ++ ys) → AllByRecursion P ys
All-right P [] ys p = p
All-right P (x ∷ xs) ys p = All-right P xs ys p.1

pub All-take : {X : Type 0} (P : X → Type 0) (n : ℕ) (xs : List X) → AllByRecursion P xs → AllByRecursion P (take n xs)
All-take P n xs p = All-left P (take n xs) (drop n xs) (rw take-append-drop p)

pub All-drop : {X : Type 0} (P : X → Type 0) (n : ℕ) (xs : List X) → AllByRecursion P xs → AllByRecursion P (drop n xs)
All-drop P n xs p = All-right P (take n xs) (drop n xs) (rw take-append-drop p)

below_bytes : (bytes : List ℕ) → ((i : ℕ) → get_or bytes i 0 < 2 ^ 8) → AreBytes bytes
below_bytes [] h = tt
below_bytes (b ∷ bytes) h = (h 0, below_bytes bytes (λ i. h (suc i)))

-- from what a slice's or a vector's type says, as `c.type_inv.bytes`
pub are_bytes : (bytes : List ℕ) → ((i : ℕ) → Fits w8 (get_or bytes i 0)) → AreBytes bytes
are_bytes bytes h = below_bytes bytes (λ i. omega (arith, h i))

pub byte_below : (bytes : List ℕ) (i : ℕ) → AreBytes bytes → get_or bytes i 0 < 2 ^ 8
byte_below [] i are = omega arith
byte_below (b ∷ bytes) zero are = are.0
byte_below (b ∷ bytes) (suc i) are = byte_below bytes i are.1

-- ---- regrouping, from the fields as they are read to the fields as they are written

pub group_1 : (a : List ℕ) → a ++ [] ≡ a
group_1 a = append-nil a

pub group_2 : (a b : List ℕ) → a ++ (b ++ []) ≡ a ++ b
group_2 a b = sym (append_assoc a b []) ∙ group_1 (a ++ b)

pub group_3 : (a b c : List ℕ) → a ++ (b ++ (c ++ [])) ≡ a ++ b ++ c
group_3 a b c = sym (append_assoc a b (c ++ [])) ∙ group_2 (a ++ b) c

pub group_4 : (a b c d : List ℕ) → a ++ (b ++ (c ++ (d ++ []))) ≡ a ++ b ++ c ++ d
group_4 a b c d = sym (append_assoc a b (c ++ (d ++ []))) ∙ group_3 (a ++ b) c d

pub group_5 : (a b c d e : List ℕ) → a ++ (b ++ (c ++ (d ++ (e ++ [])))) ≡ a ++ b ++ c ++ d ++ e
group_5 a b c d e = sym (append_assoc a b (c ++ (d ++ (e ++ [])))) ∙ group_4 (a ++ b) c d e

pub group_6 : (a b c d e f : List ℕ) → a ++ (b ++ (c ++ (d ++ (e ++ (f ++ []))))) ≡ a ++ b ++ c ++ d ++ e ++ f
group_6 a b c d e f = sym (append_assoc a b (c ++ (d ++ (e ++ (f ++ []))))) ∙ group_5 (a ++ b) c d e f

pub group_7 : (a b c d e f g : List ℕ) → a ++ (b ++ (c ++ (d ++ (e ++ (f ++ (g ++ [])))))) ≡ a ++ b ++ c ++ d ++ e ++ f ++ g
group_7 a b c d e f g = sym (append_assoc a b (c ++ (d ++ (e ++ (f ++ (g ++ [])))))) ∙ group_6 (a ++ b) c d e f g

pub group_8 : (a b c d e f g h : List ℕ) → a ++ (b ++ (c ++ (d ++ (e ++ (f ++ (g ++ (h ++ []))))))) ≡ a ++ b ++ c ++ d ++ e ++ f ++ g ++ h
group_8 a b c d e f g h = sym (append_assoc a b (c ++ (d ++ (e ++ (f ++ (g ++ (h ++ []))))))) ∙ group_7 (a ++ b) c d e f g h

pub group_9 : (a b c d e f g h i : List ℕ) → a ++ (b ++ (c ++ (d ++ (e ++ (f ++ (g ++ (h ++ (i ++ [])))))))) ≡ a ++ b ++ c ++ d ++ e ++ f ++ g ++ h ++ i
group_9 a b c d e f g h i = sym (append_assoc a b (c ++ (d ++ (e ++ (f ++ (g ++ (h ++ (i ++ [])))))))) ∙ group_8 (a ++ b) c d e f g h i

pub group_10 : (a b c d e f g h i j : List ℕ) → a ++ (b ++ (c ++ (d ++ (e ++ (f ++ (g ++ (h ++ (i ++ (j ++ []))))))))) ≡ a ++ b ++ c ++ d ++ e ++ f ++ g ++ h ++ i ++ j
group_10 a b c d e f g h i j = sym (append_assoc a b (c ++ (d ++ (e ++ (f ++ (g ++ (h ++ (i ++ (j ++ []))))))))) ∙ group_9 (a ++ b) c d e f g h i j

-- ---- a text in front of others

-- so many bytes as the text in front has
pub take_front : (bytes text rest : List ℕ) → bytes ≡ text ++ rest → take (length bytes - length rest) bytes ≡ text
take_front bytes text rest e =
    let n : length text ≡ length bytes - length rest = omega (arith, ap length e, length-append text rest) in
    ap (λ (l : List ℕ). take (length bytes - length rest) l) e ∙ take_at text rest (length bytes - length rest) n
