-- The least greater component, and the least greater key.
use Rattle.std.proofs.Common.{◌≡◌, ℕ, zero, suc, ◌+◌, ◌-◌, ◌<◌, ◌≤◌, ◌^◌, Bool, true, false, List, [], ◌∷◌, ◌++◌, length, Option, Some, None, nat_lt, nat_le, nat_cmp, if◌then◌else◌, refl, sym, ap, subst, ◌∙◌, ltb-true, ltb-false, leb-true, leb-false, arith, replicate, slice_index, set, take, drop, get_or, IsNone, MatchOption, append_assoc, add-one, lit≤}
use Rattle.std.specs.Option.{option_map, option_or}
use Rattle.std.specs.Ordering.{is_gt, ordering_then, MatchOrdering}
use Rattle.std.specs.declared.cmp.Ordering.{Ordering}
use Rattle.std.specs.declared.cmp.Ordering.TheVariants.{Less, Equal, Greater}
use Rattle.std.proofs.lemmas.Bool.Decides.{nat_tests}
use Rattle.std.proofs.lemmas.Cmp.{ranked}
use Rattle.std.proofs.lemmas.List.{length_push, length-replicate, replicate_more, drop-replicate, set_at, take_all, take_more, length-take}
use Rattle.std.proofs.lemmas.Bool.{le-leb}
use Rattle.spelling.specs.Form.{AreBytes}
use Rattle.spelling.specs.Spelling.{IsText, AreSoManyBytes}
use Rattle.spelling.proofs.Lists.{All-append}
use Rattle.willow_path.specs.Key.{IsKey}
use Rattle.willow_path.specs.Path.{part_cmp}
use Rattle.willow_path.specs.Successor.{next_bytes, if_key, key_after, raised, part_after, IsAfterKey}
use Rattle.willow_path.proofs.PathOrder.{part_cmp_equal}

-- ---- heads

-- a string is below another where its first byte is, or where these are equal and the rest is below
pub data HeadsBelow (b e : ℕ) (r : Ordering) : Type 0 where
  Lower : b < e → HeadsBelow b e r
  Tied : b ≡ e → r ≡ Less → HeadsBelow b e r

nat_cmp-less : (b e : ℕ) → b < e → nat_cmp b e ≡ Less
nat_cmp-less b e h = grind (arith, nat_tests, h)

nat_cmp-itself : (b : ℕ) → nat_cmp b b ≡ Equal
nat_cmp-itself b = grind (arith, nat_tests)

heads_from : (b e : ℕ) (o r : Ordering) → MatchOrdering o (b < e) (b ≡ e) (e < b) → ordering_then o r ≡ Less → HeadsBelow b e r
heads_from b e Less r m h = Lower m
heads_from b e Equal r m h = Tied m h
heads_from b e Greater r m h = absurd cc

heads_below : (b e : ℕ) (r : Ordering) → ordering_then (nat_cmp b e) r ≡ Less → HeadsBelow b e r
heads_below b e r h = heads_from b e (nat_cmp b e) r (ranked b e (nat_cmp b e) refl) h

-- behind the same head
behind_head : (b e : ℕ) (r s : Ordering) → HeadsBelow b e r → (r ≡ Less → is_gt s ≡ false) → is_gt (ordering_then (nat_cmp b e) s) ≡ false
behind_head b e r s (Lower l) f = rw (nat_cmp-less b e l) refl
behind_head b e r s (Tied q t) f = rw (q, nat_cmp-itself e) (f t)

heads_up_to : (x y : ℕ) (o s : Ordering) → MatchOrdering o (x < y) (x ≡ y) (y < x) → x ≤ y → is_gt s ≡ false → is_gt (ordering_then o s) ≡ false
heads_up_to x y Less s m le h = refl
heads_up_to x y Equal s m le h = h
heads_up_to x y Greater s m le h = absurd (omega (arith, m, le))

-- behind a head that is at most the other
up_to_head : (x y : ℕ) (s : Ordering) → x ≤ y → is_gt s ≡ false → is_gt (ordering_then (nat_cmp x y) s) ≡ false
up_to_head x y s le h = heads_up_to x y (nat_cmp x y) s (ranked x y (nat_cmp x y) refl) le h

nothing_first : (e : List ℕ) → is_gt (part_cmp [] e) ≡ false
nothing_first [] = refl
nothing_first (y ∷ e) = refl

zeros_first : (n : ℕ) (e : List ℕ) → length e ≡ n → is_gt (part_cmp (replicate n 0) e) ≡ false
zeros_first zero e h = nothing_first e
zeros_first (suc n) [] h = absurd (omega (arith, h))
zeros_first (suc n) (y ∷ e) h = up_to_head 0 y _ (omega arith) (zeros_first n e (omega (arith, h)))

-- ---- the least of those that are allowed

pub record IsNext (Allowed : List ℕ → Type 0) (bytes next : List ℕ) : Type 0 where
  pub allowed : Allowed next
  pub above : part_cmp bytes next ≡ Less
  pub least : (e : List ℕ) → Allowed e → part_cmp bytes e ≡ Less → is_gt (part_cmp next e) ≡ false

abbrev pub Nexts : (List ℕ → Type 0) → List ℕ → Option (List ℕ) → Type 0
Nexts Allowed bytes None = (e : List ℕ) → Allowed e → part_cmp bytes e ≡ Less → ⊥
Nexts Allowed bytes (Some next) = IsNext Allowed bytes next

-- what is allowed behind a byte, and what is filled in where the byte is raised
record Filled (Allowed Behind : List ℕ → Type 0) (fill : List ℕ) : Type 0 where
  down : (y : ℕ) (e : List ℕ) → Allowed (y ∷ e) → (y < 2 ^ 8) × Behind e
  up : (y : ℕ) (e : List ℕ) → y < 2 ^ 8 → Behind e → Allowed (y ∷ e)
  filled : Behind fill
  first : (e : List ℕ) → Behind e → is_gt (part_cmp fill e) ≡ false

module _ (Allowed Behind : List ℕ → Type 0) (fill : List ℕ) (f : Filled Allowed Behind fill) where
  same_least : (b : ℕ) (bytes next : List ℕ) → IsNext Behind bytes next → (e : List ℕ) → Allowed e → part_cmp (b ∷ bytes) e ≡ Less → is_gt (part_cmp (b ∷ next) e) ≡ false
  same_least b bytes next n [] a h = absurd cc
  same_least b bytes next n (y ∷ e) a h = behind_head b y (part_cmp bytes e) (part_cmp next e) (heads_below b y (part_cmp bytes e) h) (λ t. n.least e (f.down y e a).1 t)

  raised_from : (b y : ℕ) (bytes e : List ℕ) → HeadsBelow b y (part_cmp bytes e) → ((part_cmp bytes e ≡ Less) → ⊥) → is_gt (part_cmp fill e) ≡ false → is_gt (part_cmp ((b + 1) ∷ fill) (y ∷ e)) ≡ false
  raised_from b y bytes e (Lower l) none first = up_to_head (b + 1) y (part_cmp fill e) (omega (arith, l)) first
  raised_from b y bytes e (Tied q t) none first = absurd (none t)

  raised_least : (b : ℕ) (bytes : List ℕ) → Nexts Behind bytes None → (e : List ℕ) → Allowed e → part_cmp (b ∷ bytes) e ≡ Less → is_gt (part_cmp ((b + 1) ∷ fill) e) ≡ false
  raised_least b bytes none [] a h = absurd cc
  raised_least b bytes none (y ∷ e) a h =
      let d = f.down y e a in raised_from b y bytes e (heads_below b y (part_cmp bytes e) h) (none e d.1) (f.first e d.1)

  full_from : (b y : ℕ) (bytes e : List ℕ) → nat_lt b 255 ≡ false → y < 2 ^ 8 → HeadsBelow b y (part_cmp bytes e) → ((part_cmp bytes e ≡ Less) → ⊥) → ⊥
  full_from b y bytes e t lt (Lower l) none = omega (arith, l, lt, ltb-false b 255 t)
  full_from b y bytes e t lt (Tied q r) none = none r

  full_least : (b : ℕ) (bytes : List ℕ) → nat_lt b 255 ≡ false → Nexts Behind bytes None → Nexts Allowed (b ∷ bytes) None
  full_least b bytes t none [] a h = absurd cc
  full_least b bytes t none (y ∷ e) a h =
      let d = f.down y e a in full_from b y bytes e t d.0 (heads_below b y (part_cmp bytes e) h) (none e d.1)

  next_step : (b : ℕ) (bytes : List ℕ) (o : Option (List ℕ)) (t : Bool) → b < 2 ^ 8 → nat_lt b 255 ≡ t → Nexts Behind bytes o
      → Nexts Allowed (b ∷ bytes) (option_or (option_map (λ next. b ∷ next) o) (if t then Some ((b + 1) ∷ fill) else None))
  next_step b bytes (Some next) t lt is n =
      record { allowed = f.up b next lt n.allowed; above = rw (nat_cmp-itself b) n.above; least = same_least b bytes next n }
  next_step b bytes None true lt is n =
      record { allowed = f.up (b + 1) fill (omega (arith, ltb-true b 255 is)) f.filled; above = rw (nat_cmp-less b (b + 1) (omega arith)) refl; least = raised_least b bytes n }
  next_step b bytes None false lt is n = full_least b bytes is n

-- ---- components

text_filled : (n : ℕ) → Filled (IsText (suc n)) (IsText n) []
text_filled n = record {
  down = λ y e a. (a.1.0, (omega (arith, a.0), a.1.1));
  up = λ y e lt a. (omega (arith, a.0), (lt, a.1));
  filled = (omega arith, tt);
  first = λ e a. nothing_first e;
}

nothing_above : (e : List ℕ) → length e ≤ 0 → part_cmp [] e ≡ Less → ⊥
nothing_above [] le h = cc
nothing_above (y ∷ e) le h = omega (arith, le)

pub raised-next : (bytes : List ℕ) → AreBytes bytes → Nexts (IsText (length bytes)) bytes (raised bytes)
unfolding raised
raised-next [] are = λ e a h. nothing_above e a.0 h
raised-next (b ∷ bytes) are =
    next_step (IsText (suc (length bytes))) (IsText (length bytes)) [] (text_filled (length bytes)) b bytes (raised bytes) (nat_lt b 255) are.0 refl (raised-next bytes are.1)

added_above : (part : List ℕ) → part_cmp part (part ++ 0 ∷ []) ≡ Less
added_above [] = refl
added_above (b ∷ part) = rw (nat_cmp-itself b) (added_above part)

added_least : (part e : List ℕ) → part_cmp part e ≡ Less → is_gt (part_cmp (part ++ 0 ∷ []) e) ≡ false
added_least [] [] h = absurd cc
added_least [] (y ∷ e) h = up_to_head 0 y (part_cmp [] e) (omega arith) (nothing_first e)
added_least (b ∷ part) [] h = absurd cc
added_least (b ∷ part) (y ∷ e) h = behind_head b y (part_cmp part e) _ (heads_below b y (part_cmp part e) h) (λ t. added_least part e t)

added_next : (limit : ℕ) (part : List ℕ) → IsText limit part → length part < limit → IsNext (IsText limit) part (part ++ 0 ∷ [])
added_next limit part is lt = record {
  allowed = (omega (arith, length_push part 0), All-append _ part (0 ∷ []) is.1 (omega arith, tt));
  above = added_above part;
  least = λ e a h. added_least part e h;
}

part_next : (limit : ℕ) (part : List ℕ) (t : Bool) → IsText limit part → nat_lt (length part) limit ≡ t → Nexts (IsText limit) part (if t then Some (part ++ 0 ∷ []) else raised part)
part_next limit part true is e = added_next limit part is (ltb-true _ _ e)
part_next limit part false is e =
    let same : length part ≡ limit = omega (arith, is.0, ltb-false _ _ e) in
    subst (λ (n : ℕ). Nexts (IsText n) part (raised part)) same (raised-next part is.1)

pub part_after-next : (limit : ℕ) (part : List ℕ) → IsText limit part → Nexts (IsText limit) part (part_after limit part)
unfolding part_after
part_after-next limit part is = part_next limit part (nat_lt (length part) limit) is refl

-- ---- keys

zeros_are : (n : ℕ) → AreBytes (replicate n 0)
zeros_are zero = tt
zeros_are (suc n) = (omega arith, zeros_are n)

bytes_filled : (n : ℕ) → Filled (AreSoManyBytes (suc n)) (AreSoManyBytes n) (replicate n 0)
bytes_filled n = record {
  down = λ y e a. (a.1.0, (omega (arith, a.0), a.1.1));
  up = λ y e lt a. (omega (arith, a.0), (lt, a.1));
  filled = (length-replicate n 0, zeros_are n);
  first = λ e a. zeros_first n e a.0;
}

pub next_bytes-next : (bytes : List ℕ) → AreBytes bytes → Nexts (AreSoManyBytes (length bytes)) bytes (next_bytes bytes)
unfolding next_bytes
next_bytes-next [] are = λ e a h. nothing_above e (omega (arith, a.0)) h
next_bytes-next (b ∷ bytes) are =
    next_step (AreSoManyBytes (suc (length bytes))) (AreSoManyBytes (length bytes)) (replicate (length bytes) 0) (bytes_filled (length bytes)) b bytes (next_bytes bytes) (nat_lt b 255) are.0 refl (next_bytes-next bytes are.1)

kinds_apart : (x y : List ℕ) → 1 < slice_index x 0 → slice_index y 0 ≤ 1 → is_gt (part_cmp x y) ≡ false → ⊥
kinds_apart [] y lt le h = omega (arith, lt)
kinds_apart (a ∷ x) [] lt le h = cc
kinds_apart (a ∷ x) (b ∷ y) lt le h =
    let g : nat_cmp a b ≡ Greater = grind (arith, nat_tests, lt, le) in
    let k : is_gt (ordering_then Greater (part_cmp x y)) ≡ false = rw g at h in cc

key_next : (key next : List ℕ) (t : Bool) → nat_le (slice_index next 0) 1 ≡ t → IsNext (AreSoManyBytes 33) key next → IsAfterKey key (if t then Some next else None)
key_next key next true e n = record {
  whole = record { whole = n.allowed.0; kind = leb-true _ _ e; bytes_fit = n.allowed.1 };
  above = n.above;
  least = λ other is h. n.least other (is.whole, is.bytes_fit) h;
}
key_next key next false e n = λ other is h. kinds_apart next other (leb-false _ _ e) is.kind (n.least other (is.whole, is.bytes_fit) h)

after_key_from : (key : List ℕ) (o : Option (List ℕ)) → Nexts (AreSoManyBytes 33) key o → IsAfterKey key (if_key o)
after_key_from key None n = λ other is h. n other (is.whole, is.bytes_fit) h
after_key_from key (Some next) n = key_next key next (nat_le (slice_index next 0) 1) refl n

pub key_after_is : (key : List ℕ) → IsKey key → IsAfterKey key (key_after key)
key_after_is key is = after_key_from key (next_bytes key) (subst (λ (n : ℕ). Nexts (AreSoManyBytes n) key (next_bytes key)) is.whole (next_bytes-next key is.bytes_fit))

top_last : (n : ℕ) (e : List ℕ) → AreSoManyBytes n e → is_gt (part_cmp e (replicate n 255)) ≡ false
top_last zero [] a = refl
top_last zero (y ∷ e) a = absurd (omega (arith, a.0))
top_last (suc n) [] a = refl
top_last (suc n) (y ∷ e) a = up_to_head y 255 _ (omega (arith, a.1.0)) (top_last n e (omega (arith, a.0), a.1.1))

key_up_to_last : (key : List ℕ) → IsKey key → is_gt (part_cmp key (1 ∷ replicate 32 255)) ≡ false
key_up_to_last [] is = refl
key_up_to_last (kind ∷ body) is = up_to_head kind 1 _ is.kind (top_last 32 body (omega (arith, is.whole), is.bytes_fit.1))

tops_are : (n : ℕ) → AreBytes (replicate n 255)
tops_are zero = tt
tops_are (suc n) = (omega arith, tops_are n)

last_is_key : IsKey (1 ∷ replicate 32 255)
last_is_key = record { whole = refl; kind = lit≤ tt; bytes_fit = (omega arith, tops_are 32) }

less_or_last : (key : List ℕ) (o : Ordering) → part_cmp key (1 ∷ replicate 32 255) ≡ o → is_gt o ≡ false → (part_cmp key (1 ∷ replicate 32 255) ≡ Less → ⊥) → key ≡ 1 ∷ replicate 32 255
less_or_last key Less e h f = absurd (f e)
less_or_last key Equal e h f = (part_cmp_equal key (1 ∷ replicate 32 255)).0 e
less_or_last key Greater e h f = absurd cc

none_at_last : (key : List ℕ) (o : Option (List ℕ)) → IsKey key → IsAfterKey key o → IsNone o → key ≡ 1 ∷ replicate 32 255
none_at_last key None is a h = less_or_last key (part_cmp key (1 ∷ replicate 32 255)) refl (key_up_to_last key is) (a (1 ∷ replicate 32 255) last_is_key)
none_at_last key (Some next) is a h = absurd cc

last_has_none : IsNone (key_after (1 ∷ replicate 32 255))
unfolding next_bytes
last_has_none = refl

-- just the last key has no greater one
pub key_after_last : (key : List ℕ) → IsKey key → (IsNone (key_after key) → key ≡ 1 ∷ replicate 32 255) × (key ≡ 1 ∷ replicate 32 255 → IsNone (key_after key))
key_after_last key is = (λ h. none_at_last key (key_after key) is (key_after_is key is) h, λ e. subst (λ (k : List ℕ). IsNone (key_after k)) (sym e) last_has_none)

-- ---- by the last byte

raised_cases : (c : ℕ) (front : List ℕ) (b : ℕ) (t : Bool) (o z : Option (List ℕ))
    → option_or (option_map (λ next. c ∷ next) (if t then Some (front ++ (b + 1) ∷ []) else o)) z
    ≡ (if t then Some (c ∷ (front ++ (b + 1) ∷ [])) else option_or (option_map (λ next. c ∷ next) o) z)
raised_cases c front b true o z = refl
raised_cases c front b false o z = refl

next_cases : (c : ℕ) (front : List ℕ) (b : ℕ) (t u : Bool) (o : Option (List ℕ)) (zeros : List ℕ)
    → option_or (option_map (λ next. c ∷ next) (if t then Some (front ++ (b + 1) ∷ []) else option_map (λ next. next ++ 0 ∷ []) o)) (if u then Some ((c + 1) ∷ (zeros ++ 0 ∷ [])) else None)
    ≡ (if t then Some (c ∷ (front ++ (b + 1) ∷ [])) else option_map (λ next. next ++ 0 ∷ []) (option_or (option_map (λ next. c ∷ next) o) (if u then Some ((c + 1) ∷ zeros) else None)))
next_cases c front b true u o zeros = refl
next_cases c front b false u (Some next) zeros = refl
next_cases c front b false true None zeros = refl
next_cases c front b false false None zeros = refl

pub raised-last : (front : List ℕ) (b : ℕ) → raised (front ++ b ∷ []) ≡ (if nat_lt b 255 then Some (front ++ (b + 1) ∷ []) else raised front)
unfolding raised
raised-last [] b = refl
raised-last (c ∷ front) b = rw (raised-last front b) (raised_cases c front b (nat_lt b 255) (raised front) _)

pub next_bytes-last : (front : List ℕ) (b : ℕ) → next_bytes (front ++ b ∷ []) ≡ (if nat_lt b 255 then Some (front ++ (b + 1) ∷ []) else option_map (λ next. next ++ 0 ∷ []) (next_bytes front))
unfolding next_bytes
next_bytes-last [] b = refl
next_bytes-last (c ∷ front) b =
    rw (next_bytes-last front b, length_push front b, ← replicate_more {X = ℕ} (length front) 0) (next_cases c front b (nat_lt b 255) (nat_lt c 255) (next_bytes front) (replicate (length front) 0))

-- zeros behind what was found
pub zeros_behind : (n : ℕ) (o : Option (List ℕ)) → option_map (λ next. next ++ replicate n 0) (option_map (λ next. next ++ 0 ∷ []) o) ≡ option_map (λ next. next ++ replicate (n + 1) 0) o
zeros_behind n None = refl
zeros_behind n (Some next) = ap (λ (l : List ℕ). Some l) (append_assoc next (0 ∷ []) (replicate n 0) ∙ ap (λ (k : ℕ). next ++ replicate k 0) (sym (add-one n)))

pub filled_is : (n : ℕ) (front : List ℕ) (last : ℕ) → length front ≤ n → set (front ++ drop (length front) (replicate (suc n) 0)) (length front) last ≡ front ++ last ∷ replicate (n - length front) 0
filled_is n front last le =
    let k : suc n - length front ≡ suc (n - length front) = omega arith in
    rw (drop-replicate {X = ℕ} (length front) (suc n) 0, k) (set_at front 0 (replicate (n - length front) 0) last (length front) refl)

-- what a test for a key answers
pub if_key-is : (r : Option (List ℕ)) (bytes : List ℕ) → MatchOption r (1 < slice_index bytes 0) (λ key. (key ≡ bytes) × IsKey bytes) → r ≡ if_key (Some bytes)
if_key-is None bytes h = let t : nat_le (slice_index bytes 0) 1 ≡ false = grind (arith, nat_tests, h) in rw t refl
if_key-is (Some key) bytes h = rw (le-leb (slice_index bytes 0) 1 h.1.kind) (ap (λ (l : List ℕ). Some l) h.0)

split_last : (xs : List ℕ) → 0 < length xs → xs ≡ take (length xs - 1) xs ++ get_or xs (length xs - 1) 0 ∷ []
split_last xs some =
    let n : length xs - 1 + 1 ≡ length xs = omega arith in
    sym (take_all (length xs) xs (omega arith)) ∙ ap (λ (k : ℕ). take k xs) (sym n) ∙ take_more xs (length xs - 1) 0 (omega arith)

is_below : (a b : ℕ) → a < b → nat_lt a b ≡ true
is_below a b lt = grind (arith, nat_tests, lt)

not_below : (a b : ℕ) → b ≤ a → nat_lt a b ≡ false
not_below a b le = grind (arith, nat_tests, le)

pub raised_here : (xs : List ℕ) → 0 < length xs → get_or xs (length xs - 1) 0 < 255 → raised xs ≡ Some (take (length xs - 1) xs ++ (get_or xs (length xs - 1) 0 + 1) ∷ [])
raised_here xs some lt = ap raised (split_last xs some) ∙ raised-last (take (length xs - 1) xs) (get_or xs (length xs - 1) 0) ∙ rw (is_below _ 255 lt) refl

pub raised_before : (xs : List ℕ) → 0 < length xs → 255 ≤ get_or xs (length xs - 1) 0 → raised xs ≡ raised (take (length xs - 1) xs)
raised_before xs some le = ap raised (split_last xs some) ∙ raised-last (take (length xs - 1) xs) (get_or xs (length xs - 1) 0) ∙ rw (not_below _ 255 le) refl

-- what is found from the front of a key, with zeros behind it
pub key_here : (key xs : List ℕ) (r : Option (List ℕ)) (bytes : List ℕ) → 0 < length xs → length xs ≤ 33 → get_or xs (length xs - 1) 0 < 255
    → next_bytes key ≡ option_map (λ next. next ++ replicate (33 - length xs) 0) (next_bytes xs)
    → bytes ≡ take (length xs - 1) xs ++ (get_or xs (length xs - 1) 0 + 1) ∷ replicate (32 - length (take (length xs - 1) xs)) 0
    → MatchOption r (1 < slice_index bytes 0) (λ k. (k ≡ bytes) × IsKey bytes) → r ≡ key_after key
key_here key xs r bytes some short lt so_far is m =
    let front = take (length xs - 1) xs in
    let b : ℕ = get_or xs (length xs - 1) 0 in
    let n : 32 - length (take (length xs - 1) xs) ≡ 33 - length xs = omega (arith, length-take (length xs - 1) xs) in
    let here : next_bytes xs ≡ Some (front ++ (b + 1) ∷ []) = ap next_bytes (split_last xs some) ∙ next_bytes-last front b ∙ rw (is_below b 255 lt) refl in
    let all : next_bytes key ≡ Some (front ++ (b + 1) ∷ [] ++ replicate (33 - length xs) 0) = so_far ∙ ap (option_map (λ (next : List ℕ). next ++ replicate (33 - length xs) 0)) here in
    let same : bytes ≡ front ++ (b + 1) ∷ [] ++ replicate (33 - length xs) 0 = is ∙ ap (λ (k : ℕ). front ++ (b + 1) ∷ replicate k 0) n ∙ sym (append_assoc front ((b + 1) ∷ []) (replicate (33 - length xs) 0)) in
    if_key-is r bytes m ∙ ap if_key (ap (λ (l : List ℕ). Some l) same ∙ sym all)

pub key_before : (key xs : List ℕ) → 0 < length xs → length xs ≤ 33 → 255 ≤ get_or xs (length xs - 1) 0
    → next_bytes key ≡ option_map (λ next. next ++ replicate (33 - length xs) 0) (next_bytes xs)
    → next_bytes key ≡ option_map (λ next. next ++ replicate (33 - length (take (length xs - 1) xs)) 0) (next_bytes (take (length xs - 1) xs))
key_before key xs some short le so_far =
    let front = take (length xs - 1) xs in
    let b : ℕ = get_or xs (length xs - 1) 0 in
    let n : 33 - length (take (length xs - 1) xs) ≡ 33 - length xs + 1 = omega (arith, length-take (length xs - 1) xs) in
    let here : next_bytes xs ≡ option_map (λ next. next ++ 0 ∷ []) (next_bytes front) = ap next_bytes (split_last xs some) ∙ next_bytes-last front b ∙ rw (not_below b 255 le) refl in
    so_far ∙ ap (option_map (λ (next : List ℕ). next ++ replicate (33 - length xs) 0)) here ∙ zeros_behind (33 - length xs) (next_bytes front)
    ∙ ap (λ (k : ℕ). option_map (λ (next : List ℕ). next ++ replicate k 0) (next_bytes front)) (sym n)

pub key_none : (key xs : List ℕ) (n : ℕ) → length xs ≡ 0 → next_bytes key ≡ option_map (λ next. next ++ replicate n 0) (next_bytes xs) → key_after key ≡ None
unfolding next_bytes
key_none key [] n e so_far = ap if_key so_far
key_none key (x ∷ xs) n e so_far = absurd (omega (arith, e))

pub raised_none : (xs : List ℕ) → length xs ≡ 0 → raised xs ≡ None
unfolding raised
raised_none [] e = refl
raised_none (x ∷ xs) e = absurd (omega (arith, e))

-- what is found is allowed
next_is_allowed : (Allowed : List ℕ → Type 0) (bytes next : List ℕ) (o : Option (List ℕ)) → Nexts Allowed bytes o → Some next ≡ o → Allowed next
next_is_allowed Allowed bytes next (Some found) n e = let same : next ≡ found = cc in subst Allowed (sym same) n.allowed
next_is_allowed Allowed bytes next None n e = absurd cc

pub part_after-allowed : (limit : ℕ) (part next : List ℕ) → IsText limit part → Some next ≡ part_after limit part → IsText limit next
part_after-allowed limit part next is e = next_is_allowed (IsText limit) part next (part_after limit part) (part_after-next limit part is) e
