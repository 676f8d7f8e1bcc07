-- What the tests of fields mean: which subspaces, paths and times pass.
use Rattle.std.proofs.Common.{◌≡◌, ℕ, ◌<◌, ◌≤◌, Bool, true, false, ◌&&◌, if◌then◌else◌, List, [], ◌∷◌, ◌++◌, Option, Some, None, nat_eq, nat_le, nat_cmp, refl, sym, ap, ◌∙◌, append_assoc, arith}
use Rattle.std.proofs.lemmas.Bool.Decides.{nat_tests}
use Rattle.std.specs.Cmp.Lexicographic.{pointwise, bytes_decides}
use Rattle.willow_path.specs.Path.{is_prefix}
use Rattle.willow_path.proofs.PathOrder.{is_prefix_decides, IsPrefix-from_test}
use Rattle.willow_area.specs.Range.{is_before_end}
use Rattle.willow_area.specs.Times.{Times, in_times, includes_times, ends_later}
use Rattle.std.specs.Ordering.{is_le, is_lt}
use Rattle.willow_area.specs.declared.area.Area.{Area}
use Rattle.willow_area.specs.Area.{in_area, fits_subspace, includes_subspace}

pub both_of : (a b : Bool) → (a && b) ≡ true → (a ≡ true) × (b ≡ true)
both_of true true h = (refl, refl)
both_of true false h = absurd cc
both_of false b h = absurd cc

pub and_of : (a b : Bool) → a ≡ true → b ≡ true → (a && b) ≡ true
and_of true b p q = q
and_of false b p q = absurd cc

not_first : (a b : Bool) → a ≡ true → (a && b) ≡ false → b ≡ false
not_first true b h k = k
not_first false b h k = absurd cc

-- ---- subspaces

pub key_is : (key subspace : List ℕ) → pointwise nat_eq key subspace ≡ true → key ≡ subspace
key_is key subspace h = (bytes_decides key subspace).0 h

pub is_key : (key : List ℕ) → pointwise nat_eq key key ≡ true
is_key key = (bytes_decides key key).1 refl

pub subspace_every : (own other : Option (List ℕ)) (subspace : List ℕ) → includes_subspace own other ≡ true → fits_subspace other subspace ≡ true → fits_subspace own subspace ≡ true
subspace_every None other subspace h k = refl
subspace_every (Some key) None subspace h k = absurd cc
subspace_every (Some key) (Some same) subspace h k = let p = key_is key same h in let q = key_is same subspace k in (bytes_decides key subspace).1 (p ∙ q)

choice : {A : Type 0} (test : Bool) (x y : A) → (if test then Some x else None) ≡ Some y → (test ≡ true) × (x ≡ y)
choice true x y h = (refl, cc)
choice false x y h = absurd cc

no_choice : {A : Type 0} (test : Bool) (x : A) → (if test then Some x else None) ≡ None → test ≡ false
no_choice true x h = absurd cc
no_choice false x h = refl

-- ---- paths

pub prefix_on : (path longer longest : List (List ℕ)) → is_prefix path longer ≡ true → is_prefix longer longest ≡ true → is_prefix path longest ≡ true
prefix_on path longer longest h k =
    let p = IsPrefix-from_test path longer h in
    let q = IsPrefix-from_test longer longest k in
    (is_prefix_decides path longest).1 (p.0 ++ q.0, q.1 ∙ ap (λ (l : List (List ℕ)). l ++ q.0) p.1 ∙ append_assoc path p.0 q.0)

-- of two prefixes of a path one is a prefix of the other
pub prefixes_of_one : (path other longer : List (List ℕ)) → is_prefix path longer ≡ true → is_prefix other longer ≡ true → is_prefix path other ≡ false → is_prefix other path ≡ true
unfolding is_prefix
prefixes_of_one [] other longer h k differ = absurd cc
prefixes_of_one (part ∷ parts) [] longer h k differ = refl
prefixes_of_one (part ∷ parts) (first ∷ rest) [] h k differ = absurd cc
prefixes_of_one (part ∷ parts) (first ∷ rest) (x ∷ xs) h k differ =
    let p = both_of (pointwise nat_eq part x) (is_prefix parts xs) h in
    let q = both_of (pointwise nat_eq first x) (is_prefix rest xs) k in
    let same : part ≡ first = key_is part x p.0 ∙ sym (key_is first x q.0) in
    let shorter : is_prefix parts rest ≡ false = not_first (pointwise nat_eq part first) (is_prefix parts rest) ((bytes_decides part first).1 same) differ in
    and_of (pointwise nat_eq first part) (is_prefix rest parts) ((bytes_decides first part).1 (sym same)) (prefixes_of_one parts rest xs p.1 q.1 shorter)

-- ---- times

pub at_most : (a b : ℕ) → is_le (nat_cmp a b) ≡ true → a ≤ b
at_most a b h = grind (arith, nat_tests)

pub at_most_holds : (a b : ℕ) → a ≤ b → is_le (nat_cmp a b) ≡ true
at_most_holds a b h = grind (arith, nat_tests)

pub below : (a b : ℕ) → is_lt (nat_cmp a b) ≡ true → a < b
below a b h = grind (arith, nat_tests)

pub below_holds : (a b : ℕ) → a < b → is_lt (nat_cmp a b) ≡ true
below_holds a b h = grind (arith, nat_tests)

pub not_later : (a b : ℕ) → nat_le a b ≡ true → a ≤ b
not_later a b h = grind (arith, nat_tests)

pub not_later_holds : (a b : ℕ) → a ≤ b → nat_le a b ≡ true
not_later_holds a b h = grind (arith, nat_tests)

pub later : (a b : ℕ) → nat_le a b ≡ false → b < a
later a b h = grind (arith, nat_tests)

-- the time is below the end, where there is one
abbrev pub IsBefore : ℕ → Option ℕ → Type 0
IsBefore time end = is_before_end nat_cmp time end ≡ true

pub time_in : (times : Times) (time : ℕ) → in_times times time ≡ true → (times.start ≤ time) × IsBefore time times.end
time_in times time h = let p = both_of (is_le (nat_cmp times.start time)) (is_before_end nat_cmp time times.end) h in (at_most times.start time p.0, p.1)

pub in_time : (times : Times) (time : ℕ) → times.start ≤ time → IsBefore time times.end → in_times times time ≡ true
in_time times time h k = and_of (is_le (nat_cmp times.start time)) (is_before_end nat_cmp time times.end) (at_most_holds times.start time h) k

before_later : (own other : Option ℕ) (time : ℕ) → ends_later own other ≡ true → IsBefore time other → IsBefore time own
before_later None other time h k = refl
before_later (Some end) None time h k = absurd cc
before_later (Some end) (Some e) time h k = let p = not_later e end h in let q = below time e k in below_holds time end (omega arith)

pub times_every : (own other : Times) (time : ℕ) → includes_times own other ≡ true → in_times other time ≡ true → in_times own time ≡ true
times_every own other time h k =
    let p = both_of (nat_le own.start other.start) (ends_later own.end other.end) h in
    let q = time_in other time k in
    let first = not_later own.start other.start p.0 in
    in_time own time (omega (arith, q.0)) (before_later own.end other.end time p.1 q.1)

-- ---- areas

-- the three tests of an area
pub record PassesArea (area : Area) (subspace : List ℕ) (path : List (List ℕ)) (time : ℕ) : Type 0 where
  pub subspace_fits : fits_subspace area.subspace subspace ≡ true
  pub path_fits : is_prefix area.path path ≡ true
  pub time_fits : in_times area.times time ≡ true

pub passes_area : (area : Area) (subspace : List ℕ) (path : List (List ℕ)) (time : ℕ) → in_area area subspace path time ≡ true → PassesArea area subspace path time
unfolding in_area
passes_area area subspace path time h =
    let p = both_of (fits_subspace area.subspace subspace) (is_prefix area.path path && in_times area.times time) h in
    let q = both_of (is_prefix area.path path) (in_times area.times time) p.1 in
    record { subspace_fits = p.0; path_fits = q.0; time_fits = q.1 }

pub area_passes : (area : Area) (subspace : List ℕ) (path : List (List ℕ)) (time : ℕ) → PassesArea area subspace path time → in_area area subspace path time ≡ true
unfolding in_area
area_passes area subspace path time p =
    and_of (fits_subspace area.subspace subspace) (is_prefix area.path path && in_times area.times time) p.subspace_fits
    (and_of (is_prefix area.path path) (in_times area.times time) p.path_fits p.time_fits)
