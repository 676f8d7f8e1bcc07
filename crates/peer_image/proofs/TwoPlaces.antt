-- The capabilities of rows, and their places.
use Rattle.std.proofs.Common.{◌≡◌, ◌⊎◌, inl, inr, ℕ, zero, suc, ◌+◌, ◌-◌, ◌<◌, ◌≤◌, Bool, true, false, cond, List, [], ◌∷◌, ◌++◌, length, map, get_or, Contains, Some, None, option_map, Ok, Err, refl, sym, ap, subst, ◌∙◌, append_assoc, arith, Ordering, Less, Equal, Greater, is_lt, Bor}
use Rattle.std.specs.Cmp.Lexicographic.{bytes_decides, on_texts, on_texts_equal, texts_ties}
use Rattle.std.specs.List.{AllByRecursion, dedup, flat_map, slice_get}
use Rattle.std.specs.List.Sorted.{IsStrictlySortedBy, IsPermutation, IsSorted, IsBinarySearchResult}
use Rattle.std.specs.Ordering.{match_ordering, ordering_reverse}
use Rattle.std.proofs.lemmas.Bool.{cases_lt}
use Rattle.std.proofs.lemmas.Cmp.{nat_list_cmp_total, tied_itself}
use Rattle.std.proofs.lemmas.List.{length-map}
use Rattle.std.proofs.Math.ListN.{get_or-map}
use Rattle.std.proofs.lemmas.List.Kept.{Any-dedup, Contains-from_dedup, IsStrictlySortedBy-dedup}
use Rattle.std.proofs.lemmas.List.Sorted.{Contains-permutation, IsPermutation-sym, searchable_from_sorted}
use Rattle.std.proofs.lemmas.Option.{get_or_from_slice_get, none-some, slice_get-map, slice_get_cases, slice_get_read}
use Rattle.willow_entry.specs.Entry.{bytes_cmp, same_bytes}
use Rattle.willow_entry.specs.Pruning.{placed, rising}
use Rattle.willow_entry.proofs.Members.{Member, contains_from_member, member_append_cases, member_append_left, member_append_right, member_from_contains}
use Rattle.willow_entry.proofs.Ranks.{bytes_tie}
use Rattle.willow_entry.proofs.Rising.{IsApart, member_from_rising, member_rising, rising-rises, same_rising, Less≢Equal}
use Rattle.willow_entry.specs.Row.{RowValue}
use Rattle.peer_image.specs.Image.{bytes_frame, capabilities, capability_bytes, head_two, image, place_in, placed_frame, trailer}
use Rattle.peer_image.proofs.OrderBehind.{ended, mapped_end}

-- ---- all of what is placed

all_placed : {X : Type 0} (cmp : X → X → Ordering) (P : X → Type 0) (x : X) (ys : List X) → P x → AllByRecursion P ys → AllByRecursion P (placed cmp x ys)
all_placed cmp P x [] p all = (p, tt)
all_placed {X} cmp P x (y ∷ ys) p all =
    let Q : Ordering → Type 0 = λ o. AllByRecursion P (match_ordering o (x ∷ y ∷ ys) (y ∷ ys) (y ∷ placed cmp x ys)) in
    let each : (o : Ordering) → Q o = elim [
      | Less ↦ (p, all)
      | Equal ↦ all
      | Greater ↦ (all.0, all_placed cmp P x ys p all.1)
    ] in
    each (cmp x y)

pub all_rising : {X : Type 0} (cmp : X → X → Ordering) (P : X → Type 0) (xs : List X) → AllByRecursion P xs → AllByRecursion P (rising cmp xs)
all_rising cmp P [] all = tt
all_rising cmp P (x ∷ xs) all = all_placed cmp P x (rising cmp xs) all.0 (all_rising cmp P xs all.1)

placed_short : {X : Type 0} (cmp : X → X → Ordering) (x : X) (ys : List X) → length (placed cmp x ys) ≤ length ys + 1
placed_short cmp x [] = omega arith
placed_short {X} cmp x (y ∷ ys) =
    let Q : Ordering → Type 0 = λ o. length (match_ordering o (x ∷ y ∷ ys) (y ∷ ys) (y ∷ placed cmp x ys)) ≤ length (y ∷ ys) + 1 in
    let each : (o : Ordering) → Q o = elim [
      | Less ↦ omega arith
      | Equal ↦ omega arith
      | Greater ↦ omega (arith, placed_short cmp x ys)
    ] in
    each (cmp x y)

-- they are no more
pub rising_short : {X : Type 0} (cmp : X → X → Ordering) (xs : List X) → length (rising cmp xs) ≤ length xs
rising_short cmp [] = omega arith
rising_short cmp (x ∷ xs) = omega (arith, placed_short cmp x (rising cmp xs), rising_short cmp xs)

-- ---- places

at_other : (d c : List ℕ) (others : List (List ℕ)) → (d ≡ c → ⊥) → place_in (d ∷ others) c ≡ place_in others c + 1
unfolding place_in
at_other d c others differ = by (same_bytes d c) refl where
  by : (b : Bool) → same_bytes d c ≡ b → cond b 0 (place_in others c + 1) ≡ place_in others c + 1
  by true e = absurd (differ ((bytes_decides d c).0 e))
  by false e = refl

at_same : (d c : List ℕ) (others : List (List ℕ)) → d ≡ c → place_in (d ∷ others) c ≡ 0
unfolding place_in
at_same d c others same = ap (λ (b : Bool). cond b 0 (place_in others c + 1)) ((bytes_decides d c).1 same)

pub all_at : {X : Type 0} (P : X → Type 0) (xs : List X) (k : ℕ) (x : X) → AllByRecursion P xs → k < length xs → get_or xs k x ≡ x → P x
all_at P [] k x all below is = absurd (omega (arith, below))
all_at P (y ∷ xs) zero x all below is = subst P is all.0
all_at P (y ∷ xs) (suc k) x all below is = all_at P xs k x all.1 (omega (arith, below)) is

-- of rising capabilities the one at k has the place k
pub place_at : (told : List (List ℕ)) (k : ℕ) (c : List ℕ) → IsStrictlySortedBy bytes_cmp told → k < length told → get_or told k c ≡ c → place_in told c ≡ k
unfolding IsStrictlySortedBy
place_at [] k c up below is = absurd (omega (arith, below))
place_at (d ∷ told) zero c up below is = at_same d c told is
place_at (d ∷ told) (suc k) c up below is =
    let less : bytes_cmp d c ≡ Less = all_at (λ x. bytes_cmp d x ≡ Less) told k c up.0 (omega (arith, below)) is in
    let differ : d ≡ c → ⊥ = λ same. Less≢Equal (sym less ∙ ap (bytes_cmp d) (sym same) ∙ tied_itself nat_list_cmp_total d) in
    at_other d c told differ ∙ ap (λ (n : ℕ). n + 1) (place_at told k c up.1 (omega (arith, below)) is) ∙ omega arith

-- one that is none of them has their number
pub place_none : (told : List (List ℕ)) (c : List ℕ) → (Contains told c → ⊥) → place_in told c ≡ length told
unfolding place_in
place_none [] c none = refl
place_none (d ∷ told) c none =
    at_other d c told (λ same. none (0, omega arith, same))
    ∙ ap (λ (n : ℕ). n + 1) (place_none told c (λ h. none (suc h.0, omega (arith, h.1), h.2)))
    ∙ omega arith

-- ---- capabilities that were sorted, and of which equal ones were dropped

abbrev pub Text : Type 0
Text = Bor (List ℕ)

abbrev pub by_text : Text → Text → Ordering
by_text x y = bytes_cmp x.now y.now

abbrev pub same_text : Text → Text → Bool
same_text x y = same_bytes x.now y.now

abbrev pub now_of : List Text → List (List ℕ)
now_of = map (λ (x : Text). x.now)

module _ (gathered sorted told : List Text) (moved : IsPermutation gathered sorted) (up : IsSorted by_text sorted) (is : told ≡ dedup same_text sorted) where
  pub told_up : IsStrictlySortedBy by_text told
  told_up = subst (IsStrictlySortedBy by_text) (sym is) (IsStrictlySortedBy-dedup (on_texts (λ (x : Text). x.now)) (λ x y. texts_ties x.now y.now) sorted up)

  -- what is told was gathered
  told_gathered : (x : Text) → Contains told x → Contains gathered x
  told_gathered x h = Contains-permutation sorted gathered x (IsPermutation-sym gathered sorted moved) (Contains-from_dedup same_text sorted x (subst (λ (l : List Text). Contains l x) is h))

  -- of what was gathered an equal one is told
  gathered_told : (x : Text) → Contains gathered x → (y : Text) × Contains told y × (x.now ≡ y.now)
  gathered_told x h =
      let found = Any-dedup (on_texts_equal (λ (x : Text). x.now)) sorted x (Contains-permutation gathered sorted x moved h) in
      (found.1, subst (λ (l : List Text). Contains l found.1) (sym is) (found.0, found.2, found.3), (bytes_decides x.now found.1.now).0 found.4)

now_member : (xs : List Text) (x : Text) → Member xs x → Member (now_of xs) x.now
now_member [] x h = absurd h
now_member (y ∷ xs) x (inl e) = inl (ap (λ (z : Text). z.now) e)
now_member (y ∷ xs) x (inr m) = inr (now_member xs x m)

member_now : (xs : List Text) (z : List ℕ) → Member (now_of xs) z → (x : Text) × Member xs x × (x.now ≡ z)
member_now [] z h = absurd h
member_now (y ∷ xs) z (inl e) = (y, inl refl, e)
member_now (y ∷ xs) z (inr m) = let r = member_now xs z m in (r.0, inr r.1, r.2)

all_now : (x : Text) (xs : List Text) → AllByRecursion (λ y. by_text x y ≡ Less) xs → AllByRecursion (λ z. bytes_cmp x.now z ≡ Less) (now_of xs)
all_now x [] all = tt
all_now x (y ∷ xs) all = (all.0, all_now x xs all.1)

pub now_up : (xs : List Text) → IsStrictlySortedBy by_text xs → IsStrictlySortedBy bytes_cmp (now_of xs)
unfolding IsStrictlySortedBy
now_up [] up = tt
now_up (x ∷ xs) up = (all_now x xs up.0, now_up xs up.1)

apart : (xs : List (List ℕ)) → IsApart bytes_cmp xs
apart xs x y m n e = bytes_tie x y e

-- they are the texts that were gathered, rising, each once
pub told_is : (gathered sorted told : List Text) → IsPermutation gathered sorted → IsSorted by_text sorted → told ≡ dedup same_text sorted → now_of told ≡ rising bytes_cmp (now_of gathered)
told_is gathered sorted told moved up is =
    same_rising bytes_cmp nat_list_cmp_total (now_of told) (rising bytes_cmp (now_of gathered)) (now_up told (told_up gathered sorted told moved up is)) (rising-rises bytes_cmp nat_list_cmp_total (now_of gathered)) there back where
      there : (z : List ℕ) → Member (now_of told) z → Member (rising bytes_cmp (now_of gathered)) z
      there z m =
          let x = member_now told z m in
          let here = member_from_contains gathered x.0 (told_gathered gathered sorted told moved up is x.0 (contains_from_member told x.0 x.1)) in
          member_rising bytes_cmp (now_of gathered) (apart (now_of gathered)) z (subst (Member (now_of gathered)) x.2 (now_member gathered x.0 here))

      back : (z : List ℕ) → Member (rising bytes_cmp (now_of gathered)) z → Member (now_of told) z
      back z m =
          let x = member_now gathered z (member_from_rising bytes_cmp (now_of gathered) z m) in
          let y = gathered_told gathered sorted told moved up is x.0 (contains_from_member gathered x.0 x.1) in
          subst (Member (now_of told)) (sym y.2 ∙ x.2) (now_member told y.0 (member_from_contains told y.0 y.1))

-- ---- one that stands among those before it

-- it adds none to those that rise
pub rising_passed : (told left : List (List ℕ)) (c : List ℕ) → Contains told c → rising bytes_cmp (told ++ c ∷ left) ≡ rising bytes_cmp (told ++ left)
rising_passed told left c has =
    same_rising bytes_cmp nat_list_cmp_total (rising bytes_cmp (told ++ c ∷ left)) (rising bytes_cmp (told ++ left)) (rising-rises bytes_cmp nat_list_cmp_total (told ++ c ∷ left)) (rising-rises bytes_cmp nat_list_cmp_total (told ++ left)) there back where
      fewer : (z : List ℕ) → Member told z ⊎ Member (c ∷ left) z → Member (told ++ left) z
      fewer z (inl m) = member_append_left told left z m
      fewer z (inr (inl e)) = subst (Member (told ++ left)) e (member_append_left told left c (member_from_contains told c has))
      fewer z (inr (inr m)) = member_append_right told left z m

      more : (z : List ℕ) → Member told z ⊎ Member left z → Member (told ++ c ∷ left) z
      more z (inl m) = member_append_left told (c ∷ left) z m
      more z (inr m) = member_append_right told (c ∷ left) z (inr m)

      there : (z : List ℕ) → Member (rising bytes_cmp (told ++ c ∷ left)) z → Member (rising bytes_cmp (told ++ left)) z
      there z m = member_rising bytes_cmp (told ++ left) (apart (told ++ left)) z (fewer z (member_append_cases told (c ∷ left) z (member_from_rising bytes_cmp (told ++ c ∷ left) z m)))

      back : (z : List ℕ) → Member (rising bytes_cmp (told ++ left)) z → Member (rising bytes_cmp (told ++ c ∷ left)) z
      back z m = member_rising bytes_cmp (told ++ c ∷ left) (apart (told ++ c ∷ left)) z (more z (member_append_cases told left z (member_from_rising bytes_cmp (told ++ left) z m)))

-- the last of them is one of them
pub last_among : (told : List Text) (last : Text) (c : List ℕ) → Some last ≡ slice_get told (length told - 1) → last.now ≡ c → Contains (now_of told) c
last_among told last c is same =
    let end = mapped_end (λ (x : Text). x.now) told last (ended told last is) in
    let there : Member (now_of told) last.now = subst (λ (l : List (List ℕ)). Member l last.now) (sym end.parts) (member_append_right end.front (last.now ∷ []) last.now (inl refl)) in
    subst (Contains (now_of told)) same (contains_from_member (now_of told) last.now there)

-- ---- what stands at a place

pub stands_at : (told : List Text) (k : ℕ) (there : Text) (c : List ℕ) → k < length told → there ≡ get_or told k there → there.now ≡ c → slice_get (now_of told) k ≡ Some c
stands_at told k there c below is same =
    let now : Text → List ℕ = λ x. x.now in
    slice_get-map now told k ∙ ap (option_map now) (slice_get_read told (length told) k there refl below is) ∙ ap (λ (l : List ℕ). Some l) same

-- of rising capabilities that one has this place
pub place_there : (told : List (List ℕ)) (k : ℕ) (c : List ℕ) → IsStrictlySortedBy bytes_cmp told → slice_get told k ≡ Some c → place_in told c ≡ k
place_there told k c up at = by (slice_get_cases told k).1 where
  by : ((x : List ℕ) × (k < length told) × (slice_get told k ≡ Some x) × (get_or told k x ≡ x)) ⊎ ((length told ≤ k) × (slice_get told k ≡ None)) → place_in told c ≡ k
  by (inl some) = place_at told k c up some.1 (get_or_from_slice_get told k c c at)
  by (inr none) = absurd (none-some c (sym none.1 ∙ at))

-- ---- what a binary search tells

sorted_from_up : (xs : List Text) → IsStrictlySortedBy by_text xs → IsSorted by_text xs
unfolding IsStrictlySortedBy
sorted_from_up [] up k d low high = absurd (omega (arith, high))
sorted_from_up (x ∷ []) up k d low high = absurd (omega (arith, high))
sorted_from_up (x ∷ y ∷ xs) up zero d low high = ap is_lt ((on_texts (λ (t : Text). t.now)).antisymm y x ∙ ap ordering_reverse up.0.0)
sorted_from_up (x ∷ y ∷ xs) up (suc k) d low high =
    let next : suc k + 1 ≡ suc (k + 1) = omega arith in
    subst (λ (n : ℕ). is_lt (by_text (get_or (x ∷ y ∷ xs) n d) (get_or (x ∷ y ∷ xs) (suc k) d)) ≡ false) (sym next) (sorted_from_up (y ∷ xs) up.1 k d (omega arith) (omega (arith, high)))

-- what was searched for and was not found is not there
Less≢Tie : (o : Ordering) → o ≡ Less → o ≡ Equal → ⊥
Less≢Tie o e f = Less≢Equal (sym e ∙ f)

Greater≢Tie : (o : Ordering) → o ≡ Greater → o ≡ Equal → ⊥
Greater≢Tie o e f = absurd cc

pub not_found : (told : List Text) (c : Text) (at : ℕ) → IsStrictlySortedBy by_text told → IsBinarySearchResult (λ y. by_text y c) told (Err at) → Contains (now_of told) c.now → ⊥
not_found told c at up found h =
    let parts = found (searchable_from_sorted (on_texts (λ (t : Text). t.now)) (λ (t : Text). t) told c (sorted_from_up told up)) in
    let x = member_now told c.now (member_from_contains (now_of told) c.now h) in
    let there = contains_from_member told x.0 x.1 in
    let tie : by_text (get_or told there.0 x.0) c ≡ Equal = ap (λ (t : Text). by_text t c) there.2 ∙ ap (λ (l : List ℕ). bytes_cmp l c.now) x.2 ∙ tied_itself nat_list_cmp_total c.now in
    elim (cases_lt there.0 at) [
      | inl below ↦ Less≢Tie (by_text (get_or told there.0 x.0) c) (parts.0 there.0 x.0 (omega arith) below) tie
      | inr above ↦ Greater≢Tie (by_text (get_or told there.0 x.0) c) (parts.1 there.0 x.0 above there.1) tie
    ]

pub found_at : (told : List Text) (c : Text) (at : ℕ) → IsStrictlySortedBy by_text told → IsBinarySearchResult (λ y. by_text y c) told (Ok at) → at < length told → place_in (now_of told) c.now ≡ at
found_at told c at up found below =
    let now : Text → List ℕ = λ x. x.now in
    place_at (now_of told) at c.now (now_up told up) (omega (arith, below, length-map told now)) (get_or-map now told at c ∙ bytes_tie (get_or told at c).now c.now (found c))

-- what holds of each holds of one
pub now_at : (P : List ℕ → Type 0) (told : List Text) (k : ℕ) (d : Text) → AllByRecursion P (now_of told) → k < length told → P (get_or told k d).now
now_at P [] k d all below = absurd (omega (arith, below))
now_at P (t ∷ told) zero d all below = all.0
now_at P (t ∷ told) (suc k) d all below = now_at P told k d all.1 (omega (arith, below))

-- ---- what is written

pub told_few : (told : List Text) (rows : List RowValue) → now_of told ≡ capabilities rows → length told ≤ length rows
told_few told rows is =
    let now : Text → List ℕ = λ x. x.now in
    omega (arith, length-map told now, ap length is, rising_short bytes_cmp (map capability_bytes rows), length-map rows capability_bytes)

written : (s h cs rs t : List ℕ) → ((s ++ (h ++ cs)) ++ rs) ++ t ≡ s ++ (h ++ (cs ++ (rs ++ t)))
written s h cs rs t =
    ap (λ (l : List ℕ). l ++ t) (append_assoc s (h ++ cs) rs)
    ∙ append_assoc s ((h ++ cs) ++ rs) t
    ∙ ap (λ (l : List ℕ). s ++ l) (append_assoc (h ++ cs) rs t ∙ append_assoc h cs (rs ++ t))

-- the head and the capabilities, then the rows, then the end
pub image_written : (n : List ℕ) (rows : List RowValue) (told : List Text) (start a b c : List ℕ) (count : ℕ) → now_of told ≡ capabilities rows
    → a ≡ start ++ (head_two n (length told) ++ flat_map bytes_frame (now_of told)) → b ≡ a ++ flat_map (placed_frame (now_of told)) rows → c ≡ b ++ trailer count → count ≡ length rows → c ≡ start ++ image n rows
unfolding image
image_written n rows told start a b c count told_is a_is b_is c_is count_is =
    let now : Text → List ℕ = λ x. x.now in
    let long : length told ≡ length (capabilities rows) = sym (length-map told now) ∙ ap length told_is in
    c_is
    ∙ ap (λ (l : List ℕ). l ++ trailer count) b_is
    ∙ ap (λ (l : List ℕ). (l ++ flat_map (placed_frame (now_of told)) rows) ++ trailer count) a_is
    ∙ ap (λ (k : ℕ). ((start ++ (head_two n k ++ flat_map bytes_frame (now_of told))) ++ flat_map (placed_frame (now_of told)) rows) ++ trailer count) long
    ∙ ap (λ (l : List (List ℕ)). ((start ++ (head_two n (length (capabilities rows)) ++ flat_map bytes_frame l)) ++ flat_map (placed_frame l) rows) ++ trailer count) told_is
    ∙ ap (λ (k : ℕ). ((start ++ (head_two n (length (capabilities rows)) ++ flat_map bytes_frame (capabilities rows))) ++ flat_map (placed_frame (capabilities rows)) rows) ++ trailer k) count_is
    ∙ written start (head_two n (length (capabilities rows))) (flat_map bytes_frame (capabilities rows)) (flat_map (placed_frame (capabilities rows)) rows) (trailer (length rows))
