-- The least path above all extensions of a path.
use Rattle.std.proofs.Common.{◌≡◌, ℕ, zero, suc, ◌+◌, ◌-◌, ◌<◌, ◌≤◌, min, Bool, true, false, ◌&&◌, List, [], ◌∷◌, ◌++◌, length, Option, Some, None, nat_eq, refl, sym, ap, subst, ◌∙◌, arith, IsTrue, take, get_or}
use Rattle.std.specs.List.{AllByRecursion}
use Rattle.std.specs.Option.{option_map, option_or}
use Rattle.std.specs.Ordering.{is_gt, ordering_then, ordering_reverse}
use Rattle.std.specs.Cmp.Lexicographic.{pointwise}
use Rattle.std.specs.declared.cmp.Ordering.{Ordering}
use Rattle.std.specs.declared.cmp.Ordering.TheVariants.{Less, Equal, Greater}
use Rattle.std.proofs.lemmas.Cmp.{tied_itself}
use Rattle.std.proofs.lemmas.List.{append-nil, take_more}
use Rattle.spelling.specs.Spelling.{IsText}
use Rattle.willow_path.specs.declared.limits.TheConstants.{MAX_PART, MAX_PARTS, MAX_TOTAL}
use Rattle.willow_path.specs.Path.{IsPart, IsPath, total, is_prefix, part_cmp, path_cmp}
use Rattle.willow_path.specs.Successor.{part_after, after_within, after, IsAbovePrefixed, IsLeastAbove, IsAfter, IsBelow}
use Rattle.willow_path.proofs.PathOrder.{both_tests, part_cmp_equal, part_cmp-itself, part_eq_decides, path_cmp_equal, path_cmp_total, prefix_at_most, is_prefix-append}
use Rattle.willow_path.proofs.PartSuccessor.{IsNext, Nexts, part_after-next}

not_true : (b : Bool) → (b ≡ true → ⊥) → b ≡ false
not_true true h = absurd (h refl)
not_true false h = refl

not_both : (b : Bool) → b ≡ false → b ≡ true → ⊥
not_both b e f = cc

is_less : (o : Ordering) → o ≡ Less → is_gt o ≡ false
is_less o e = cc

not_greater_then : (o s : Ordering) → is_gt o ≡ false → is_gt s ≡ false → is_gt (ordering_then o s) ≡ false
not_greater_then Less s h k = refl
not_greater_then Equal s h k = k
not_greater_then Greater s h k = absurd cc

-- ---- above a path, and no extension of it

abbrev pub Beyond : List (List ℕ) → List (List ℕ) → Type 0
Beyond path other = (path_cmp path other ≡ Less) × (is_prefix path other ≡ false)

data IsBeyond (c d : List ℕ) (cs ds : List (List ℕ)) : Type 0 where
  Apart : part_cmp c d ≡ Less → IsBeyond c d cs ds
  Along : c ≡ d → Beyond cs ds → IsBeyond c d cs ds

beyond_from : (c d : List ℕ) (cs ds : List (List ℕ)) (o : Ordering) → part_cmp c d ≡ o → ordering_then o (path_cmp cs ds) ≡ Less → (pointwise nat_eq c d && is_prefix cs ds) ≡ false → IsBeyond c d cs ds
beyond_from c d cs ds Less e h p = Apart e
beyond_from c d cs ds Equal e h p =
    let same = (part_cmp_equal c d).0 e in
    let q : is_prefix cs ds ≡ false = ap (λ b. b && is_prefix cs ds) (sym ((part_eq_decides c d).1 same)) ∙ p in
    Along same (h, q)
beyond_from c d cs ds Greater e h p = absurd cc

beyond_cases : (c d : List ℕ) (cs ds : List (List ℕ)) → Beyond (c ∷ cs) (d ∷ ds) → IsBeyond c d cs ds
unfolding is_prefix
beyond_cases c d cs ds b = beyond_from c d cs ds (part_cmp c d) refl b.0 b.1

unequal : (c d : List ℕ) → part_cmp c d ≡ Less → c ≡ d → ⊥
unequal c d e q = let f = (part_cmp_equal c d).1 q in cc

apart_beyond : (c d : List ℕ) (cs ds : List (List ℕ)) → part_cmp c d ≡ Less → Beyond (c ∷ cs) (d ∷ ds)
unfolding is_prefix
apart_beyond c d cs ds e =
    let no : pointwise nat_eq c d ≡ false = not_true (pointwise nat_eq c d) (λ t. unequal c d e ((part_eq_decides c d).0 t)) in
    (rw e refl, rw no refl)

along_beyond : (c : List ℕ) (cs ds : List (List ℕ)) → Beyond cs ds → Beyond (c ∷ cs) (c ∷ ds)
unfolding is_prefix
along_beyond c cs ds b = (rw (part_cmp-itself c) b.0, rw ((part_eq_decides c c).1 refl) b.1)

never_beyond : (cs : List (List ℕ)) → Beyond cs [] → ⊥
unfolding is_prefix
never_beyond [] b = cc
never_beyond (c ∷ cs) b = cc

empty_beyond : (q : List (List ℕ)) → Beyond [] q → ⊥
unfolding is_prefix
empty_beyond q b = cc

-- ---- within the room that is left

pub record Fits (room slots : ℕ) (path : List (List ℕ)) : Type 0 where
  pub few : length path ≤ slots
  pub parts_fit : AllByRecursion IsPart path
  pub short : total path ≤ room

record IsNextPath (room slots : ℕ) (path next : List (List ℕ)) : Type 0 where
  fits : Fits room slots next
  beyond : Beyond path next
  least : (q : List (List ℕ)) → Fits room slots q → Beyond path q → is_gt (path_cmp next q) ≡ false

abbrev NextPaths : ℕ → ℕ → List (List ℕ) → Option (List (List ℕ)) → Type 0
NextPaths room slots path None = (q : List (List ℕ)) → Fits room slots q → Beyond path q → ⊥
NextPaths room slots path (Some next) = IsNextPath room slots path next

head_fits : (room slots : ℕ) (c : List ℕ) (cs : List (List ℕ)) → Fits room (suc slots) (c ∷ cs) → IsText (min MAX_PART room) c
head_fits room slots c cs f = (omega (arith, f.parts_fit.0.0, f.short), f.parts_fit.0.1)

rest_fits : (room slots : ℕ) (c : List ℕ) (cs : List (List ℕ)) → Fits room (suc slots) (c ∷ cs) → Fits (room - length c) slots cs
rest_fits room slots c cs f = record { few = omega (arith, f.few); parts_fit = f.parts_fit.1; short = omega (arith, f.short) }

both_fit : (room slots : ℕ) (c : List ℕ) (cs : List (List ℕ)) → IsText (min MAX_PART room) c → Fits (room - length c) slots cs → Fits room (suc slots) (c ∷ cs)
both_fit room slots c cs t f =
    record { few = omega (arith, f.few); parts_fit = ((omega (arith, t.0), t.1), f.parts_fit); short = omega (arith, t.0, f.short) }

none_fit : (room slots : ℕ) → Fits room slots []
none_fit room slots = record { few = omega arith; parts_fit = tt; short = omega arith }

along_least : (room slots : ℕ) (c : List ℕ) (cs next : List (List ℕ)) → IsNextPath (room - length c) slots cs next
    → (d : List ℕ) (ds : List (List ℕ)) → Fits room (suc slots) (d ∷ ds) → IsBeyond c d cs ds → is_gt (path_cmp (c ∷ next) (d ∷ ds)) ≡ false
along_least room slots c cs next n d ds f (Apart e) = rw e refl
along_least room slots c cs next n d ds f (Along same b) =
    rw ((part_cmp_equal c d).1 same) (n.least ds (subst (λ (e : List ℕ). Fits (room - length e) slots ds) (sym same) (rest_fits room slots d ds f)) b)

raised_least : (room slots : ℕ) (c next : List ℕ) (cs : List (List ℕ)) → NextPaths (room - length c) slots cs None → IsNext (IsText (min MAX_PART room)) c next
    → (d : List ℕ) (ds : List (List ℕ)) → Fits room (suc slots) (d ∷ ds) → IsBeyond c d cs ds → is_gt (path_cmp (next ∷ []) (d ∷ ds)) ≡ false
raised_least room slots c next cs none n d [] f (Apart e) = not_greater_then (part_cmp next d) Equal (n.least d (head_fits room slots d [] f) e) refl
raised_least room slots c next cs none n d (x ∷ ds) f (Apart e) = not_greater_then (part_cmp next d) Less (n.least d (head_fits room slots d (x ∷ ds) f) e) refl
raised_least room slots c next cs none n d ds f (Along same b) = absurd (none ds (subst (λ (e : List ℕ). Fits (room - length e) slots ds) (sym same) (rest_fits room slots d ds f)) b)

none_least : (room slots : ℕ) (c : List ℕ) (cs : List (List ℕ)) → NextPaths (room - length c) slots cs None → Nexts (IsText (min MAX_PART room)) c None
    → (d : List ℕ) (ds : List (List ℕ)) → Fits room (suc slots) (d ∷ ds) → IsBeyond c d cs ds → ⊥
none_least room slots c cs none n d ds f (Apart e) = n d (head_fits room slots d ds f) e
none_least room slots c cs none n d ds f (Along same b) = none ds (subst (λ (e : List ℕ). Fits (room - length e) slots ds) (sym same) (rest_fits room slots d ds f)) b

next_step : (room slots : ℕ) (c : List ℕ) (cs : List (List ℕ)) (o : Option (List (List ℕ))) (p : Option (List ℕ)) → IsText (min MAX_PART room) c
    → NextPaths (room - length c) slots cs o → Nexts (IsText (min MAX_PART room)) c p
    → NextPaths room (suc slots) (c ∷ cs) (option_or (option_map (λ next. c ∷ next) o) (option_map (λ next. next ∷ []) p))
next_step room slots c cs (Some next) p t n m = record {
  fits = both_fit room slots c next t n.fits;
  beyond = along_beyond c cs next n.beyond;
  least = elim [
    | [] ↦ λ f b. absurd (never_beyond (c ∷ cs) b)
    | d ∷ ds ↦ λ f b. along_least room slots c cs next n d ds f (beyond_cases c d cs ds b)
  ];
}
next_step room slots c cs None (Some next) t n m = record {
  fits = both_fit room slots next [] m.allowed (none_fit (room - length next) slots);
  beyond = apart_beyond c next cs [] m.above;
  least = elim [
    | [] ↦ λ f b. absurd (never_beyond (c ∷ cs) b)
    | d ∷ ds ↦ λ f b. raised_least room slots c next cs n m d ds f (beyond_cases c d cs ds b)
  ];
}
next_step room slots c cs None None t n m = elim [
  | [] ↦ λ f b. never_beyond (c ∷ cs) b
  | d ∷ ds ↦ λ f b. none_least room slots c cs n m d ds f (beyond_cases c d cs ds b)
]

after_within-next : (room slots : ℕ) (path : List (List ℕ)) → Fits room slots path → NextPaths room slots path (after_within room path)
unfolding after_within
after_within-next room slots [] f = λ q g b. empty_beyond q b
after_within-next room zero (c ∷ cs) f = absurd (omega (arith, f.few))
after_within-next room (suc slots) (c ∷ cs) f =
    let t = head_fits room slots c cs f in
    next_step room slots c cs (after_within (room - length c) cs) (part_after (min MAX_PART room) c) t
    (after_within-next (room - length c) slots cs (rest_fits room slots c cs f)) (part_after-next (min MAX_PART room) c t)

-- ---- whole paths

fits_path : (path : List (List ℕ)) → IsPath path → Fits MAX_TOTAL MAX_PARTS path
fits_path path is = record { few = is.few; parts_fit = is.parts_fit; short = is.short }

path_fits : (path : List (List ℕ)) → Fits MAX_TOTAL MAX_PARTS path → IsPath path
path_fits path is = record { few = is.few; parts_fit = is.parts_fit; short = is.short }

prefix_heads : (c x : List ℕ) (cs xs : List (List ℕ)) → is_prefix (c ∷ cs) (x ∷ xs) ≡ true → (c ≡ x) × (is_prefix cs xs ≡ true)
unfolding is_prefix
prefix_heads c x cs xs h = let both = both_tests (pointwise nat_eq c x) (is_prefix cs xs) h in ((part_eq_decides c x).0 both.0, both.1)

prefix_of_none : (c : List ℕ) (cs : List (List ℕ)) → is_prefix (c ∷ cs) [] ≡ true → ⊥
unfolding is_prefix
prefix_of_none c cs h = cc

extension_below : (c d x : List ℕ) (cs ds xs : List (List ℕ)) → c ≡ x → IsBeyond c d cs ds → (Beyond cs ds → path_cmp xs ds ≡ Less) → path_cmp (x ∷ xs) (d ∷ ds) ≡ Less
extension_below c d x cs ds xs same (Apart e) f = rw (← same, e) refl
extension_below c d x cs ds xs same (Along q b) f = rw ((part_cmp_equal x d).1 (sym same ∙ q)) (f b)

-- what is beyond a path is above its extensions
above_extensions : (path q r : List (List ℕ)) → Beyond path q → is_prefix path r ≡ true → path_cmp r q ≡ Less
above_extensions [] q r b h = absurd (empty_beyond q b)
above_extensions (c ∷ cs) [] r b h = absurd (never_beyond (c ∷ cs) b)
above_extensions (c ∷ cs) (d ∷ ds) [] b h = absurd (prefix_of_none c cs h)
above_extensions (c ∷ cs) (d ∷ ds) (x ∷ xs) b h =
    let p = prefix_heads c x cs xs h in
    extension_below c d x cs ds xs p.0 (beyond_cases c d cs ds b) (λ b'. above_extensions cs ds xs b' p.1)

itself_prefix : (path : List (List ℕ)) → is_prefix path path ≡ true
itself_prefix path = ap (is_prefix path) (sym (append-nil path)) ∙ is_prefix-append path []

not_below_itself : (q : List (List ℕ)) → path_cmp q q ≡ Less → ⊥
not_below_itself q h = let e = tied_itself path_cmp_total q in cc

beyond_is : (path q : List (List ℕ)) → IsPath path → IsPath q → IsAbovePrefixed path q → Beyond path q
beyond_is path q p is above = (above path p (itself_prefix path), not_true (is_prefix path q) (λ t. not_below_itself q (above q is t)))

after_from : (path : List (List ℕ)) (o : Option (List (List ℕ))) → IsPath path → NextPaths MAX_TOTAL MAX_PARTS path o → IsAfter path o
after_from path None p n = λ q is above. n q (fits_path q is) (beyond_is path q p is above)
after_from path (Some next) p n = record {
  whole = path_fits next n.fits;
  above = λ r is h. above_extensions path next r n.beyond h;
  least = λ q is above. n.least q (fits_path q is) (beyond_is path q p is above);
}

pub after_is : (path : List (List ℕ)) → IsPath path → IsAfter path (after path)
after_is path p = after_from path (after path) p (after_within-next MAX_TOTAL MAX_PARTS path (fits_path path p))

-- ---- what follows

both_ways : (o : Ordering) → is_gt o ≡ false → is_gt (ordering_reverse o) ≡ false → o ≡ Equal
both_ways Less h k = absurd cc
both_ways Equal h k = refl
both_ways Greater h k = absurd cc

least_is_one : (path a b : List (List ℕ)) → IsLeastAbove path a → IsLeastAbove path b → a ≡ b
least_is_one path a b x y =
    (path_cmp_equal a b).0 (both_ways (path_cmp a b) (x.least b y.whole y.above) (rw (← path_cmp_total.antisymm b a) (y.least a x.whole x.above)))

-- only one answer is right
pub IsAfter_one : (path : List (List ℕ)) (a b : Option (List (List ℕ))) → IsAfter path a → IsAfter path b → a ≡ b
IsAfter_one path None None x y = refl
IsAfter_one path None (Some b) x y = absurd (x b y.whole y.above)
IsAfter_one path (Some a) None x y = absurd (y a x.whole x.above)
IsAfter_one path (Some a) (Some b) x y = ap (λ (q : List (List ℕ)). Some q) (least_is_one path a b x y)

below_from : (path q : List (List ℕ)) (o : Option (List (List ℕ))) → IsPath q → IsAfter path o → is_prefix path q ≡ true → IsBelow q o
below_from path q None is x h = tt
below_from path q (Some a) is x h = x.above q is h

less_or_tied : (path q : List (List ℕ)) (o : Ordering) → path_cmp path q ≡ o → is_gt o ≡ false → is_prefix path q ≡ false → path_cmp path q ≡ Less
less_or_tied path q Less e h un = e
less_or_tied path q Equal e h un = absurd (not_both (is_prefix path q) un (ap (is_prefix path) (sym ((path_cmp_equal path q).0 e)) ∙ itself_prefix path))
less_or_tied path q Greater e h un = absurd cc

not_below : (a q : List (List ℕ)) → is_gt (path_cmp a q) ≡ false → path_cmp q a ≡ Less → ⊥
not_below a q h less =
    let back : path_cmp a q ≡ Greater = path_cmp_total.antisymm a q ∙ ap ordering_reverse less in
    let up : is_gt Greater ≡ false = rw back at h in cc

no_gap : (path q : List (List ℕ)) (o : Option (List (List ℕ))) → IsPath q → IsAfter path o → Beyond path q → IsBelow q o → ⊥
no_gap path q None is x b below = x q is (λ r _ h. above_extensions path q r b h)
no_gap path q (Some a) is x b below = not_below a q (x.least q is (λ r _ h. above_extensions path q r b h)) below

prefix_from : (path q : List (List ℕ)) (o : Option (List (List ℕ))) (t : Bool) → IsPath q → IsAfter path o → is_prefix path q ≡ t → is_gt (path_cmp path q) ≡ false → IsBelow q o → is_prefix path q ≡ true
prefix_from path q o true is x e h below = e
prefix_from path q o false is x e h below = absurd (no_gap path q o is x (less_or_tied path q (path_cmp path q) refl h e, e) below)

-- at or above the path and below its successor are just its extensions
pub extensions_between : (path q : List (List ℕ)) → IsPath path → IsPath q
    → (IsTrue (is_prefix path q) → (is_gt (path_cmp path q) ≡ false) × IsBelow q (after path)) × ((is_gt (path_cmp path q) ≡ false) × IsBelow q (after path) → IsTrue (is_prefix path q))
extensions_between path q p is =
    let a = after_is path p in
    (λ h. (prefix_at_most path q h, below_from path q (after path) is a h), λ b. prefix_from path q (after path) (is_prefix path q) is a refl b.0 b.1)

-- ---- by the last component

or_none : {A : Type 0} (o : Option A) → option_or o None ≡ o
or_none None = refl
or_none (Some x) = refl

one_level : (c : List ℕ) (cs : List (List ℕ)) (p : Option (List ℕ)) (o z : Option (List (List ℕ)))
    → option_or (option_map (λ next. c ∷ next) (option_or (option_map (λ next. cs ++ next ∷ []) p) o)) z
    ≡ option_or (option_map (λ next. (c ∷ cs) ++ next ∷ []) p) (option_or (option_map (λ next. c ∷ next) o) z)
one_level c cs None o z = refl
one_level c cs (Some next) o z = refl

after_last_within : (room : ℕ) (path : List (List ℕ)) (part : List ℕ)
    → after_within room (path ++ part ∷ []) ≡ option_or (option_map (λ next. path ++ next ∷ []) (part_after (min MAX_PART (room - total path)) part)) (after_within room path)
unfolding after_within
after_last_within room [] part =
    let all : room ≡ room - 0 = omega arith in
    ap (λ (n : ℕ). option_map (λ next. next ∷ []) (part_after (min MAX_PART n) part)) all ∙ sym (or_none _)
after_last_within room (c ∷ cs) part =
    let less : room - length c - total cs ≡ room - (length c + total cs) = omega arith in
    ap (λ o. option_or (option_map (λ next. c ∷ next) o) (option_map (λ next. next ∷ []) (part_after (min MAX_PART room) c))) (after_last_within (room - length c) cs part)
    ∙ one_level c cs (part_after (min MAX_PART (room - length c - total cs)) part) (after_within (room - length c) cs) _
    ∙ ap (λ (n : ℕ). option_or (option_map (λ next. (c ∷ cs) ++ next ∷ []) (part_after (min MAX_PART n) part)) (after_within room (c ∷ cs))) less

-- The last component decides where it can be added to or raised, and else the path before it does.
pub after_last : (path : List (List ℕ)) (part : List ℕ)
    → after (path ++ part ∷ []) ≡ option_or (option_map (λ next. path ++ next ∷ []) (part_after (min MAX_PART (MAX_TOTAL - total path)) part)) (after path)
after_last path part = after_last_within MAX_TOTAL path part

-- ---- as a loop finds it

after_at : (path : List (List ℕ)) (k : ℕ) → 0 < k → k ≤ length path
    → after (take k path) ≡ option_or (option_map (λ next. take (k - 1) path ++ next ∷ []) (part_after (min MAX_PART (MAX_TOTAL - total (take (k - 1) path))) (get_or path (k - 1) []))) (after (take (k - 1) path))
after_at path k some le =
    let n : k - 1 + 1 ≡ k = omega arith in
    ap (λ (m : ℕ). after (take m path)) (sym n) ∙ ap after (take_more path (k - 1) [] (omega arith)) ∙ after_last (take (k - 1) path) (get_or path (k - 1) [])

pub after_here : (path found : List (List ℕ)) (k before : ℕ) → 0 < k → k ≤ length path → before ≡ total (take (k - 1) path) → after path ≡ after (take k path)
    → Some found ≡ option_map (λ next. take (k - 1) path ++ next ∷ []) (part_after (min MAX_PART (MAX_TOTAL - before)) (get_or path (k - 1) [])) → Some found ≡ after path
after_here path found k before some le counted so_far e =
    let f : Some found ≡ option_map (λ next. take (k - 1) path ++ next ∷ []) (part_after (min MAX_PART (MAX_TOTAL - total (take (k - 1) path))) (get_or path (k - 1) [])) = rw counted at e in
    ap (λ o. option_or o (after (take (k - 1) path))) f ∙ sym (after_at path k some le) ∙ sym so_far

pub after_before : (path : List (List ℕ)) (k before : ℕ) → 0 < k → k ≤ length path → before ≡ total (take (k - 1) path) → after path ≡ after (take k path)
    → None ≡ option_map (λ next. take (k - 1) path ++ next ∷ []) (part_after (min MAX_PART (MAX_TOTAL - before)) (get_or path (k - 1) [])) → after path ≡ after (take (k - 1) path)
after_before path k before some le counted so_far e =
    let f : None ≡ option_map (λ next. take (k - 1) path ++ next ∷ []) (part_after (min MAX_PART (MAX_TOTAL - total (take (k - 1) path))) (get_or path (k - 1) [])) = rw counted at e in
    so_far ∙ after_at path k some le ∙ ap (λ o. option_or o (after (take (k - 1) path))) (sym f)

pub after_none : (path : List (List ℕ)) (k : ℕ) → k ≡ 0 → after path ≡ after (take k path) → None ≡ after path
unfolding after_within
after_none path zero e so_far = sym so_far
after_none path (suc k) e so_far = absurd (omega (arith, e))

pub after_as : (path : List (List ℕ)) (o : Option (List (List ℕ))) → o ≡ after path → IsPath path → IsAfter path o
after_as path o e is = subst (λ (a : Option (List (List ℕ))). IsAfter path a) (sym e) (after_is path is)
