-- The rows at prefixes of a row, among rows that rise, are found among those at prefixes of the row before.
use Rattle.std.proofs.Common.{◌≡◌, ℕ, ◌+◌, ◌<◌, Bool, true, false, cond, List, [], ◌∷◌, ◌++◌, length, take, drop, Option, Some, None, refl, sym, ap, subst, ◌∙◌, append_assoc, append-nil, arith, length-append, Less}
use Rattle.std.specs.List.{AllByRecursion, position_from}
use Rattle.std.specs.List.Sorted.{IsStrictlySortedBy}
use Rattle.std.proofs.lemmas.Bool.{false≢true}
use Rattle.std.proofs.lemmas.List.{take-append-drop, length-take-le}
use Rattle.std.proofs.lemmas.List.Elements.{filter-append}
use Rattle.spelling.proofs.Lists.{All-right}
use Rattle.spelling.specs.Answers.{or_else}
use Rattle.willow_entry.specs.Row.{RowValue, is_dominating, inner_place_cmp}
use Rattle.peer_image.specs.Fronts.{Seen, numbered, fronts_of, first_dominating, is_at_inner_prefix, StandBehind, Suffices}
use Rattle.peer_image.specs.declared.refusal.ImageRefusal.TheVariants.{Pruned}
use Rattle.peer_image.specs.Order.{pruned_by, pruned_after, IsInnerRising}
use Rattle.peer_image.proofs.Inner.{inner_between, dominated_at_inner}

abbrev pub entry_of : ℕ → RowValue → Seen
entry_of k r = record { at = k; row = r }

-- ---- fronts of fronts

fronts_step : (c r : RowValue) (x : Seen) (xs : List Seen) (b d : Bool) → is_at_inner_prefix x.row c ≡ b → is_at_inner_prefix x.row r ≡ d → (d ≡ true → b ≡ true)
    → fronts_of r (cond b (x ∷ xs) xs) ≡ cond d (x ∷ fronts_of r xs) (fronts_of r xs)
fronts_step c r x xs true d e f up = ap (λ t. cond t (x ∷ fronts_of r xs) (fronts_of r xs)) f
fronts_step c r x xs false true e f up = absurd (false≢true (up refl))
fronts_step c r x xs false false e f up = refl

fronts_twice : (c r : RowValue) (k : ℕ) (rows : List RowValue) → AllByRecursion (λ s. inner_place_cmp s c ≡ Less) rows → inner_place_cmp c r ≡ Less
    → fronts_of r (fronts_of c (numbered k rows)) ≡ fronts_of r (numbered k rows)
unfolding numbered
fronts_twice c r k [] below above = refl
fronts_twice c r k (x ∷ rows) below above =
    fronts_step c r (entry_of k x) (fronts_of c (numbered (k + 1) rows)) (is_at_inner_prefix x c) (is_at_inner_prefix x r) refl refl (inner_between x c r below.0 above)
    ∙ ap (λ l. cond (is_at_inner_prefix x r) (entry_of k x ∷ l) l) (fronts_twice c r (k + 1) rows below.1 above)

pub numbered-push : (k : ℕ) (rows : List RowValue) (c : RowValue) → numbered k (rows ++ c ∷ []) ≡ numbered k rows ++ entry_of (k + length rows) c ∷ []
unfolding numbered
numbered-push k [] c = ap (λ n. entry_of n c ∷ []) (omega arith)
numbered-push k (x ∷ rows) c =
    let n : k + 1 + length rows ≡ k + length (x ∷ rows) = omega arith in
    ap (λ l. entry_of k x ∷ l) (numbered-push (k + 1) rows c ∙ ap (λ m. numbered (k + 1) rows ++ entry_of m c ∷ []) n)

-- ---- one row further

pub suffices_none : Suffices [] []
unfolding numbered
suffices_none r above = refl

pub suffices_on : (earlier : List RowValue) (c : RowValue) (fronts kept : List Seen) (at : ℕ) → AllByRecursion (λ s. inner_place_cmp s c ≡ Less) earlier → Suffices earlier fronts
    → kept ≡ fronts_of c fronts → at ≡ length earlier + 1 → Suffices (earlier ++ c ∷ []) (kept ++ entry_of at c ∷ [])
suffices_on earlier c fronts kept at below so is n r above =
    let P : RowValue → Type 0 = λ s. inner_place_cmp s r ≡ Less in
    let over : inner_place_cmp c r ≡ Less = (All-right P earlier (c ∷ []) above).0 in
    let m : at ≡ 1 + length earlier = omega (arith, n) in
    let left : fronts_of r kept ≡ fronts_of r (numbered 1 earlier) = ap (fronts_of r) (is ∙ so c below) ∙ fronts_twice c r 1 earlier below over in
    filter-append (λ s. is_at_inner_prefix s.row r) kept (entry_of at c ∷ [])
    ∙ ap (λ l. l ++ fronts_of r (entry_of at c ∷ [])) left
    ∙ sym (filter-append (λ s. is_at_inner_prefix s.row r) (numbered 1 earlier) (entry_of at c ∷ []))
    ∙ ap (λ i. fronts_of r (numbered 1 earlier ++ entry_of i c ∷ [])) m
    ∙ ap (fronts_of r) (sym (numbered-push 1 earlier c))

-- ---- the first that dominates

dominating_step : (r x : RowValue) (k : ℕ) (rest : List Seen) (b d : Bool) → is_at_inner_prefix x r ≡ b → is_dominating x r ≡ d → (d ≡ true → b ≡ true)
    → first_dominating r (cond b (entry_of k x ∷ rest) rest) ≡ cond d (Some k) (first_dominating r rest)
unfolding first_dominating
dominating_step r x k rest true d e f up = ap (λ t. cond t (Some k) (first_dominating r rest)) f
dominating_step r x k rest false true e f up = absurd (false≢true (up refl))
dominating_step r x k rest false false e f up = refl

dominating_is : (r : RowValue) (k : ℕ) (rows : List RowValue) → first_dominating r (fronts_of r (numbered k rows)) ≡ position_from (λ s. is_dominating s r) k rows
unfolding numbered first_dominating
dominating_is r k [] = refl
dominating_is r k (x ∷ rows) =
    dominating_step r x k (fronts_of r (numbered (k + 1) rows)) (is_at_inner_prefix x r) (is_dominating x r) refl refl (dominated_at_inner x r)
    ∙ ap (λ o. cond (is_dominating x r) (Some k) o) (dominating_is r (k + 1) rows)

-- what is found among the kept fronts is the first of all earlier rows that dominates
pub found_is : (earlier : List RowValue) (c : RowValue) (fronts kept : List Seen) → AllByRecursion (λ s. inner_place_cmp s c ≡ Less) earlier → Suffices earlier fronts → kept ≡ fronts_of c fronts
    → first_dominating c kept ≡ position_from (λ s. is_dominating s c) 1 earlier
found_is earlier c fronts kept below so is = ap (first_dominating c) (is ∙ so c below) ∙ dominating_is c 1 earlier

-- ---- what is left to refuse

pub below_here : (earlier : List RowValue) (c : RowValue) (rest : List RowValue) → IsInnerRising (earlier ++ c ∷ rest) → AllByRecursion (λ s. inner_place_cmp s c ≡ Less) earlier
unfolding IsStrictlySortedBy
below_here [] c rest up = tt
below_here (x ∷ earlier) c rest up = ((All-right (λ s. inner_place_cmp x s ≡ Less) earlier (c ∷ rest) up.0).0, below_here earlier c rest up.1)

pub pruned_here : (earlier rest : List RowValue) (c : RowValue) (found : Option ℕ) → found ≡ position_from (λ s. is_dominating s c) 1 earlier
    → pruned_after earlier (c ∷ rest) ≡ or_else (pruned_by (length earlier + 1) found) (pruned_after (earlier ++ c ∷ []) rest)
unfolding pruned_after
pruned_here earlier rest c found is = ap (λ (o : Option ℕ). or_else (pruned_by (length earlier + 1) o) (pruned_after (earlier ++ c ∷ []) rest)) (sym is)

pub pruned_end : (earlier : List RowValue) → pruned_after earlier [] ≡ None
unfolding pruned_after
pruned_end earlier = refl

-- ---- along the rows

-- behind so many of the rows those are kept that may dominate one, and what is left to refuse is the same
pub record HasPassed (earlier rows : List RowValue) (passed : ℕ) (kept : List Seen) : Type 0 where
  pub sufficient : Suffices (earlier ++ take passed rows) kept
  pub left : pruned_after (earlier ++ take passed rows) (drop passed rows) ≡ pruned_after earlier rows

pub passed_none : (earlier rows : List RowValue) (kept : List Seen) (before : ℕ) → StandBehind earlier kept before rows → HasPassed earlier rows 0 kept
passed_none earlier rows kept before h = record {
  sufficient = subst (λ (l : List RowValue). Suffices l kept) (sym (append-nil earlier)) h.sufficient;
  left = ap (λ (l : List RowValue). pruned_after l rows) (append-nil earlier);
}

module _ (earlier rows : List RowValue) (before k : ℕ) (start fronts kept : List Seen) (next : RowValue) (rest : List RowValue)
    (h : StandBehind earlier start before rows) (p : HasPassed earlier rows k fronts) (within : k < length rows) (next_is : drop k rows ≡ next ∷ rest) (is : kept ≡ fronts_of next fronts) where
  abbrev passed : List RowValue
  passed = earlier ++ take k rows

  below : AllByRecursion (λ s. inner_place_cmp s next ≡ Less) passed
  below =
      let parts : rows ≡ take k rows ++ next ∷ rest = sym (take-append-drop k rows) ∙ ap (λ (l : List RowValue). take k rows ++ l) next_is in
      below_here passed next rest (subst IsInnerRising (ap (λ (l : List RowValue). earlier ++ l) parts ∙ sym (append_assoc earlier (take k rows) (next ∷ rest))) h.rising)

  long : length passed ≡ before + k
  long = omega (arith, length-append earlier (take k rows), length-take-le k rows (omega (arith, within)), h.counted)

  here : (found : Option ℕ) → found ≡ first_dominating next kept → or_else (pruned_by (before + k + 1) found) (pruned_after (passed ++ next ∷ []) rest) ≡ pruned_after earlier rows
  here found tells =
      ap (λ (n : ℕ). or_else (pruned_by (n + 1) found) (pruned_after (passed ++ next ∷ []) rest)) (sym long)
      ∙ sym (pruned_here passed rest next found (tells ∙ found_is passed next fronts kept below p.sufficient is))
      ∙ ap (pruned_after passed) (sym next_is)
      ∙ p.left

  pub refused_here : (by : ℕ) → Some by ≡ first_dominating next kept → Some (Pruned (before + k + 1) by) ≡ pruned_after earlier rows
  refused_here by tells = here (Some by) tells

  pub passed_on : (at : ℕ) → None ≡ first_dominating next kept → at ≡ before + k + 1 → rest ≡ drop (k + 1) rows → take (k + 1) rows ≡ take k rows ++ next ∷ [] → HasPassed earlier rows (k + 1) (kept ++ entry_of at next ∷ [])
  passed_on at none number rest_is taken =
      let more : earlier ++ take (k + 1) rows ≡ passed ++ next ∷ [] = ap (λ (l : List RowValue). earlier ++ l) taken ∙ sym (append_assoc earlier (take k rows) (next ∷ [])) in
      record {
        sufficient = subst (λ (l : List RowValue). Suffices l (kept ++ entry_of at next ∷ [])) (sym more) (suffices_on passed next fronts kept at below p.sufficient is (omega (arith, long, number)));
        left = ap (λ (l : List RowValue). pruned_after l (drop (k + 1) rows)) more ∙ ap (pruned_after (passed ++ next ∷ [])) (sym rest_is) ∙ here None none;
      }

pub passed_all : (earlier rows : List RowValue) (k : ℕ) (kept : List Seen) → HasPassed earlier rows k kept → drop k rows ≡ [] → None ≡ pruned_after earlier rows
passed_all earlier rows k kept p none = sym (pruned_end (earlier ++ take k rows)) ∙ ap (pruned_after (earlier ++ take k rows)) (sym none) ∙ p.left
