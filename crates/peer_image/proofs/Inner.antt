-- The order by subspace and path: it is total, what stands at a prefix stands together, and within one namespace
-- it is the order of places.
use Rattle.std.proofs.Common.{◌≡◌, true, false, List, [], ◌∷◌, ℕ, refl, sym, ap, ◌∙◌, Less, is_gt}
use Rattle.std.specs.Cmp.{IsTotalOrder}
use Rattle.std.specs.Cmp.Lexicographic.{bytes_decides}
use Rattle.std.specs.List.{AllByRecursion}
use Rattle.std.specs.List.Sorted.{IsStrictlySortedBy}
use Rattle.std.proofs.lemmas.Bool.{and_parts, and_from}
use Rattle.willow_path.specs.Path.{is_prefix}
use Rattle.willow_entry.specs.Entry.{same_bytes}
use Rattle.willow_entry.specs.Row.{RowValue, is_dominating, place_cmp, IsRising, inner_place_cmp}
use Rattle.willow_entry.proofs.Local.{IsAtPrefix, at_prefix, dominated_at_prefix, at_prefix_not_above, between_at_prefix}
use Rattle.willow_entry.proofs.Ranks.{place-in_one_namespace, inner_place_total}
use Rattle.peer_image.specs.Order.{IsInnerRising, AreOf}
use Rattle.peer_image.specs.Fronts.{is_at_inner_prefix}

pub inner_total : IsTotalOrder inner_place_cmp
inner_total = inner_place_total

-- rows of one namespace are ordered by their places
pub inner_is : (r s : RowValue) → r.entry.namespace ≡ s.entry.namespace → place_cmp r s ≡ inner_place_cmp r s
inner_is r s e = place-in_one_namespace r s e

-- ---- at a prefix

-- the row in a namespace without a name: there it stands where it stands within its own
bare : RowValue → RowValue
bare r = record {
  entry = record { namespace = []; subspace = r.entry.subspace; path = r.entry.path; timestamp = r.entry.timestamp; length = r.entry.length; digest = r.entry.digest };
  token = r.token;
}

inner_of_bare : (r s : RowValue) → place_cmp (bare r) (bare s) ≡ inner_place_cmp r s
unfolding bare
inner_of_bare r s = place-in_one_namespace (bare r) (bare s) refl

bare_prefix : (r s : RowValue) → is_at_inner_prefix r s ≡ true → IsAtPrefix (bare r) (bare s)
unfolding bare is_at_inner_prefix
bare_prefix r s e =
    let parts = and_parts (same_bytes r.entry.subspace s.entry.subspace) (is_prefix r.entry.path s.entry.path) e in
    record { namespace = refl; subspace = (bytes_decides r.entry.subspace s.entry.subspace).0 parts.0; path = parts.1 }

prefix_from_bare : (r s : RowValue) → IsAtPrefix (bare r) (bare s) → is_at_inner_prefix r s ≡ true
unfolding bare is_at_inner_prefix
prefix_from_bare r s p =
    and_from (same_bytes r.entry.subspace s.entry.subspace) (is_prefix r.entry.path s.entry.path)
    ((bytes_decides r.entry.subspace s.entry.subspace).1 p.subspace) p.path

-- below c and c below r: a prefix of r is one of c
pub inner_between : (x c r : RowValue) → inner_place_cmp x c ≡ Less → inner_place_cmp c r ≡ Less → is_at_inner_prefix x r ≡ true → is_at_inner_prefix x c ≡ true
inner_between x c r h k e =
    prefix_from_bare x c (between_at_prefix (bare x) (bare c) (bare r) (bare_prefix x r e)
    (ap is_gt (inner_of_bare x c ∙ h)) (ap is_gt (inner_of_bare c r ∙ k)))

-- a row is not above what stands at its prefix
pub inner_not_above : (r s : RowValue) → is_at_inner_prefix r s ≡ true → is_gt (inner_place_cmp r s) ≡ false
inner_not_above r s e = ap is_gt (sym (inner_of_bare r s)) ∙ at_prefix_not_above (bare r) (bare s) (bare_prefix r s e)

-- a row dominates only at its prefix
pub dominated_at_inner : (r s : RowValue) → is_dominating r s ≡ true → is_at_inner_prefix r s ≡ true
unfolding is_at_inner_prefix
dominated_at_inner r s d =
    let p = at_prefix r s (dominated_at_prefix r s d) in
    and_from (same_bytes r.entry.subspace s.entry.subspace) (is_prefix r.entry.path s.entry.path)
    ((bytes_decides r.entry.subspace s.entry.subspace).1 p.subspace) p.path

-- ---- rows of one namespace

all_below : (n : List ℕ) (r : RowValue) (rows : List RowValue) → r.entry.namespace ≡ n → AreOf n rows → AllByRecursion (λ s. inner_place_cmp r s ≡ Less) rows → AllByRecursion (λ s. place_cmp r s ≡ Less) rows
all_below n r [] e f up = tt
all_below n r (s ∷ rows) e f up = (inner_is r s (e ∙ sym f.0) ∙ up.0, all_below n r rows e f.1 up.1)

all_inner_below : (n : List ℕ) (r : RowValue) (rows : List RowValue) → r.entry.namespace ≡ n → AreOf n rows → AllByRecursion (λ s. place_cmp r s ≡ Less) rows → AllByRecursion (λ s. inner_place_cmp r s ≡ Less) rows
all_inner_below n r [] e f up = tt
all_inner_below n r (s ∷ rows) e f up = (sym (inner_is r s (e ∙ sym f.0)) ∙ up.0, all_inner_below n r rows e f.1 up.1)

-- they rise by place where they rise by subspace and path
pub rising_from_inner : (n : List ℕ) (rows : List RowValue) → AreOf n rows → IsInnerRising rows → IsRising rows
unfolding IsStrictlySortedBy
rising_from_inner n [] f up = tt
rising_from_inner n (r ∷ rows) f up = (all_below n r rows f.0 f.1 up.0, rising_from_inner n rows f.1 up.1)

-- and the other way round
pub inner_from_rising : (n : List ℕ) (rows : List RowValue) → AreOf n rows → IsRising rows → IsInnerRising rows
unfolding IsStrictlySortedBy
inner_from_rising n [] f up = tt
inner_from_rising n (r ∷ rows) f up = (all_inner_below n r rows f.0 f.1 up.0, inner_from_rising n rows f.1 up.1)
