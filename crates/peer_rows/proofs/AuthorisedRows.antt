-- What holds of the rows that are authorised.
use Rattle.std.proofs.Common.{◌≡◌, ◌≤◌, ℕ, Bool, true, false, cond, not, List, [], ◌∷◌, ◌++◌, length, map, filter, Option, Some, None, is_some, refl, ap, ◌∙◌, arith, Less}
use Rattle.std.specs.List.{AllByRecursion, Contains}
use Rattle.std.specs.List.Sorted.{IsStrictlySortedBy}
use Rattle.std.proofs.lemmas.List.{map-append}
use Rattle.std.proofs.lemmas.List.Elements.{filter-append}
use Rattle.willow_entry.specs.Frame.{HasFrame}
use Rattle.willow_entry.specs.Row.{RowValue, live, inner_place_cmp, place_cmp}
use Rattle.willow_entry.proofs.Members.{Member, member_from_contains, contains_from_member}
use Rattle.willow_entry.proofs.Rising.{all_member, all_from_members}
use Rattle.lms_core.specs.Use.{peer_rules}
use Rattle.mc_cap.specs.declared.refusal.RowRefusal.{RowRefusal}
use Rattle.cap_codec.specs.Rows.{RawValue, row_of, IsRaw}
use Rattle.cap_codec.proofs.RowReads.{body_short}
use Rattle.auth_entry.specs.Authorised.{is_authorised, row_refusal}
use Rattle.auth_entry.proofs.Lengths.{fits_frame}
use Rattle.auth_entry.proofs.Meaning.{authorised_means}
use Rattle.peer_image.specs.ImageReading.{raw_rows}
use Rattle.peer_image.specs.Order.{AreOf, IsInnerRising, IsInOrder, order_refusal}
use Rattle.peer_image.proofs.InOrder.{order_decides, order_of_live}
use Rattle.peer_rows.specs.Logged.{authorised_rows}

all_held : (rows : List RowValue) → AllByRecursion (Member rows) rows
all_held rows = all_from_members place_cmp (Member rows) rows (λ x m. m)

all_weaker : (P Q : RawValue → Type 0) → ((r : RawValue) → P r → Q r) → (rows : List RawValue) → AllByRecursion P rows → AllByRecursion Q rows
all_weaker P Q implies [] all = tt
all_weaker P Q implies (r ∷ rows) all = (implies r all.0, all_weaker P Q implies rows all.1)

none_of : (o : Option RowRefusal) → not (is_some o) ≡ true → o ≡ None
none_of None e = refl
none_of (Some refusal) e = absurd cc

module _ (n : List ℕ) where
  not_refused : (r : RawValue) → is_authorised peer_rules n r ≡ true → row_refusal peer_rules n r ≡ None
  unfolding is_authorised
  not_refused r e = none_of (row_refusal peer_rules n r) e

  -- the authorised rows of rows with one more in front
  abbrev with_front : Bool → RawValue → List RawValue → List RowValue
  with_front b r rows = map row_of (cond b (r ∷ filter (is_authorised peer_rules n) rows) (filter (is_authorised peer_rules n) rows))

  pub authorised_all : (P : RowValue → Type 0) (rows : List RawValue) → AllByRecursion (λ r. row_refusal peer_rules n r ≡ None → P (row_of r)) rows → AllByRecursion P (authorised_rows n rows)
  authorised_all P [] each = tt
  authorised_all P (r ∷ rows) each = split (is_authorised peer_rules n r) refl (authorised_all P rows each.1) where
    split : (b : Bool) → is_authorised peer_rules n r ≡ b → AllByRecursion P (authorised_rows n rows) → AllByRecursion P (with_front b r rows)
    split true e all = (each.0 (not_refused r e), all)
    split false e all = all

  -- ---- namespaces, frames and numbers

  own : (rows : List RawValue) → AllByRecursion (λ r. row_refusal peer_rules n r ≡ None → (row_of r).entry.namespace ≡ n) rows
  own [] = tt
  own (r ∷ rows) = (λ e. ((authorised_means peer_rules n r).0 e).of_namespace.0, own rows)

  pub of_namespace : (rows : List RawValue) → AreOf n (authorised_rows n rows)
  of_namespace rows = authorised_all (λ r. r.entry.namespace ≡ n) rows (own rows)

  pub authorised_framed : (rows : List RawValue) → AllByRecursion IsRaw rows → AllByRecursion HasFrame (authorised_rows n rows)
  authorised_framed rows fit = authorised_all HasFrame rows (all_weaker IsRaw (λ r. row_refusal peer_rules n r ≡ None → HasFrame (row_of r)) (λ r fits e. body_short r (fits_frame peer_rules n r fits e)) rows fit)

  pub authorised_parts : (rows more : List RawValue) → authorised_rows n (rows ++ more) ≡ authorised_rows n rows ++ authorised_rows n more
  authorised_parts rows more =
      ap (map row_of) (filter-append (is_authorised peer_rules n) rows more) ∙ map-append row_of (filter (is_authorised peer_rules n) rows) (filter (is_authorised peer_rules n) more)

  pub authorised_few : (rows : List RawValue) → length (authorised_rows n rows) ≤ length rows
  authorised_few [] = omega arith
  authorised_few (r ∷ rows) = split (is_authorised peer_rules n r) (authorised_few rows) where
    split : (b : Bool) → length (authorised_rows n rows) ≤ length rows → length (with_front b r rows) ≤ length (r ∷ rows)
    split true few = omega (arith, few)
    split false few = omega (arith, few)

  -- ---- rows in order

  kept_all : (P : RowValue → Type 0) (rows : List RawValue) → AllByRecursion P (raw_rows rows) → AllByRecursion P (authorised_rows n rows)
  kept_all P [] all = tt
  kept_all P (r ∷ rows) all = split (is_authorised peer_rules n r) (kept_all P rows all.1) where
    split : (b : Bool) → AllByRecursion P (authorised_rows n rows) → AllByRecursion P (with_front b r rows)
    split true rest = (all.0, rest)
    split false rest = rest

  kept_rising : (rows : List RawValue) → IsInnerRising (raw_rows rows) → IsInnerRising (authorised_rows n rows)
  unfolding IsStrictlySortedBy
  kept_rising [] up = tt
  kept_rising (r ∷ rows) up = split (is_authorised peer_rules n r) (kept_rising rows up.1) where
    split : (b : Bool) → IsInnerRising (authorised_rows n rows) → IsInnerRising (with_front b r rows)
    split true rest = (kept_all (λ s. inner_place_cmp (row_of r) s ≡ Less) rows up.0, rest)
    split false rest = rest

  -- of rows in order the authorised ones are what a store keeps of them
  pub authorised_live : (rows : List RawValue) → order_refusal (raw_rows rows) ≡ None → live (authorised_rows n rows) ≡ authorised_rows n rows
  authorised_live rows order =
      let was : IsInOrder (raw_rows rows) = (order_decides (raw_rows rows)).0 order in
      let held = λ (r : RowValue) (c : Contains (authorised_rows n rows) r). contains_from_member (raw_rows rows) r (all_member place_cmp (Member (raw_rows rows)) (authorised_rows n rows) (kept_all (Member (raw_rows rows)) rows (all_held (raw_rows rows))) r (member_from_contains (authorised_rows n rows) r c)) in
      (order_of_live n (authorised_rows n rows) (of_namespace rows)).0
      ((order_decides (authorised_rows n rows)).1 (record { rising = kept_rising rows was.rising; undominated = λ r s c d dominates. was.undominated r s (held r c) (held s d) dominates }))
