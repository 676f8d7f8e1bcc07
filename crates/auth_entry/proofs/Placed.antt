-- Capabilities in a list that grows, found by their bytes.
use Rattle.std.proofs.Common.{◌≡◌, ◌<◌, ℕ, zero, suc, Bool, true, false, cond, List, [], ◌∷◌, ◌++◌, map, length, Option, Some, refl, sym, ap, subst, ◌∙◌, arith}
use Rattle.std.specs.Prelude.{slice_get, IfSome}
use Rattle.std.specs.BTreeMap.{BTreeMap}
use Rattle.std.specs.Borrow.{Bor}
use Rattle.std.specs.Cmp.Lexicographic.{slice_cmp, bytes_decides}
use Rattle.std.specs.Map.{lookup}
use Rattle.std.specs.Ordering.{is_eq, nat_cmp}
use Rattle.std.proofs.lemmas.Map.Text.{is_eq-slice_cmp}
use Rattle.spelling.proofs.Joining.{one_spelling}
use Rattle.mc_cap.specs.Forms.{capability_spelling, IsCapability}
use Rattle.mc_cap.specs.declared.capability.Capability.{Capability}
use Rattle.cap_codec.specs.Rows.{RawValue}
use Rattle.cap_codec.proofs.CapReads.{capability-reads}
use Rattle.auth_entry.specs.Places.{carried, place_at, ArePlaces}

module _ {X : Type 0} where
  pub got_within : (xs : List X) (at : ℕ) (x : X) → slice_get xs at ≡ Some x → at < length xs
  got_within [] at x h = absurd cc
  got_within (y ∷ xs) zero x h = omega arith
  got_within (y ∷ xs) (suc at) x h = let rest = got_within xs at x h in omega arith

  got_more : (xs ys : List X) (at : ℕ) (x : X) → slice_get xs at ≡ Some x → slice_get (xs ++ ys) at ≡ Some x
  got_more [] ys at x h = absurd cc
  got_more (y ∷ xs) ys zero x h = h
  got_more (y ∷ xs) ys (suc at) x h = got_more xs ys at x h

  got_last : (xs : List X) (x : X) → slice_get (xs ++ x ∷ []) (length xs) ≡ Some x
  got_last [] x = refl
  got_last (y ∷ xs) x = got_last xs x

module _ {X Y : Type 0} (f : X → Y) where
  map_more : (xs ys : List X) → map f (xs ++ ys) ≡ map f xs ++ map f ys
  map_more [] ys = refl
  map_more (x ∷ xs) ys = ap (λ (l : List Y). f x ∷ l) (map_more xs ys)

  length_same : (xs : List X) → length (map f xs) ≡ length xs
  length_same [] = refl
  length_same (x ∷ xs) = ap suc (length_same xs)

  pub mapped_within : (xs : List X) (at : ℕ) (y : Y) → slice_get (map f xs) at ≡ Some y → at < length xs
  mapped_within xs at y h = subst (λ (n : ℕ). at < n) (length_same xs) (got_within (map f xs) at y h)

  pub mapped_more : (xs ys : List X) (at : ℕ) (y : Y) → slice_get (map f xs) at ≡ Some y → slice_get (map f (xs ++ ys)) at ≡ Some y
  mapped_more xs ys at y h = subst (λ (l : List Y). slice_get l at ≡ Some y) (sym (map_more xs ys)) (got_more (map f xs) (map f ys) at y h)

  pub mapped_last : (xs : List X) (x : X) → slice_get (map f (xs ++ x ∷ [])) (length xs) ≡ Some (f x)
  mapped_last [] x = refl
  mapped_last (y ∷ xs) x = mapped_last xs x

-- bytes that compare as equal are the same
same_bytes_where_equal : (a b : List ℕ) → is_eq (slice_cmp nat_cmp a b) ≡ true → a ≡ b
same_bytes_where_equal a b is = (bytes_decides a b).0 (sym (is_eq-slice_cmp a b) ∙ is)

-- a spelling is of one capability
spelled_once : (c d : Capability) → IsCapability c → IsCapability d → capability_spelling c ≡ capability_spelling d → c ≡ d
spelled_once c d fits fits' same = (one_spelling capability-reads c d [] [] fits fits' (ap (λ (l : List ℕ). l ++ []) same)).0

-- where its bytes stand, the capability does
pub at_place : (cs : List Capability) (at : ℕ) (c : Capability) (bytes : List ℕ) → slice_get (map capability_spelling cs) at ≡ Some bytes → bytes ≡ capability_spelling c
    → IsCapability c → IfSome (slice_get cs at) IsCapability → slice_get cs at ≡ Some c
at_place [] at c bytes h same fits known = absurd cc
at_place (d ∷ cs) zero c bytes h same fits known =
    let spelled : capability_spelling d ≡ bytes = cc in
    ap Some (spelled_once d c known fits (spelled ∙ same))
at_place (d ∷ cs) (suc at) c bytes h same fits known = at_place cs at c bytes h same fits known

-- the places of one row more
module _ (rows : List (Bor RawValue)) (row : Bor RawValue) where
  spelled_of : Bor RawValue → List ℕ
  spelled_of r = capability_spelling r.now.token.capability

  pub more_spelled : (at : ℕ) (bytes : List ℕ) → slice_get (map capability_spelling (carried rows)) at ≡ Some bytes
      → slice_get (map capability_spelling (carried (rows ++ row ∷ []))) at ≡ Some bytes
  more_spelled at bytes h =
      subst (λ (l : List Capability). slice_get (map capability_spelling l) at ≡ Some bytes) (sym (map_more (λ (r : Bor RawValue). r.now.token.capability) rows (row ∷ [])))
      (mapped_more capability_spelling (carried rows) (carried (row ∷ [])) at bytes h)

  pub last_spelled : slice_get (map capability_spelling (carried (rows ++ row ∷ []))) (length rows) ≡ Some (capability_spelling row.now.token.capability)
  last_spelled = go rows
    where
      go : (rs : List (Bor RawValue)) → slice_get (map capability_spelling (carried (rs ++ row ∷ []))) (length rs) ≡ Some (capability_spelling row.now.token.capability)
      go [] = refl
      go (r ∷ rs) = go rs

  chosen : (place : ℕ) → place ≡ length rows → (key bytes : List ℕ) (same : Bool) (old : Option ℕ) (at : ℕ) → is_eq (slice_cmp nat_cmp key bytes) ≡ same → key ≡ capability_spelling row.now.token.capability
      → (old ≡ Some at → slice_get (map capability_spelling (carried rows)) at ≡ Some bytes)
      → cond same (Some place) old ≡ Some at → slice_get (map capability_spelling (carried (rows ++ row ∷ []))) at ≡ Some bytes
  chosen place last key bytes true old at is spelled before h =
      let there : place ≡ at = cc in
      let here : length rows ≡ at = sym last ∙ there in
      let bytes_are : capability_spelling row.now.token.capability ≡ bytes = sym spelled ∙ same_bytes_where_equal key bytes is in
      subst (λ (k : ℕ). slice_get (map capability_spelling (carried (rows ++ row ∷ []))) k ≡ Some bytes) here (last_spelled ∙ ap Some bytes_are)
  chosen place last key bytes false old at is spelled before h = more_spelled at bytes (before h)

  pub places_more : (old new : BTreeMap (Bor (List ℕ)) ℕ) (key : Bor (List ℕ)) (place : ℕ) → place ≡ length rows → ArePlaces rows old → key.now ≡ capability_spelling row.now.token.capability
      → ((bytes : Bor (List ℕ)) → place_at new bytes ≡ cond (is_eq (slice_cmp nat_cmp key.now bytes.now)) (Some place) (place_at old bytes))
      → ArePlaces (rows ++ row ∷ []) new
  places_more old new key place last places spelled updates bytes at h =
      chosen place last key.now bytes.now (is_eq (slice_cmp nat_cmp key.now bytes.now)) (place_at old bytes) at refl spelled (places bytes at) (sym (updates bytes) ∙ h)

  -- the places of the same capabilities, where the table stays as it was
  pub places_stay : (old new : BTreeMap (Bor (List ℕ)) ℕ) → ArePlaces rows old → new.entries ≡ old.entries → ArePlaces (rows ++ row ∷ []) new
  places_stay old new places same bytes at h =
      more_spelled at bytes.now (places bytes at (ap (λ l. lookup (λ (key : Bor (List ℕ)). is_eq (slice_cmp nat_cmp bytes.now key.now)) l) (sym same) ∙ h))

  -- where the capabilities stand after a row more
  pub stay_more : (view : List Capability) (now : List (Bor RawValue)) → carried rows ≡ view → now ≡ rows ++ row ∷ [] → (at : ℕ) (c : Capability)
      → slice_get view at ≡ Some c → slice_get (carried now) at ≡ Some c
  stay_more view now same is at c h =
      subst (λ (l : List (Bor RawValue)). slice_get (carried l) at ≡ Some c) (sym is)
      (mapped_more (λ (r : Bor RawValue). r.now.token.capability) rows (row ∷ []) at c (subst (λ (l : List Capability). slice_get l at ≡ Some c) (sym same) h))

  pub last_more : (now : List (Bor RawValue)) (k : ℕ) → now ≡ rows ++ row ∷ [] → k ≡ length rows → slice_get (carried now) k ≡ Some row.now.token.capability
  last_more now k is last =
      subst (λ (l : List (Bor RawValue)). slice_get (carried l) k ≡ Some row.now.token.capability) (sym is)
      (subst (λ (i : ℕ). slice_get (carried (rows ++ row ∷ [])) i ≡ Some row.now.token.capability) (sym last) (mapped_last (λ (r : Bor RawValue). r.now.token.capability) rows row))
