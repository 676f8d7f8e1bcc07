-- Capabilities that rise by their bytes.
use Rattle.std.proofs.Common.{◌≡◌, ◌↔◌, List, [], ◌∷◌, ◌++◌, map, sym, ap, subst, ◌∙◌, Ordering, Less}
use Rattle.std.specs.Cmp.{IsTotalOrder}
use Rattle.std.specs.List.Sorted.{IsStrictlySortedBy}
use Rattle.std.proofs.lemmas.List.{map-append}
use Rattle.spelling.proofs.Lists.{All-append, All-left, All-right}
use Rattle.willow_entry.specs.Entry.{bytes_cmp}
use Rattle.mc_cap.specs.Forms.{capability_spelling}
use Rattle.mc_cap.specs.declared.capability.Capability.{Capability}
use Rattle.peer_image.specs.ImageTwoReading.{AreRising}
use Rattle.peer_image.proofs.LastFronts.{EndsIn}

module _ {X : Type 0} (cmp : X → X → Ordering) where
  -- the first of them rise
  pub up_left : (xs ys : List X) → IsStrictlySortedBy cmp (xs ++ ys) → IsStrictlySortedBy cmp xs
  unfolding IsStrictlySortedBy
  up_left [] ys up = tt
  up_left (x ∷ xs) ys up = (All-left (λ y. cmp x y ≡ Less) xs ys up.0, up_left xs ys up.1)

  -- one more, above the last
  pub up_on : IsTotalOrder cmp → (xs : List X) (last next : X) → IsStrictlySortedBy cmp (xs ++ last ∷ []) → cmp last next ≡ Less → IsStrictlySortedBy cmp ((xs ++ last ∷ []) ++ next ∷ [])
  unfolding IsStrictlySortedBy
  up_on total [] last next up above = ((above, tt), (tt, tt))
  up_on total (x ∷ xs) last next up above =
      let last_above : cmp x last ≡ Less = (All-right (λ y. cmp x y ≡ Less) xs (last ∷ []) up.0).0 in
      (All-append (λ y. cmp x y ≡ Less) (xs ++ last ∷ []) (next ∷ []) up.0 (total.trans x last next last_above above, tt), up_on total xs last next up.1 above)

  -- the last but one is below the last
  pub up_end : (xs : List X) (last next : X) → IsStrictlySortedBy cmp ((xs ++ last ∷ []) ++ next ∷ []) → cmp last next ≡ Less
  unfolding IsStrictlySortedBy
  up_end [] last next up = up.0.0
  up_end (x ∷ xs) last next up = up_end xs last next up.1

pub rising_left : (told more : List Capability) → AreRising (told ++ more) → AreRising told
rising_left told more up = up_left bytes_cmp (map capability_spelling told) (map capability_spelling more) (subst (IsStrictlySortedBy bytes_cmp) (map-append capability_spelling told more) up)

-- one alone rises
pub rising_one : (c : Capability) → AreRising ([] ++ c ∷ [])
unfolding IsStrictlySortedBy
rising_one c = (tt, tt)

-- one more rises just where it stands above the last
module _ (told : List Capability) (last next : Capability) (end : EndsIn told last) where
  spelled_end : map capability_spelling (told ++ next ∷ []) ≡ (map capability_spelling end.front ++ capability_spelling last ∷ []) ++ capability_spelling next ∷ []
  spelled_end =
      map-append capability_spelling told (next ∷ [])
      ∙ ap (λ (l : List Capability). map capability_spelling l ++ capability_spelling next ∷ []) end.parts
      ∙ ap (λ (l : List (List _)). l ++ capability_spelling next ∷ []) (map-append capability_spelling end.front (last ∷ []))

  pub rising_by_last : IsTotalOrder bytes_cmp → AreRising told → (bytes_cmp (capability_spelling last) (capability_spelling next) ≡ Less) ↔ AreRising (told ++ next ∷ [])
  rising_by_last total up =
      let before = map capability_spelling end.front in
      let ends : IsStrictlySortedBy bytes_cmp (before ++ capability_spelling last ∷ []) =
      subst (IsStrictlySortedBy bytes_cmp) (ap (map capability_spelling) end.parts ∙ map-append capability_spelling end.front (last ∷ [])) up in (
        λ above. subst (IsStrictlySortedBy bytes_cmp) (sym spelled_end) (up_on bytes_cmp total before (capability_spelling last) (capability_spelling next) ends above),
        λ all. up_end bytes_cmp before (capability_spelling last) (capability_spelling next) (subst (IsStrictlySortedBy bytes_cmp) spelled_end all),
      )
