-- The walk over items by recency, up to where limits end it.
use Rattle.std.proofs.Common.{◌≡◌, ℕ, suc, ◌+◌, ◌*◌, ◌≤◌, true, false, ◌&&◌, cond, List, [], ◌∷◌, ◌++◌, length, take, drop, Option, None, Some, Bor, refl, sym, ap, ◌∙◌, subst, arith, Contains, append-nil, append_assoc}
use Rattle.std.specs.Prelude.{slice_get}
use Rattle.std.proofs.lemmas.Option.{slice_get_within, get_or_from_slice_get}
use Rattle.recency_index.specs.declared.ranked.Ranked.{Ranked}
use Rattle.area_interest.specs.Interest.{is_within, front}
use Rattle.area_interest.specs.Kept.{LastOf, item_size}
use Rattle.area_interest.proofs.Lists.{drop_at, take_at, none_behind, none_at}

-- ---- so far

-- the first items are left, and the limits go on behind them
pub record IsWalk (items : List Ranked) (slots : List ℕ) (count bytes : Option ℕ) (taken sum : ℕ) (at : Option ℕ) (last : Option (Bor Ranked)) : Type 0 where
  pub at_is : at ≡ slice_get slots taken
  pub small : sum ≤ taken * 18446744073709551615
  pub goes_on : front item_size count bytes 0 0 items ≡ take taken items ++ front item_size count bytes taken sum (drop taken items)
  pub last_is : LastOf (take taken items) last

pub begun : (items : List Ranked) (slots : List ℕ) (count bytes : Option ℕ) (at : Option ℕ) → at ≡ slice_get slots 0 → IsWalk items slots count bytes 0 0 at None
begun items slots count bytes at is = record { at_is = is; small = omega arith; goes_on = refl; last_is = refl }

module _ (items : List Ranked) (slots : List ℕ) (count bytes : Option ℕ) (taken sum : ℕ) (at : Option ℕ) (last : Option (Bor Ranked)) (walk : IsWalk items slots count bytes taken sum at last) where
  ends : front item_size count bytes taken sum (drop taken items) ≡ [] → LastOf (front item_size count bytes 0 0 items) last
  ends none = subst (λ l. LastOf l last) (sym (walk.goes_on ∙ ap (λ l. take taken items ++ l) none ∙ append-nil (take taken items))) walk.last_is

  -- all items are left
  pub ends_behind_all : length items ≤ taken → LastOf (front item_size count bytes 0 0 items) last
  ends_behind_all le = ends (ap (front item_size count bytes taken sum) (none_behind items taken le))

  pub ends_at_last : length slots ≡ length items → at ≡ None → LastOf (front item_size count bytes 0 0 items) last
  ends_at_last many none = ends_behind_all (omega (arith, many, none_at slots taken (sym walk.at_is ∙ none)))

  module _ (item : Ranked) (here : slice_get items taken ≡ Some item) where
    left_is : front item_size count bytes taken sum (drop taken items) ≡ cond (is_within count (taken + 1) && is_within bytes (sum + item.length)) (item ∷ front item_size count bytes (taken + 1) (sum + item.length) (drop (suc taken) items)) []
    left_is = ap (front item_size count bytes taken sum) (drop_at items taken item here)

    pub ends_at_limit : (is_within count (taken + 1) && is_within bytes (sum + item.length)) ≡ false → LastOf (front item_size count bytes 0 0 items) last
    ends_at_limit past = ends (left_is ∙ ap (λ b. cond b (item ∷ front item_size count bytes (taken + 1) (sum + item.length) (drop (suc taken) items)) []) past)

    pub goes_past : (held : Bor Ranked) (next : Option ℕ) → held.now ≡ item → (is_within count (taken + 1) && is_within bytes (sum + item.length)) ≡ true → item.length ≤ 18446744073709551615 → next ≡ slice_get slots (taken + 1)
        → IsWalk items slots count bytes (taken + 1) (sum + item.length) next (Some held)
    goes_past held next same within short next_is =
        let more : suc taken ≡ taken + 1 = omega arith in
        let one : take (taken + 1) items ≡ take taken items ++ item ∷ [] = ap (λ n. take n items) (sym more) ∙ take_at items taken item here in
        record {
          at_is = next_is;
          small = omega (arith, walk.small, short);
          goes_on =
              walk.goes_on
              ∙ ap (λ l. take taken items ++ l) (left_is ∙ ap (λ b. cond b (item ∷ front item_size count bytes (taken + 1) (sum + item.length) (drop (suc taken) items)) []) within)
              ∙ sym (append_assoc (take taken items) (item ∷ []) (front item_size count bytes (taken + 1) (sum + item.length) (drop (suc taken) items)))
              ∙ ap (λ l. l ++ front item_size count bytes (taken + 1) (sum + item.length) (drop (suc taken) items)) (sym one)
              ∙ ap (λ n. take (taken + 1) items ++ front item_size count bytes (taken + 1) (sum + item.length) (drop n items)) more;
          last_is = (take taken items, one ∙ ap (λ i. take taken items ++ i ∷ []) (sym same));
        }

-- a slot of the order is one of the index
pub slot_there : (slots : List ℕ) (n slot : ℕ) → slice_get slots n ≡ Some slot → Contains slots slot
slot_there slots n slot e = (n, slice_get_within slots n slot e, get_or_from_slice_get slots n slot slot e)
