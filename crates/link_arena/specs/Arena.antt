-- What a contract sees of an arena: two lists of one set of pairs.
use Rattle.std.specs.Prelude.{◌≡◌, ◌↔◌, ℕ, List, ◌∷◌, ◌++◌, length, map, refl, Contains}
use Rattle.std.specs.List.Sorted.{IsStrictlySortedBy}
use Rattle.std.specs.Coded.{Coded, code_by, coded×, coded_ℕ, coded_list}
use Rattle.std.specs.declared.cmp.Ordering.{Ordering}
use Rattle.link_arena.specs.declared.twice.Order.{Order}
use Rattle.link_arena.specs.declared.twice.Order.TheVariants.{Key, Rank}

-- the pairs of a slot and its value, by rising key and by rising rank, and how many more values take no memory
pub record Arena (T : Type 0) : Type 0 where
  pub by_key : List (ℕ × T)
  pub by_rank : List (ℕ × T)
  pub spare : ℕ

-- an arena is stored as the tuple of its fields
abbrev pub arena_code : {T : Type 0} → Coded T → Coded (Arena T)
arena_code {T} code =
    code_by
    (List (ℕ × T) × (List (ℕ × T) × ℕ))
    (coded× (coded_list (coded× coded_ℕ code)) (coded× (coded_list (coded× coded_ℕ code)) coded_ℕ))
    (λ a. (a.by_key, (a.by_rank, a.spare)))
    (λ p. record { by_key = p.0; by_rank = p.1.0; spare = p.1.1 })
    (λ _. refl)

module _ {T : Type 0} where
  -- the list of one order
  abbrev pub in_order : Order → Arena T → List (ℕ × T)
  in_order Key arena = arena.by_key
  in_order Rank arena = arena.by_rank

  -- the slots of a list
  abbrev pub slots_in : List (ℕ × T) → List ℕ
  slots_in pairs = map (λ pair. pair.0) pairs

  -- the slot holds the value
  abbrev pub Holds : Arena T → ℕ → T → Type 0
  Holds arena slot value = Contains arena.by_key (slot, value)

  -- the slot holds no value
  abbrev pub IsVacant : Arena T → ℕ → Type 0
  IsVacant arena slot = (value : T) → ¬ Holds arena slot value

  -- one more pair stands in the second list, and the others stand as in the first
  pub record IsOneMore (fewer : List (ℕ × T)) (pair : ℕ × T) (more : List (ℕ × T)) : Type 0 where
    pub first : List (ℕ × T)
    pub last : List (ℕ × T)
    pub before : fewer ≡ first ++ last
    pub after : more ≡ first ++ pair ∷ last

  -- the two lists have the same pairs, each slot once, and rise by key and by rank
  pub record AreTwoOrders (cmp : Order → T → T → Ordering) (arena : Arena T) : Type 0 where
    pub rises : (order : Order) → IsStrictlySortedBy (λ a b. cmp order a.1 b.1) (in_order order arena)
    pub same : (pair : ℕ × T) → Contains arena.by_key pair ↔ Contains arena.by_rank pair
    pub apart : (slot : ℕ) (a b : T) → Holds arena slot a → Holds arena slot b → a ≡ b
    pub sizes : length arena.by_key ≡ length arena.by_rank
