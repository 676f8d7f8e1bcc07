-- The least key above a key, and the least path above all extensions of a path.
use Rattle.std.specs.Prelude.{◌≡◌, ℕ, ◌+◌, ◌-◌, min, false, List, [], ◌∷◌, ◌++◌, length, replicate, slice_index, Option, Some, None, nat_lt, nat_le, if◌then◌else◌, IsTrue}
use Rattle.std.specs.Option.{option_map, option_or}
use Rattle.std.specs.Ordering.{is_gt}
use Rattle.std.specs.declared.cmp.Ordering.TheVariants.{Less}
use Rattle.willow_path.specs.declared.limits.TheConstants.{MAX_PART, MAX_TOTAL}
use Rattle.willow_path.specs.Key.{IsKey}
use Rattle.willow_path.specs.Path.{IsPath, is_prefix, part_cmp, path_cmp}

-- ---- what they are

-- the least greater key, or none where no key is greater
pub record IsLeastAboveKey (key after : List ℕ) : Type 0 where
  pub whole : IsKey after
  pub above : part_cmp key after ≡ Less
  pub least : (other : List ℕ) → IsKey other → part_cmp key other ≡ Less → is_gt (part_cmp after other) ≡ false

abbrev pub IsAfterKey : List ℕ → Option (List ℕ) → Type 0
IsAfterKey key None = (other : List ℕ) → IsKey other → part_cmp key other ≡ Less → ⊥
IsAfterKey key (Some after) = IsLeastAboveKey key after

-- greater than every path within the limits that has the path as prefix
abbrev pub IsAbovePrefixed : List (List ℕ) → List (List ℕ) → Type 0
IsAbovePrefixed path other = (longer : List (List ℕ)) → IsPath longer → IsTrue (is_prefix path longer) → path_cmp longer other ≡ Less

-- the least path within the limits that is greater than all that have the path as prefix, or none where none is
pub record IsLeastAbove (path after : List (List ℕ)) : Type 0 where
  pub whole : IsPath after
  pub above : IsAbovePrefixed path after
  pub least : (other : List (List ℕ)) → IsPath other → IsAbovePrefixed path other → is_gt (path_cmp after other) ≡ false

abbrev pub IsAfter : List (List ℕ) → Option (List (List ℕ)) → Type 0
IsAfter path None = (other : List (List ℕ)) → IsPath other → IsAbovePrefixed path other → ⊥
IsAfter path (Some after) = IsLeastAbove path after

-- below the end of a range, which has none where it is open
abbrev pub IsBelow : List (List ℕ) → Option (List (List ℕ)) → Type 0
IsBelow path None = Unit {0}
IsBelow path (Some end) = path_cmp path end ≡ Less

-- ---- how they are found

-- the least greater string of as many bytes: the last byte that can be raised is, and those behind it are 0
unfoldable pub next_bytes : List ℕ → Option (List ℕ)
next_bytes [] = None
next_bytes (b ∷ bs) = option_or (option_map (λ next. b ∷ next) (next_bytes bs)) (if nat_lt b 255 then Some ((b + 1) ∷ replicate (length bs) 0) else None)

-- the string, where its kind is one of a key
abbrev pub if_key : Option (List ℕ) → Option (List ℕ)
if_key None = None
if_key (Some key) = if nat_le (slice_index key 0) 1 then Some key else None

-- the least greater key
abbrev pub key_after : List ℕ → Option (List ℕ)
key_after key = if_key (next_bytes key)

-- cut behind the last byte that can be raised, and that byte raised
unfoldable pub raised : List ℕ → Option (List ℕ)
raised [] = None
raised (b ∷ bs) = option_or (option_map (λ next. b ∷ next) (raised bs)) (if nat_lt b 255 then Some ((b + 1) ∷ []) else None)

-- the least greater component of so many bytes at most
unfoldable pub part_after : ℕ → List ℕ → Option (List ℕ)
part_after limit part = if nat_lt (length part) limit then Some (part ++ 0 ∷ []) else raised part

-- the same for what follows of a path that has room for so many bytes
unfoldable pub after_within : ℕ → List (List ℕ) → Option (List (List ℕ))
after_within room [] = None
after_within room (part ∷ parts) =
    option_or (option_map (λ next. part ∷ next) (after_within (room - length part) parts)) (option_map (λ next. next ∷ []) (part_after (min MAX_PART room) part))

-- the least path above all that have the path as prefix
abbrev pub after : List (List ℕ) → Option (List (List ℕ))
after path = after_within MAX_TOTAL path
