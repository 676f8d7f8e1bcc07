-- Rows: entries with the bytes of their write tokens; which dominate which, and what a set of rows keeps.
use Rattle.std.specs.Prelude.{◌≡◌, ℕ, Bool, ◌&&◌, ◌||◌, ◌⊎◌, List, [], ◌++◌, ◌<◌, length, slice_index_or, Contains, ◌↔◌, filter, not}
use Rattle.std.specs.Ordering.{ordering_then, is_gt}
use Rattle.std.specs.List.Sorted.{IsStrictlySortedBy}
use Rattle.std.specs.declared.cmp.Ordering.{Ordering}
use Rattle.willow_path.specs.Path.{is_prefix, IsPrefix, path_cmp}
use Rattle.willow_entry.specs.declared.entry.Entry.{Entry}
use Rattle.willow_entry.specs.Entry.{bytes_cmp, same_bytes, is_newer, same_entry, IsNewer, IsAbove}
use Rattle.willow_entry.specs.Pruning.{pruned, new_after}

-- what contracts see of a row: its entry, and the bytes of its write token
pub record RowValue : Type 0 where
  pub entry : Entry
  pub token : List ℕ

-- the same entry with the same token
unfoldable pub same_row : RowValue → RowValue → Bool
same_row r s = same_entry r.entry s.entry && same_bytes r.token s.token

-- a newer entry, or the same entry with a greater token
unfoldable pub is_stronger : RowValue → RowValue → Bool
is_stronger r s = is_newer r.entry s.entry || (same_entry r.entry s.entry && is_gt (bytes_cmp r.token s.token))

-- r stands in the namespace and subspace of s, at a prefix of its path, and is stronger
unfoldable pub is_dominating : RowValue → RowValue → Bool
is_dominating r s =
    same_bytes r.entry.namespace s.entry.namespace
    && (same_bytes r.entry.subspace s.entry.subspace
    && (is_prefix r.entry.path s.entry.path && is_stronger r s))

-- r stands in the namespace and subspace of s, at a prefix of its path
unfoldable pub is_at_prefix : RowValue → RowValue → Bool
is_at_prefix r s =
    same_bytes r.entry.namespace s.entry.namespace && (same_bytes r.entry.subspace s.entry.subspace && is_prefix r.entry.path s.entry.path)

-- r is s or dominates it
unfoldable pub is_covering : RowValue → RowValue → Bool
is_covering r s = same_row r s || is_dominating r s

-- by subspace, then by path: the order of places within a namespace
abbrev pub subspace_path_cmp : List ℕ × List (List ℕ) → List ℕ × List (List ℕ) → Ordering
subspace_path_cmp p q = ordering_then (bytes_cmp p.0 q.0) (path_cmp p.1 q.1)

-- the order of rows within a namespace, whatever namespaces they are of
abbrev pub inner_place_cmp : RowValue → RowValue → Ordering
inner_place_cmp r s = subspace_path_cmp (r.entry.subspace, r.entry.path) (s.entry.subspace, s.entry.path)

-- by namespace, then by the place within it
unfoldable pub place_cmp : RowValue → RowValue → Ordering
place_cmp r s = ordering_then (bytes_cmp r.entry.namespace s.entry.namespace) (inner_place_cmp r s)

-- the rows that r does not dominate
abbrev pub left_of : RowValue → List RowValue → List RowValue
left_of r rows = filter (λ s. not (is_dominating r s)) rows

-- the rows that no row of the list dominates, each once, by rising place
abbrev pub live : List RowValue → List RowValue
live = pruned is_dominating place_cmp

-- the rows are just what is live of them
abbrev pub AreLive : List RowValue → Type 0
AreLive rows = live rows ≡ rows

-- in the list's order, each row that no row before it covers
abbrev pub new : List RowValue → List RowValue
new = new_after is_covering []

-- what two sets of rows keep together
abbrev pub join : List RowValue → List RowValue → List RowValue
join xs ys = live (xs ++ ys)

-- ---- what these mean

-- r dominates s: it stands in the same namespace and subspace, at a prefix of the path of s, and its entry
-- is newer, or the entries are equal and its token is greater
pub record Dominates (r s : RowValue) : Type 0 where
  pub namespace : r.entry.namespace ≡ s.entry.namespace
  pub subspace : r.entry.subspace ≡ s.entry.subspace
  pub path : IsPrefix r.entry.path s.entry.path
  pub stronger : IsNewer r.entry s.entry ⊎ ((r.entry ≡ s.entry) × IsAbove r.token s.token)

-- the list holds a row that is s or dominates it
abbrev pub HasCovering : List RowValue → RowValue → Type 0
HasCovering rows s = (r : RowValue) × Contains rows r × ((r ≡ s) ⊎ Dominates r s)

-- the row of the list at place i is s or dominates it
pub record IsCoveringAt (rows : List RowValue) (i : ℕ) (s : RowValue) : Type 0 where
  pub within : i < length rows
  pub covers : (slice_index_or rows i s ≡ s) ⊎ Dominates (slice_index_or rows i s) s

-- no row of the list dominates s
abbrev pub IsUndominatedBy : List RowValue → RowValue → Type 0
IsUndominatedBy rows s = (r : RowValue) → Contains rows r → Dominates r s → ⊥

-- by strictly rising places, so that no two stand at one place
abbrev pub IsRising : List RowValue → Type 0
IsRising = IsStrictlySortedBy place_cmp

-- the kept rows rise, and are just those rows that no row dominates
pub record IsLive (rows kept : List RowValue) : Type 0 where
  pub is_rising : IsRising kept
  pub members : (r : RowValue) → Contains kept r ↔ (Contains rows r × IsUndominatedBy rows r)
