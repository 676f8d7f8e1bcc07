-- Entries: which are the same, and which of two is newer.
use Rattle.std.specs.Prelude.{◌≡◌, ℕ, ◌<◌, Bool, ◌&&◌, ◌⊎◌, List, nat_eq, ◌==◌}
use Rattle.std.specs.Ordering.{is_gt}
use Rattle.std.specs.Cmp.Lexicographic.{pointwise}
use Rattle.std.specs.declared.cmp.Ordering.{Ordering}
use Rattle.std.specs.declared.cmp.Ordering.TheVariants.{Greater}
use Rattle.willow_entry.specs.declared.entry.Entry.{Entry}
pub use Rattle.willow_entry.specs.Rank.{bytes_cmp}
use Rattle.willow_entry.specs.Rank.{RankValue, rank_cmp}

-- two byte strings are equal
abbrev pub same_bytes : List ℕ → List ℕ → Bool
same_bytes = pointwise nat_eq

-- the rank of an entry
abbrev pub rank_of : Entry → RankValue
rank_of e = record { timestamp = e.timestamp; digest = e.digest.0; length = e.length }

-- by rank
abbrev pub entry_rank_cmp : Entry → Entry → Ordering
entry_rank_cmp e f = rank_cmp (rank_of e) (rank_of f)

-- e ranks above f
unfoldable pub is_newer : Entry → Entry → Bool
is_newer e f = is_gt (entry_rank_cmp e f)

-- all six fields are equal
unfoldable pub same_entry : Entry → Entry → Bool
same_entry e f =
    same_bytes e.namespace f.namespace
    && (same_bytes e.subspace f.subspace
    && (pointwise same_bytes e.path f.path
    && (e.timestamp == f.timestamp
    && (e.length == f.length
    && same_bytes e.digest.0 f.digest.0))))

-- a byte string is above another: it goes on behind it, or the first bytes that differ are above
abbrev pub IsAbove : List ℕ → List ℕ → Type 0
IsAbove a b = bytes_cmp a b ≡ Greater

-- a greater timestamp; or equal ones and a greater digest; or both equal and a longer payload
abbrev pub IsNewer : Entry → Entry → Type 0
IsNewer e f =
    (f.timestamp < e.timestamp)
    ⊎ ((e.timestamp ≡ f.timestamp) × IsAbove e.digest.0 f.digest.0)
    ⊎ ((e.timestamp ≡ f.timestamp) × (e.digest.0 ≡ f.digest.0) × (f.length < e.length))
