-- The rank of an entry: what decides which of two entries is newer.
use Rattle.std.specs.Prelude.{ℕ, List}
use Rattle.std.specs.Ordering.{nat_cmp, ordering_then}
use Rattle.std.specs.Cmp.Lexicographic.{slice_cmp}
use Rattle.std.specs.declared.cmp.Ordering.{Ordering}

-- the order of byte strings
abbrev pub bytes_cmp : List ℕ → List ℕ → Ordering
bytes_cmp = slice_cmp nat_cmp

-- what contracts see of a rank: the timestamp, the payload's digest and the payload's length
pub record RankValue : Type 0 where
  pub timestamp : ℕ
  pub digest : List ℕ
  pub length : ℕ

-- by timestamp, then by digest, then by payload length
unfoldable pub rank_cmp : RankValue → RankValue → Ordering
rank_cmp r s = ordering_then (nat_cmp r.timestamp s.timestamp) (ordering_then (bytes_cmp r.digest s.digest) (nat_cmp r.length s.length))
