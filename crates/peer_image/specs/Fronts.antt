-- The rows at the prefixes of a row among those before it, with their numbers.
use Rattle.std.specs.Prelude.{◌≡◌, ◌↔◌, ℕ, ◌+◌, Bool, ◌&&◌, List, [], ◌∷◌, ◌++◌, length, Option, Some, None, filter, if◌then◌else◌}
use Rattle.std.specs.List.{AllByRecursion, last_or}
use Rattle.std.specs.declared.cmp.Ordering.TheVariants.{Less}
use Rattle.willow_path.specs.Path.{is_prefix}
use Rattle.willow_entry.specs.Entry.{same_bytes}
use Rattle.willow_entry.specs.Row.{RowValue, is_dominating, inner_place_cmp}
use Rattle.peer_image.specs.Order.{order_refusal, IsInnerRising}
use Rattle.peer_image.specs.declared.order.Front.{Front}

-- a row and its number
pub record Seen : Type 0 where
  pub at : ℕ
  pub row : RowValue

-- what is seen of a front: its number, and its row's value
abbrev pub seen : {R : Type 0} → (R → RowValue) → Front R → Seen
seen value f = record { at = f.at; row = value f.row.now }

-- the rows, numbered from k on
unfoldable pub numbered : ℕ → List RowValue → List Seen
numbered k [] = []
numbered k (r ∷ rows) = record { at = k; row = r } ∷ numbered (k + 1) rows

-- r stands in the subspace of s, at a prefix of its path, whatever namespaces they are of
unfoldable pub is_at_inner_prefix : RowValue → RowValue → Bool
is_at_inner_prefix r s = same_bytes r.entry.subspace s.entry.subspace && is_prefix r.entry.path s.entry.path

-- those that stand at prefixes of r
abbrev pub fronts_of : RowValue → List Seen → List Seen
fronts_of r = filter (λ s. is_at_inner_prefix s.row r)

-- the number of the first that dominates r
unfoldable pub first_dominating : RowValue → List Seen → Option ℕ
first_dominating r [] = None
first_dominating r (s ∷ seen) = if is_dominating s.row r then Some s.at else first_dominating r seen

-- for each row above the earlier ones, the kept ones have all that stand at its prefixes
abbrev pub Suffices : List RowValue → List Seen → Type 0
Suffices earlier kept = (r : RowValue) → AllByRecursion (λ s. inner_place_cmp s r ≡ Less) earlier → fronts_of r kept ≡ fronts_of r (numbered 1 earlier)

-- So many rows stand before these, and all of them rise. Of the earlier ones those are kept that may dominate one.
pub record StandBehind (earlier : List RowValue) (kept : List Seen) (before : ℕ) (rows : List RowValue) : Type 0 where
  pub counted : before ≡ length earlier
  pub sufficient : Suffices earlier kept
  pub rising : IsInnerRising (earlier ++ rows)

-- ---- a part at a time

-- those of the rows that stand at prefixes of this one, none without one
abbrev pub at_prefixes_of : Option RowValue → List RowValue → List RowValue
at_prefixes_of None rows = []
at_prefixes_of (Some last) rows = filter (λ r. is_at_inner_prefix r last) rows

-- those of the rows that stand at prefixes of the last of them, itself among these
abbrev pub last_fronts : List RowValue → List RowValue
last_fronts rows = at_prefixes_of (last_or None rows) rows

-- Where rows are not refused for their order, whether further ones are behind them shows behind the fronts of the last
-- alone.
abbrev pub FrontsDecideOrder : Type 0
FrontsDecideOrder = (rows more : List RowValue) → order_refusal rows ≡ None → (order_refusal (rows ++ more) ≡ None) ↔ (order_refusal (last_fronts rows ++ more) ≡ None)

-- Where none are, the fronts of the last of all are found among the fronts of the first rows and the further rows.
abbrev pub FrontsGoOn : Type 0
FrontsGoOn = (rows more : List RowValue) → order_refusal (rows ++ more) ≡ None → last_fronts (rows ++ more) ≡ last_fronts (last_fronts rows ++ more)
