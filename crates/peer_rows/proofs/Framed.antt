-- The rows that a stream's log holds have frames.
use Rattle.std.proofs.Common.{ℕ, Bool, true, false, cond, List, [], ◌∷◌, ◌++◌, filter, map, refl, subst, inl, inr}
use Rattle.std.specs.List.{AllByRecursion}
use Rattle.willow_entry.specs.Row.{RowValue, is_dominating, place_cmp, live}
use Rattle.willow_entry.proofs.RowLaws.{rows_prune}
use Rattle.willow_entry.proofs.Members.{Member}
use Rattle.willow_entry.proofs.Pruning.{pruned_member}
use Rattle.willow_entry.proofs.Rising.{all_member}
use Rattle.spelling.proofs.Lists.{All-append}
use Rattle.lms_core.specs.Use.{peer_rules}
use Rattle.cap_codec.specs.Rows.{RawValue, row_of, FitsFrame, IsRaw}
use Rattle.cap_codec.proofs.RowReads.{body_short}
use Rattle.auth_entry.specs.Authorised.{is_authorised}
use Rattle.willow_entry.specs.Frame.{HasFrame}
use Rattle.peer_rows.specs.Logged.{authorised_rows}
use Rattle.peer_rows.proofs.AuthorisedRows.{authorised_framed as all_framed}

all_members : (rows : List RowValue) → ((r : RowValue) → Member rows r → HasFrame r) → AllByRecursion HasFrame rows
all_members [] each = tt
all_members (r ∷ rows) each = (each r (inl refl), all_members rows (λ s m. each s (inr m)))

authorised_framed : (n : List ℕ) (rows : List RawValue) → AllByRecursion FitsFrame rows → (r : RowValue) → Member (authorised_rows n rows) r → HasFrame r
authorised_framed n [] fit r m = absurd m
authorised_framed n (x ∷ xs) fit r m = split (is_authorised peer_rules n x) (authorised_framed n xs fit.1 r) m where
  split : (b : Bool) → (Member (authorised_rows n xs) r → HasFrame r) → Member (map row_of (cond b (x ∷ filter (is_authorised peer_rules n) xs) (filter (is_authorised peer_rules n) xs))) r → HasFrame r
  split true more (inl same) = subst HasFrame same (body_short x fit.0)
  split true more (inr k) = more k
  split false more k = more k

pub live_framed : (n : List ℕ) (rows : List RawValue) → AllByRecursion FitsFrame rows → AllByRecursion HasFrame (live (authorised_rows n rows))
live_framed n rows fit = all_members (live (authorised_rows n rows)) (λ r m. authorised_framed n rows fit r (pruned_member is_dominating place_cmp rows_prune (authorised_rows n rows) r m).0)

-- ---- rows of an image, and rows of a stream behind them

raw_rows : (rows : List RawValue) → AllByRecursion FitsFrame rows → AllByRecursion IsRaw rows
raw_rows [] fit = tt
raw_rows (r ∷ rows) fit = (fit.0.raw, raw_rows rows fit.1)

pub live_all_framed : (n : List ℕ) (had rows : List RawValue) → AllByRecursion IsRaw had → AllByRecursion FitsFrame rows → AllByRecursion HasFrame (live (authorised_rows n (had ++ rows)))
live_all_framed n had rows raw fit =
    let framed = all_framed n (had ++ rows) (All-append IsRaw had rows raw (raw_rows rows fit)) in
    all_members (live (authorised_rows n (had ++ rows))) (λ r m. all_member place_cmp HasFrame (authorised_rows n (had ++ rows)) framed r (pruned_member is_dominating place_cmp rows_prune (authorised_rows n (had ++ rows)) r m).0)
