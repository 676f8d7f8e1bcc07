-- When rows were written, with one row more.
use Rattle.std.proofs.Common.{◌≡◌, ℕ, ◌+◌, ◌≤◌, ◌<◌, List, [], ◌∷◌, length, take, drop, get_or, insert, sym, subst, arith}
use Rattle.std.proofs.lemmas.List.{take_more}
use Rattle.std.proofs.lemmas.List.Elements.{All-append, All-cons, All-nil, All-weaker, All-take, All-drop}
use Rattle.willow_entry.specs.Row.{RowValue}
use Rattle.block_store.specs.Times.{AreWritten}

pub none_written : (earliest latest : ℕ) → AreWritten earliest latest []
none_written earliest latest = λ k d h. absurd (omega arith)

module _ (earliest latest first last : ℕ) (below : first ≤ earliest) (above : latest ≤ last) (r : RowValue) (after : first ≤ r.entry.timestamp) (before : r.entry.timestamp ≤ last) where
  abbrev in_old : RowValue → Type 0
  in_old s = (earliest ≤ s.entry.timestamp) × (s.entry.timestamp ≤ latest)

  abbrev in_new : RowValue → Type 0
  in_new s = (first ≤ s.entry.timestamp) × (s.entry.timestamp ≤ last)

  wider : (rows : List RowValue) → AreWritten earliest latest rows → AreWritten first last rows
  wider rows all = All-weaker in_old in_new (λ s h. (omega (arith, h.0), omega (arith, h.1))) rows all

  pub written_insert : (rows : List RowValue) (at : ℕ) → AreWritten earliest latest rows → AreWritten first last (insert rows at r)
  written_insert rows at all =
      let old = wider rows all in
      All-append in_new (take at rows) (r ∷ drop at rows) (All-take in_new at rows old) (All-cons in_new r (drop at rows) (after, before) (All-drop in_new at rows old))

  pub written_more : (rows : List RowValue) (at : ℕ) → at < length rows → get_or rows at r ≡ r → AreWritten earliest latest (take at rows) → AreWritten first last (take (at + 1) rows)
  written_more rows at h is all =
      subst (λ l. AreWritten first last l) (sym (take_more rows at r h))
      (All-append in_new (take at rows) (get_or rows at r ∷ []) (wider (take at rows) all) (All-cons in_new (get_or rows at r) [] (subst in_new (sym is) (after, before)) (All-nil in_new)))
