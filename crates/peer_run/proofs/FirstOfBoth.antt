-- The first refused row of two images, counted over both.
use Rattle.std.proofs.Common.{◌≡◌, ℕ, ◌+◌, ◌<◌, ◌≤◌, ◌^◌, List, [], ◌∷◌, ◌++◌, length, Option, Some, None, option_map, refl, sym, ap, ◌∙◌, arith}
use Rattle.std.specs.Prelude.{IfSome}
use Rattle.spelling.specs.Answers.{or_else, first_some}
use Rattle.spelling.proofs.Causes.{first_some-append}
use Rattle.lms_core.specs.Use.{peer_rules}
use Rattle.cap_codec.specs.Rows.{RawValue}
use Rattle.auth_entry.specs.Authorised.{row_refusal}
use Rattle.mc_cap.specs.declared.refusal.RefusedRow.{RefusedRow}
use Rattle.mc_cap.specs.declared.refusal.RowRefusal.{RowRefusal}
use Rattle.peer_rows.specs.Logged.{numbered_refusal, first_refused}
use Rattle.peer_run.specs.ImagesMet.{refused_behind}

-- a refusal with its row's number
abbrev number : ℕ → RowRefusal → RefusedRow
number k refusal = record { row = k; refusal = refusal }

-- rows that are counted up from later have later numbers
shifted : (n : List ℕ) (k before : ℕ) (rows : List RawValue) → first_some (numbered_refusal n) (k + before) rows ≡ refused_behind before (first_some (numbered_refusal n) k rows)
unfolding first_some
shifted n k before [] = refl
shifted n k before (r ∷ rows) = go (row_refusal peer_rules n r) (shifted n (k + 1) before rows) where
  same : (k + before) + 1 ≡ (k + 1) + before
  same = omega arith

  number_is : k + before ≡ before + k
  number_is = omega arith

  go : (o : Option RowRefusal) → first_some (numbered_refusal n) ((k + 1) + before) rows ≡ refused_behind before (first_some (numbered_refusal n) (k + 1) rows)
      → or_else (option_map (number (k + before)) o) (first_some (numbered_refusal n) ((k + before) + 1) rows) ≡ refused_behind before (or_else (option_map (number k) o) (first_some (numbered_refusal n) (k + 1) rows))
  go (Some refusal) rest = ap (λ (m : ℕ). Some (number m refusal)) number_is
  go None rest = ap (λ (m : ℕ). first_some (numbered_refusal n) m rows) same ∙ rest

pub first_behind : (n : List ℕ) (left right : List RawValue) (before : ℕ) → before ≡ length left → or_else (first_refused n left) (refused_behind before (first_refused n right)) ≡ first_refused n (left ++ right)
first_behind n left right before is =
    ap (λ (m : ℕ). or_else (first_refused n left) (refused_behind m (first_refused n right))) is
    ∙ sym (first_some-append (numbered_refusal n) 1 left right ∙ ap (or_else (first_refused n left)) (shifted n 1 (length left) right))

-- a refused row has a number among those that are counted
numbered_low : (n : List ℕ) (k : ℕ) (rows : List RawValue) (first : RefusedRow) → first_some (numbered_refusal n) k rows ≡ Some first → first.row < k + length rows
unfolding first_some
numbered_low n k [] first found = absurd cc
numbered_low n k (r ∷ rows) first found = go (row_refusal peer_rules n r) (numbered_low n (k + 1) rows first) found where
  go : (o : Option RowRefusal) → (first_some (numbered_refusal n) (k + 1) rows ≡ Some first → first.row < (k + 1) + length rows) → or_else (option_map (number k) o) (first_some (numbered_refusal n) (k + 1) rows) ≡ Some first → first.row < k + length (r ∷ rows)
  go (Some refusal) rest is =
      let same : number k refusal ≡ first = cc in
      omega (arith, ap (λ (f : RefusedRow). f.row) same)
  go None rest is = omega (arith, rest is)

pub first_low : (n : List ℕ) (rows : List RawValue) (first : RefusedRow) → first_refused n rows ≡ Some first → first.row ≤ length rows
first_low n rows first found = omega (arith, numbered_low n 1 rows first found)

-- of rows fewer than four bytes can tell the first refused one, where there is one, has a number below that too
pub first_few : (n : List ℕ) (rows : List RawValue) (o : Option RefusedRow) → o ≡ first_refused n rows → length rows < 2 ^ 32 → IfSome o (λ first. first.row < 2 ^ 32)
first_few n rows None is few = tt
first_few n rows (Some first) is few = omega (arith, first_low n rows first (sym is), few)
