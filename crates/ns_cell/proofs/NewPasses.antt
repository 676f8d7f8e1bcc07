-- The passes of a new cell.
use Rattle.std.proofs.Common.{◌≡◌, ℕ, zero, suc, ◌+◌, ◌<◌, List, [], ◌∷◌, ◌++◌, length, sym, refl, ap, ap₂, ◌∙◌, subst, arith, All}
use Rattle.std.specs.List.{AllByRecursion}
use Rattle.std.proofs.lemmas.List.Elements.{All-from_recursion}
use Rattle.atomic_table.specs.Seated.{TableId}
use Rattle.willow_entry.specs.Row.{RowValue}
use Rattle.willow_entry.specs.declared.row.LogRow.{LogRow}
use Rattle.ns_state.specs.Log.{IsLog}
use Rattle.log_rule.specs.declared.view.CellFacts.{CellFacts}
use Rattle.log_rule.specs.declared.view.View.{View}
use Rattle.log_rule.specs.declared.view.Book.{Book}
use Rattle.log_rule.specs.Views.{rows_of_pass, AreOf}
use Rattle.log_rule.specs.Steps.{first_view, made_view}
use Rattle.log_rule.proofs.Books.{rows_of_pass-own, rows_of_pass-other}
use Rattle.ns_cell.specs.Passes.{CellValue, PassValue, IsPassOf, new_pass, new_passes}
use Rattle.ns_cell.specs.Seats.{Place, own_of, cell_at, pass_of, IsAtRest}

module _ {R : Type 0} (value : R → RowValue) (cell : CellFacts) (log : List (LogRow R)) where
  -- the first view while passes are made of it
  abbrev pub maker : ℕ → ℕ → Place R
  maker parts made = (record (first_view cell log) { parts = parts; made = made }, [])

  -- a pass that was made
  pub made_rests : (number : ℕ) (view : View R) (me : Place R) → AreOf 0 log → IsLog value cell.namespace log → 0 < number → view.made ≡ number → view.seen ≡ log → view.cell ≡ cell → me ≡ (made_view view, []) → IsAtRest value number me
  made_rests number view me are is_log later made front same is =
      let own : own_of me.0.books ≡ [] = ap (λ (m : Place R). own_of m.0.books) is in
      let seen : me.0.seen ≡ log = ap (λ (m : Place R). m.0.seen) is ∙ front in
      let space : me.0.cell.namespace ≡ cell.namespace = ap (λ (m : Place R). m.0.cell.namespace) is ∙ ap (λ (c : CellFacts). c.namespace) same in
      record {
        carries = ap (λ (m : Place R). m.1) is;
        role = ap (λ (m : Place R). m.0.role) is;
        parts = ap (λ (m : Place R). m.0.parts) is;
        books = ap (λ (m : Place R). m.0.books) is ∙ (ap (λ n. let b : Book R = record { number = n; rows = [] } in b ∷ []) made ∙ ap (λ l. let b : Book R = record { number = number; rows = l } in b ∷ []) (sym own));
        own = ap (rows_of_pass number) seen ∙ (rows_of_pass-other number 0 log (λ e. omega arith) are ∙ sym own);
        log = subst (λ n. IsLog value n me.0.seen) (sym space) (subst (IsLog value cell.namespace) (sym seen) is_log);
      }

  pub made_is : (table t : TableId) (number : ℕ) (view : View R) (me : Place R) → 0 < number → view.seen ≡ log → view.cell ≡ cell → me ≡ (made_view view, []) → t ≡ table
      → pass_of t number me ≡ new_pass (cell_at table cell.passes cell.namespace) log number
  made_is table t zero view me later front same is at = absurd (omega arith)
  made_is table t (suc number) view me later front same is at =
      ap₂ (λ (k : TableId) (m : Place R). pass_of k (suc number) m) at is
      ∙ ap₂ (λ (l : List (LogRow R)) (c : CellFacts). let p : PassValue R = record { cell = cell_at table c.passes c.namespace; number = suc number; turns = []; seen = l; own = [] } in p) front same

  -- pass 0
  pub first_rests : (parts made : ℕ) (me : Place R) → AreOf 0 log → IsLog value cell.namespace log → me ≡ maker parts made → parts ≡ 1 → IsAtRest value 0 me
  first_rests parts made me are is_log is one =
      let own : own_of me.0.books ≡ log = ap (λ (m : Place R). own_of m.0.books) is in
      let seen : me.0.seen ≡ log = ap (λ (m : Place R). m.0.seen) is in
      record {
        carries = ap (λ (m : Place R). m.1) is;
        role = ap (λ (m : Place R). m.0.role) is;
        parts = ap (λ (m : Place R). m.0.parts) is ∙ one;
        books = ap (λ (m : Place R). m.0.books) is ∙ ap (λ l. let b : Book R = record { number = 0; rows = l } in b ∷ []) (sym own);
        own = ap (rows_of_pass 0) seen ∙ (rows_of_pass-own 0 log are ∙ sym own);
        log = subst (λ n. IsLog value n me.0.seen) (sym (ap (λ (m : Place R). m.0.cell.namespace) is)) (subst (IsLog value cell.namespace) (sym seen) is_log);
      }

  pub first_is : (table t : TableId) (parts made : ℕ) (me : Place R) → me ≡ maker parts made → t ≡ table → pass_of t 0 me ≡ new_pass (cell_at table cell.passes cell.namespace) log 0
  first_is table t parts made me is at = ap₂ (λ (k : TableId) (m : Place R). pass_of k 0 m) at is

  -- the maker's view, with the parts that it has
  pub remade : (parts made : ℕ) (me : Place R) → me ≡ maker parts made → me ≡ maker me.0.parts made
  remade parts made me is = is ∙ ap (λ n. maker n made) (sym (ap (λ (m : Place R). m.0.parts) is))

module _ {R : Type 0} (cell : CellValue) (log : List (LogRow R)) where
  -- one pass more
  pub new_passes_push : (from count : ℕ) → new_passes cell log from count ++ new_pass cell log (from + count) ∷ [] ≡ new_passes cell log from (count + 1)
  new_passes_push from zero = let e : from + 0 ≡ from = omega arith in ap (λ n. new_pass cell log n ∷ []) e
  new_passes_push from (suc count) =
      let e : from + suc count ≡ from + 1 + count = omega arith in let f : suc count + 1 ≡ suc (count + 1) = omega arith in
      ap (λ n. new_pass cell log from ∷ (new_passes cell log (from + 1) count ++ new_pass cell log n ∷ [])) e
      ∙ (ap (λ l. new_pass cell log from ∷ l) (new_passes_push (from + 1) count) ∙ ap (new_passes cell log from) (sym f))

  pub new_passes_first : (count passes : ℕ) → count + 1 ≡ passes → new_pass cell log 0 ∷ new_passes cell log 1 count ≡ new_passes cell log 0 passes
  new_passes_first count passes e = let f : suc count ≡ passes = omega arith in ap (new_passes cell log 0) f

  pub length-new_passes : (from count : ℕ) → length (new_passes cell log from count) ≡ count
  length-new_passes from zero = refl
  length-new_passes from (suc count) = ap suc (length-new_passes (from + 1) count)

  of_cell : (from count : ℕ) → AllByRecursion (IsPassOf cell) (new_passes cell log from count)
  of_cell from zero = tt
  of_cell from (suc count) = (refl, of_cell (from + 1) count)

  pub all_of_cell : (passes : List (PassValue R)) (count : ℕ) → passes ≡ new_passes cell log 0 count → All (IsPassOf cell) passes
  all_of_cell passes count is = subst (All (IsPassOf cell)) (sym is) (All-from_recursion (IsPassOf cell) (new_passes cell log 0 count) (of_cell 0 count))
