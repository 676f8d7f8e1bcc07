-- What a turn leaves of a pass.
use Rattle.std.proofs.Common.{◌≡◌, ℕ, ◌+◌, ◌<◌, List, [], ◌∷◌, ◌++◌, length, drop, sym, refl, ap, ap₂, ◌∙◌, subst, Ok, Err, Result, append-nil, arith}
use mathlib.Core.List.{IsPrefix}
use Rattle.atomic_table.specs.Seated.{TableId}
use Rattle.spelling.specs.declared.ending.End.{End}
use Rattle.spelling.specs.declared.ending.End.TheVariants.{Refused, NoMemory}
use Rattle.willow_entry.specs.Row.{RowValue}
use Rattle.willow_entry.specs.declared.row.LogRow.{LogRow}
use Rattle.ns_state.specs.Log.{StateValue, IsLog}
use Rattle.ns_state.specs.Answer.{IsAnswer}
use Rattle.ns_state.specs.declared.live_log.LogFull.{LogFull}
use Rattle.ns_state.specs.declared.state.Told.{Told}
use Rattle.ns_state.specs.declared.state.Told.TheVariants.{Stored, Kept}
use Rattle.log_rule.specs.declared.view.CellFacts.{CellFacts}
use Rattle.log_rule.specs.declared.view.View.{View}
use Rattle.log_rule.specs.declared.view.Book.{Book}
use Rattle.log_rule.specs.declared.view.Role.TheVariants.{Idle, Holds}
use Rattle.log_rule.specs.Views.{rows_of_pass, AreOf, AreKept}
use Rattle.log_rule.specs.Steps.{ticket_of, with_rows, after_turn, TakesTurn}
use Rattle.log_rule.proofs.Prefixes.{prefix_more, drop-prefix}
use Rattle.log_rule.proofs.Books.{rows_of_pass-append, rows_of_pass-own}
use Rattle.ns_cell.specs.Passes.{CellValue, IsLater}
use Rattle.ns_cell.specs.Answers.{stored}
use Rattle.ns_cell.specs.Seats.{Place, content, own_of, pass_of, IsAtRest, IsTurned}

-- a list begins with itself, by whatever name
pub prefix_same : {A : Type 0} (xs ys : List A) → ys ≡ xs → IsPrefix xs ys
prefix_same xs ys e = ([], append-nil xs ∙ sym e)

module _ {R : Type 0} where
  -- ---- what the calls of a turn ask

  pub may_begin : (value : R → RowValue) (number : ℕ) (me : Place R) → IsAtRest value number me → (me.0.role ≡ Idle) × (0 < me.0.parts) × (me.1 ≡ [])
  may_begin value number me rest = (rest.role, (let e = rest.parts in omega arith), rest.carries)

  pub has_turn : (value : R → RowValue) (number ticket : ℕ) (me : Place R) (view : View R) (state : StateValue R) → IsAtRest value number me → TakesTurn content ticket state me.0 view → (view.role ≡ Holds (ticket_of view.role)) × (0 < view.parts)
  has_turn value number ticket me view state rest took =
      let role = ap (λ (v : View R). v.role) took.is in
      (role ∙ ap (λ r. Holds (ticket_of r)) (sym role), (let e = rest.parts in let f = ap (λ (v : View R). v.parts) took.is in omega arith))

  pub further_rows : (value : R → RowValue) (number ticket : ℕ) (me : Place R) (view : View R) (state : StateValue R) (log rows : List (LogRow R)) → IsAtRest value number me → TakesTurn content ticket state me.0 view → log ≡ state.log ++ rows → AreOf number rows
      → (book : Book R) × (more : List (LogRow R)) × (view.books ≡ book ∷ []) × (log ≡ view.seen ++ more) × AreOf book.number more
  further_rows value number ticket me view state log rows rest took longer are = (
    record { number = number; rows = own_of me.0.books },
    rows,
    ap (λ (v : View R). v.books) took.is ∙ rest.books,
    longer ∙ ap (λ l. l ++ rows) (sym (ap (λ (v : View R). v.seen) took.is)),
    are,
  )

  pub same_namespace : (ticket : ℕ) (me : Place R) (view : View R) (state : StateValue R) → TakesTurn content ticket state me.0 view → state.namespace ≡ view.cell.namespace
  same_namespace ticket me view state took = took.namespace ∙ sym (ap (λ (v : View R). v.cell.namespace) took.is)

  -- ---- the seat after the turn

  pub turned : (value : R → RowValue) (number ticket : ℕ) (me after : Place R) (view : View R) (state : StateValue R) (log rows : List (LogRow R)) → IsAtRest value number me → TakesTurn content ticket state me.0 view → log ≡ state.log ++ rows → AreOf number rows
      → IsLog value state.namespace log → after ≡ (after_turn log view, []) → IsTurned value number rows me after
  turned value number ticket me after view state log rows rest took longer are is_log is =
      let own = own_of me.0.books in
      let seen_before : view.seen ≡ state.log = ap (λ (v : View R). v.seen) took.is in
      let books_before : view.books ≡ (record { number = number; rows = own }) ∷ [] = ap (λ (v : View R). v.books) took.is ∙ rest.books in
      let added : drop (length view.seen) log ≡ rows = ap₂ (λ (l k : List (LogRow R)). drop (length l) k) seen_before longer ∙ drop-prefix state.log rows in
      let books : after.0.books ≡ (record { number = number; rows = own ++ rows }) ∷ [] = ap (λ (m : Place R). m.0.books) is ∙ ap₂ with_rows added books_before in
      let own' : own_of after.0.books ≡ own ++ rows = ap own_of books in
      let kept : AreKept state.log ((record { number = number; rows = own }) ∷ []) = subst (AreKept state.log) rest.books took.kept in
      let in_log : rows_of_pass number log ≡ own ++ rows = ap (rows_of_pass number) longer ∙ (rows_of_pass-append number state.log rows ∙ ap₂ (λ l k. l ++ k) kept.0 (rows_of_pass-own number rows are)) in
      let seen' : after.0.seen ≡ log = ap (λ (m : Place R). m.0.seen) is in
      let cell' : after.0.cell ≡ me.0.cell = ap (λ (m : Place R). m.0.cell) is ∙ ap (λ (v : View R). v.cell) took.is in
      record {
        rest = record {
          carries = ap (λ (m : Place R). m.1) is;
          role = ap (λ (m : Place R). m.0.role) is;
          parts = ap (λ (m : Place R). m.0.parts) is ∙ (ap (λ (v : View R). v.parts) took.is ∙ rest.parts);
          books = books ∙ ap (λ l. let b : Book R = record { number = number; rows = l } in b ∷ []) (sym own');
          own = ap (rows_of_pass number) seen' ∙ (in_log ∙ sym own');
          log = subst (λ (space : List ℕ). IsLog value space after.0.seen) (took.namespace ∙ sym (ap (λ (c : CellFacts). c.namespace) cell')) (subst (IsLog value state.namespace) (sym seen') is_log);
        };
        cell = cell';
        turns = ap (λ (m : Place R). m.0.turns) is ∙ ap₂ (λ (v : View R) (l : List (LogRow R)). v.turns ++ l ∷ []) took.is (sym seen');
        seen = subst (IsPrefix me.0.seen) (sym (seen' ∙ longer)) (prefix_more me.0.seen state.log rows took.seen);
        own = own';
      }

  -- the same where no row came to the log
  pub turned_alike : (value : R → RowValue) (number ticket : ℕ) (me after : Place R) (view : View R) (state : StateValue R) → IsAtRest value number me → TakesTurn content ticket state me.0 view → IsLog value state.namespace state.log → after ≡ (after_turn state.log view, [])
      → IsTurned value number [] me after
  turned_alike value number ticket me after view state rest took is_log is = turned value number ticket me after view state state.log [] rest took (sym (append-nil state.log)) tt is_log is

  pub no_further_rows : (value : R → RowValue) (number ticket : ℕ) (me : Place R) (view : View R) (state : StateValue R) → IsAtRest value number me → TakesTurn content ticket state me.0 view
      → (book : Book R) × (more : List (LogRow R)) × (view.books ≡ book ∷ []) × (state.log ≡ view.seen ++ more) × AreOf book.number more
  no_further_rows value number ticket me view state rest took = further_rows value number ticket me view state state.log [] rest took (sym (append-nil state.log)) tt

  pub later : (value : R → RowValue) (number : ℕ) (rows : List (LogRow R)) (table table' : TableId) (me after : Place R) → IsTurned value number rows me after → table' ≡ table → IsLater (pass_of table number me) (pass_of table' number after)
  later value number rows table table' me after turn same = record {
    cell = ap₂ (λ (t : TableId) (c : CellFacts). let k : CellValue = record { table = t; passes = c.passes; namespace = c.namespace } in k) same turn.cell;
    number = refl;
    seen = turn.seen;
    turns = (after.0.seen ∷ [], sym turn.turns);
  }

  -- ---- what the state answered to an offer

  pub stored_there : (value : R → RowValue) (log log' : List (LogRow R)) (row : LogRow R) (result : Result Told (End LogFull)) → IsAnswer value log row log' result → log' ≡ log ++ stored row result
  stored_there value log log' row (Ok (Stored at)) h = h.log_is
  stored_there value log log' row (Ok (Kept at)) h = h.log_is ∙ sym (append-nil log)
  stored_there value log log' row (Err (Refused full)) h = h.1 ∙ sym (append-nil log)
  stored_there value log log' row (Err NoMemory) h = h.0 ∙ sym (append-nil log)

  pub stored_own : (row : LogRow R) (result : Result Told (End LogFull)) → AreOf row.pass (stored row result)
  stored_own row (Ok (Stored at)) = (refl, tt)
  stored_own row (Ok (Kept at)) = tt
  stored_own row (Err e) = tt
