-- What the laws of the rule say: each kind of step keeps it, at whatever state `S` lies in the slot, whatever rows `R` its
-- log has, and whatever rules that log keeps (`IsLawful`).
use Rattle.std.specs.Prelude.{◌≡◌, ℕ, ◌+◌, ◌%◌, ◌^◌, ◌<◌, ◌≤◌, List, [], ◌∷◌, ◌++◌, length, sum_by, Option, Some}
use mathlib.Core.Option.{none}
use Rattle.atomic_table.specs.Table.{State, Me, step, Allows, Splits, Joins, opening}
use Rattle.willow_entry.specs.declared.row.LogRow.{LogRow}
use Rattle.log_rule.specs.declared.view.CellFacts.{CellFacts}
use Rattle.log_rule.specs.declared.view.View.{View}
use Rattle.log_rule.specs.declared.view.Book.{Book}
use Rattle.log_rule.specs.declared.view.Role.TheVariants.{Idle, Holds}
use Rattle.log_rule.specs.Views.{AreOf}
use Rattle.log_rule.specs.Rule.{Content, Ruled}
use Rattle.log_rule.specs.Steps.{first_view, after_making, made_view, lent_view, joined_view, spent_view, Draws, Looks, HandsOn}

module _ (S R : Type 0) (IsLawful : List ℕ → List (LogRow R) → Type 0) where
  -- A new table keeps the rule: no ticket is drawn, the state lies in the slot, and there is one pass, which has seen the
  -- log, all rows of which are its own.
  abbrev pub BeginsRuled : Type 0
  BeginsRuled = (content : Content S R) (cell : CellFacts) (state : S)
      → AreOf 0 (content.log state) → 0 < cell.passes → content.namespace state ≡ cell.namespace
      → IsLawful cell.namespace (content.log state)
      → Ruled content IsLawful cell (opening (0 ∷ 0 ∷ []) (Some state ∷ []) (first_view cell (content.log state)))

  -- An idle pass draws a ticket.
  abbrev pub DrawsRuled : Type 0
  DrawsRuled = (content : Content S R) (cell : CellFacts) (slots seat : ℕ) (me : Me (Option S) (View R))
      → me.0.role ≡ Idle → 0 < me.0.parts
      → Allows (Ruled content IsLawful cell) slots seat me 0 (λ word. (word + 1) % 2 ^ 64) (Draws (step slots 0 1 0 none) me)

  -- Any seat looks at the ticket served. It takes the state with the turn where that is its own ticket, of which at most
  -- as many as passes are out, so that no two of them are one modulo 2^64.
  abbrev pub LooksRuled : Type 0
  LooksRuled = (content : Content S R) (cell : CellFacts) (slots seat : ℕ) (me : Me (Option S) (View R))
      → cell.passes < 2 ^ 64
      → Allows (Ruled content IsLawful cell) slots seat me 1 (λ word. word) (Looks content (step slots 1 0 0 none) me)

  -- A pass that has the turn, and has put back a state whose log has further rows of its own number or none, hands on.
  abbrev pub HandsOnRuled : Type 0
  HandsOnRuled = (content : Content S R) (cell : CellFacts) (slots seat ticket : ℕ) (me : Me (Option S) (View R)) (state : S)
      (rows : List (LogRow R)) (book : Book R)
      → me.0.role ≡ Holds ticket → me.1 ≡ (0, Some state) ∷ [] → 0 < me.0.parts → me.0.books ≡ book ∷ []
      → content.log state ≡ me.0.seen ++ rows → AreOf book.number rows → content.namespace state ≡ me.0.cell.namespace
      → IsLawful me.0.cell.namespace (content.log state)
      → Allows (Ruled content IsLawful cell) slots seat me 1 (λ word. (word + 1) % 2 ^ 64) (HandsOn content (step slots 1 1 0 none) me)

  -- The idle seat that makes the passes makes one, while it has a part left over.
  abbrev pub MakesRuled : Type 0
  MakesRuled = (content : Content S R) (cell : CellFacts) (seat : ℕ) (view : View R)
      → view.role ≡ Idle → 1 < view.parts → 0 < view.made
      → Splits (Ruled content IsLawful cell) seat view (after_making view) (made_view view)

  -- Any seat with a part lends what it has seen.
  abbrev pub LendsRuled : Type 0
  LendsRuled = (content : Content S R) (cell : CellFacts) (seat : ℕ) (view : View R)
      → 0 < view.parts → Splits (Ruled content IsLawful cell) seat view view (lent_view view)

  -- An idle seat with a part takes an idle seat in.
  abbrev pub TakesInRuled : Type 0
  TakesInRuled = (content : Content S R) (cell : CellFacts) (seat other : ℕ) (view taken : View R)
      → 0 < view.parts → view.role ≡ Idle → taken.role ≡ Idle
      → Joins (Ruled content IsLawful cell) seat view other taken (joined_view view taken) spent_view

  -- The turns that all seats have had are at most the tickets served, and those at most the tickets drawn.
  abbrev pub TurnsAreServed : Type 0
  TurnsAreServed = (content : Content S R) (cell : CellFacts) (table : State (Option S) (View R))
      → (rule : Ruled content IsLawful cell table)
      → (sum_by (λ (view : View R). length view.turns) table.views ≤ rule.served) × (rule.served ≤ rule.next)
