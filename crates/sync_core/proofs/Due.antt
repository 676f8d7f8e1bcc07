-- What becomes of a row that is due, by what the reading of it keeps.
use Rattle.std.proofs.Common.{◌≡◌, ◌-◌, List, [], ◌∷◌, map, Option, Some, None, Result, Ok, Err, sym, ap, ap₂, ◌∙◌}
use Rattle.std.specs.Prelude.{IsOk, is_ok}
use Rattle.spelling.specs.declared.ending.End.{End}
use Rattle.spelling.specs.declared.ending.End.TheVariants as end
use Rattle.willow_entry.specs.Row.{RowValue}
use Rattle.sync_msg.specs.declared.item.Item.TheVariants as items
use Rattle.sync_msg.specs.declared.refusal.CoreRefusal.{CoreRefusal}
use Rattle.sync_core.specs.declared.ask.Owed.{Owed}
use Rattle.sync_core.specs.declared.work.Due.{Due}
use Rattle.sync_core.specs.declared.work.Ear.{Ear}
use Rattle.sync_core.specs.Flat.{AskValue}
use Rattle.sync_core.specs.Place.{Doing}
use Rattle.sync_core.specs.Steps.{hearing_rows, remembered, unless}
use Rattle.sync_core.specs.Held.{ask_value, due_in, hearing_in, owed_value, settled}
use Rattle.sync_core.specs.Hears.{Does, FirstAsk, FirstCause, KeepsDue}

module _ (rows : List RowValue) where
  -- what follows for the first of the asks, once the row is judged
  abbrev behind : Owed → List Owed → List AskValue → Due → RowValue → Option CoreRefusal → Result Doing CoreRefusal
  behind owed rest opens was row cause =
      unless cause (hearing_rows (owed_value rows owed) (map (owed_value rows) rest) (was.left - 1) (remembered (owed_value rows owed) was.rows.items row) opens)

  refused_first : (asked : List Owed) (opens : List AskValue) (was : Due) (row : RowValue) (cause : CoreRefusal) → FirstCause asked was.rows.items row (Some cause)
      → due_in (map (owed_value rows) asked) opens (Some was) (items.Row row) ≡ Err cause
  refused_first [] opens was row cause h = absurd h
  refused_first (owed ∷ rest) opens was row cause h = ap (behind owed rest opens was row) (h rows)

  passes_first : (asked : List Owed) (opens : List AskValue) (was : Due) (row : RowValue) → FirstCause asked was.rows.items row None
      → IsOk (due_in (map (owed_value rows) asked) opens (Some was) (items.Row row))
  passes_first [] opens was row h = absurd h
  passes_first (owed ∷ rest) opens was row h = ap (λ cause. is_ok (behind owed rest opens was row cause)) (h rows)

  read_first : (asked : List Owed) (opens : List AskValue) (was is : Due) (row : RowValue) → is.left ≡ was.left - 1 → FirstAsk asked was.rows.items is.rows.items row
      → due_in (map (owed_value rows) asked) opens (Some was) (items.Row row) ≡ Ok (settled (map (owed_value rows) asked) opens is.left is.rows.items)
  read_first [] opens was is row left h = absurd h
  read_first (owed ∷ rest) opens was is row left h =
      let first = h rows in
      ap (behind owed rest opens was row) first.0
      ∙ ap Ok (ap₂ (λ n read. hearing_rows (owed_value rows owed) (map (owed_value rows) rest) n read opens) (sym left) (sym first.1))

  module _ (old new : Ear) (row : RowValue) where
    -- a row that is not taken
    pub due_refused : (was is : Option Due) (e : End CoreRefusal) → KeepsDue old new was is row (Err e)
        → Does (hearing_in rows old) (hearing_in rows new) (due_in (map (owed_value rows) old.owed.items) (map ask_value old.opens.items) was (items.Row row)) (Err e)
    due_refused (Some was) (Some is) end.NoMemory h = (h.0 rows, passes_first old.owed.items (map ask_value old.opens.items) was row h.1)
    due_refused (Some was) None end.NoMemory h = (h.0 rows, passes_first old.owed.items (map ask_value old.opens.items) was row h.1)
    due_refused None (Some is) end.NoMemory h = absurd h
    due_refused None None end.NoMemory h = absurd h
    due_refused (Some was) (Some is) (end.Refused cause) h = refused_first old.owed.items (map ask_value old.opens.items) was row cause h
    due_refused (Some was) None (end.Refused cause) h = refused_first old.owed.items (map ask_value old.opens.items) was row cause h
    due_refused None (Some is) (end.Refused cause) h = absurd h
    due_refused None None (end.Refused cause) h = absurd h

    -- a row that is taken
    pub due_read : (was : Option Due) (is : Due) → KeepsDue old new was (Some is) row (Ok tt)
        → due_in (map (owed_value rows) old.owed.items) (map ask_value old.opens.items) was (items.Row row) ≡ Ok (settled (map (owed_value rows) new.owed.items) (map ask_value new.opens.items) is.left is.rows.items)
    due_read None is h = absurd h
    due_read (Some was) is h =
        read_first old.owed.items (map ask_value old.opens.items) was is row h.left h.first
        ∙ ap Ok (ap₂ (λ asked opens. settled (map (owed_value rows) asked) (map ask_value opens) is.left is.rows.items) (sym (ap (λ q. q.items) h.asked)) (sym h.opened))
