-- What a side does that hears an item, by what it did.
use Rattle.std.proofs.Common.{◌≡◌, ℕ, List, [], map, Option, Some, None, Result, Err, refl, sym, ap, ◌∙◌, subst}
use Rattle.std.specs.Prelude.{IsOk, IsSome, is_some, false}
use Rattle.spelling.specs.declared.ending.End.{End}
use Rattle.spelling.specs.declared.ending.End.TheVariants as end
use Rattle.willow_area.specs.Boxes.{Ranges}
use Rattle.willow_entry.specs.Row.{RowValue}
use Rattle.sync_msg.specs.Items.{ItemValue}
use Rattle.sync_msg.specs.declared.refusal.CoreRefusal.{CoreRefusal}
use Rattle.sync_msg.specs.declared.refusal.CoreRefusal.TheVariants.{ItemMismatch}
use Rattle.sync_core.specs.declared.work.Due.{Due}
use Rattle.sync_core.specs.declared.work.Ear.{Ear}
use Rattle.sync_core.specs.declared.work.Phase.{Phase}
use Rattle.sync_core.specs.declared.work.Phase.TheVariants as phase
use Rattle.sync_core.specs.declared.work.Work.{Work}
use Rattle.sync_core.specs.Flat.{AskValue}
use Rattle.sync_core.specs.Place.{Doing}
use Rattle.sync_core.specs.Steps.{bye_heard, end_heard, first_heard, next_heard, turn_heard}
use Rattle.sync_core.specs.Held.{ask_value, doing_in, doing_of, due_in, hearing_in, owed_value}
use Rattle.sync_core.specs.Hears.{Does}
use Rattle.sync_core.proofs.Heard.{heard_in, next_hearing}

-- the answer to a silent side
pub silent : (version : ℕ) (area : Option Ranges) (rows : List RowValue) (work : Work) (item : ItemValue) (p : Phase) → (p ≡ phase.Beginning → ⊥) → (p ≡ phase.Hearing → ⊥) → (p ≡ phase.Parting → ⊥) → next_heard version area rows (doing_in rows p work) item ≡ Err ItemMismatch
silent version area rows work item phase.Saying b h e = refl
silent version area rows work item phase.Replying b h e = refl
silent version area rows work item phase.Beginning b h e = absurd (b refl)
silent version area rows work item phase.Hearing b h e = absurd (h refl)
silent version area rows work item phase.Parting b h e = absurd (e refl)
silent version area rows work item phase.Finished b h e = refl
silent version area rows work item (phase.Refused cause) b h e = refl

module _ (version : ℕ) (area : Option Ranges) (rows : List RowValue) (work : Work) (item : ItemValue) (result : Result (Unit {0}) (End CoreRefusal)) where
  pub does_first : (new : Work) → work.phase ≡ phase.Beginning → Does (doing_of rows work) (doing_of rows new) (first_heard area item) result → Does (doing_of rows work) (doing_of rows new) (next_heard version area rows (doing_of rows work) item) result
  does_first new is d =
      subst (λ o. Does (doing_of rows work) (doing_of rows new) o result) (sym (ap (λ p. next_heard version area rows (doing_in rows p work) item) is)) d

  pub does_bye : (new : Work) → work.phase ≡ phase.Parting → Does (doing_of rows work) (doing_of rows new) (bye_heard item) result → Does (doing_of rows work) (doing_of rows new) (next_heard version area rows (doing_of rows work) item) result
  does_bye new is d =
      subst (λ o. Does (doing_of rows work) (doing_of rows new) o result) (sym (ap (λ p. next_heard version area rows (doing_in rows p work) item) is)) d

  -- in a turn, by what the ear hears
  in_turn : (ear : Ear) → work.phase ≡ phase.Hearing → Does (hearing_in rows work.ear) (hearing_in rows ear) (next_heard version area rows (hearing_in rows work.ear) item) result
      → Does (doing_of rows work) (doing_of rows (record work { ear = ear })) (next_heard version area rows (doing_of rows work) item) result
  in_turn ear is d =
      subst (λ p. Does (doing_in rows p work) (doing_in rows p (record work { ear = ear })) (next_heard version area rows (doing_in rows p work) item) result) (sym is) d

  by_due : (due : Option Due) (asks opens : List AskValue) → IsSome due → heard_in version rows asks opens due item ≡ due_in asks opens due item
  by_due None asks opens some = absurd (cc)
  by_due (Some due) asks opens some = refl

  pub does_row : (ear : Ear) → work.phase ≡ phase.Hearing → IsSome work.ear.due
      → Does (hearing_in rows work.ear) (hearing_in rows ear) (due_in (map (owed_value rows) work.ear.owed.items) (map ask_value work.ear.opens.items) work.ear.due item) result
      → Does (doing_of rows work) (doing_of rows (record work { ear = ear })) (next_heard version area rows (doing_of rows work) item) result
  does_row ear is some d =
      let asks = map (owed_value rows) work.ear.owed.items in
      let opens = map ask_value work.ear.opens.items in
      in_turn ear is (subst (λ o. Does (hearing_in rows work.ear) (hearing_in rows ear) o result) (sym (next_hearing version area rows asks opens work.ear.due item ∙ by_due work.ear.due asks opens some)) d)

  heard_turn : work.ear.due ≡ None → next_heard version area rows (hearing_in rows work.ear) item ≡ turn_heard version rows (map (owed_value rows) work.ear.owed.items) (map ask_value work.ear.opens.items) item
  heard_turn none =
      let asks = map (owed_value rows) work.ear.owed.items in
      let opens = map ask_value work.ear.opens.items in
      next_hearing version area rows asks opens work.ear.due item ∙ ap (λ due. heard_in version rows asks opens due item) none

  pub does_head : (ear : Ear) → work.phase ≡ phase.Hearing → work.ear.due ≡ None
      → Does (hearing_in rows work.ear) (hearing_in rows ear) (turn_heard version rows (map (owed_value rows) work.ear.owed.items) (map ask_value work.ear.opens.items) item) result
      → Does (doing_of rows work) (doing_of rows (record work { ear = ear })) (next_heard version area rows (doing_of rows work) item) result
  does_head ear is none d = in_turn ear is (subst (λ o. Does (hearing_in rows work.ear) (hearing_in rows ear) o result) (sym (heard_turn none)) d)

  pub does_end : (new : Work) → work.phase ≡ phase.Hearing → work.ear.due ≡ None → work.ear.owed.items ≡ []
      → Does (doing_of rows work) (doing_of rows new) (end_heard version rows (map ask_value work.ear.opens.items) item) result
      → Does (doing_of rows work) (doing_of rows new) (next_heard version area rows (doing_of rows work) item) result
  does_end new is none empty d =
      let opens = map ask_value work.ear.opens.items in
      let turn : next_heard version area rows (hearing_in rows work.ear) item ≡ end_heard version rows opens item = heard_turn none ∙ ap (λ l. turn_heard version rows (map (owed_value rows) l) opens item) empty in
      subst (λ o. Does (doing_of rows work) (doing_of rows new) o result) (sym (ap (λ p. next_heard version area rows (doing_in rows p work) item) is ∙ turn)) d

pub none_from : {A : Type 0} (o : Option A) → is_some o ≡ false → o ≡ None
none_from None e = refl
none_from (Some x) e = absurd cc

-- without memory the same is done, where nothing is against the item
pub does_no_memory : (old new : Doing) (o : Result Doing CoreRefusal) (r : Result (Unit {0}) (End CoreRefusal)) (e : End CoreRefusal) → r ≡ Err e → e ≡ end.NoMemory → new ≡ old → IsOk o → Does old new o r
does_no_memory old new o r e is none same ok = subst (λ x. Does old new o x) (sym (is ∙ ap (λ y. Err y) none)) (same, ok)
