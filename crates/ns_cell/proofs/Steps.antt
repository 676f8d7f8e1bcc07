-- What the steps of a turn tell, put together.
use Rattle.std.proofs.Common.{◌≡◌, ◌≢◌, ℕ, ◌+◌, ◌%◌, ◌^◌, ◌<◌, List, [], ◌∷◌, ◌++◌, sym, refl, ap, ap₂, ◌∙◌, subst, Option, Some}
use mathlib.Core.Option.{none}
use Rattle.atomic_table.specs.Table.{Step, step, Allows, rest}
use Rattle.willow_entry.specs.declared.row.LogRow.{LogRow}
use Rattle.willow_entry.specs.Row.{RowValue}
use Rattle.ns_state.specs.Log.{StateValue, IsLog}
use Rattle.log_rule.specs.declared.view.CellFacts.{CellFacts}
use Rattle.log_rule.specs.declared.view.View.{View}
use Rattle.log_rule.specs.declared.view.Book.{Book}
use Rattle.log_rule.specs.declared.view.Role.{Role}
use Rattle.log_rule.specs.declared.view.Role.TheVariants.{Idle, Waits, Holds}
use Rattle.log_rule.specs.Views.{AreOf}
use Rattle.log_rule.specs.Steps.{ticket_of, Draws, TakesTurn, MeetsTicket, Looks, HandsOn}
use Rattle.log_rule.proofs.Turns.{hands_on}
use Rattle.ns_cell.specs.Seats.{Place, content, CellRule, IsWaiting}

module _ {R : Type 0} where
  pub drew_waits : (st : Step (Option (StateValue R))) (me after : Place R) (word : ℕ) → Draws st me word after → IsWaiting after.0.role word
  drew_waits st me after word drew = subst (λ role. IsWaiting role word) (sym (ap (λ (k : Place R). k.0.role) drew.2)) (refl, drew.1)

  pub drew_view : (st : Step (Option (StateValue R))) (me after : Place R) (word : ℕ) → me.1 ≡ [] → Draws st me word after → after ≡ (record me.0 { role = after.0.role }, [])
  drew_view st me after word empty drew =
      drew.2 ∙ ap₂ (λ (role : Role) (carried : List (ℕ × Option (StateValue R))). let view : View R = record me.0 { role = role } in let k : Place R = (view, carried) in k) (sym (ap (λ (k : Place R). k.0.role) drew.2)) empty

  -- a look of a pass that waits, which finds its ticket
  pub looked_hit : (st : Step (Option (StateValue R))) (was me after : Place R) (ticket word : ℕ) → me ≡ was → IsWaiting was.0.role ticket → was.1 ≡ [] → word ≡ ticket → Looks content st me word after
      → (state : StateValue R) × (after.1 ≡ (0, Some state) ∷ []) × TakesTurn content (ticket_of was.0.role) state was.0 after.0
  looked_hit st was me after ticket word same waits empty hit looked =
      let role : me.0.role ≡ Waits (ticket_of was.0.role) = ap (λ (k : Place R). k.0.role) same ∙ waits.0 in
      let met : MeetsTicket content me word after (Waits (ticket_of was.0.role)) = subst (MeetsTicket content me word after) role looked.turn in
      let took = met.0 (hit ∙ waits.1) in
      (took.0, took.1 ∙ ap (λ l. (0, Some took.0) ∷ l) (ap (λ (k : Place R). k.1) same ∙ empty), subst (λ (k : Place R). TakesTurn content (ticket_of was.0.role) took.0 k.0 after.0) same took.2)

  -- and one that does not
  pub looked_miss : (st : Step (Option (StateValue R))) (was me after : Place R) (ticket word : ℕ) → me ≡ was → IsWaiting was.0.role ticket → word ≢ ticket → Looks content st me word after → after ≡ was
  looked_miss st was me after ticket word same waits miss looked =
      let role : me.0.role ≡ Waits (ticket_of was.0.role) = ap (λ (k : Place R). k.0.role) same ∙ waits.0 in
      let met : MeetsTicket content me word after (Waits (ticket_of was.0.role)) = subst (MeetsTicket content me word after) role looked.turn in
      met.1 (λ e. miss (e ∙ sym waits.1)) ∙ same

  -- a look of a pass that is idle
  pub looked_idle : (st : Step (Option (StateValue R))) (me after : Place R) (word : ℕ) → me.0.role ≡ Idle → Looks content st me word after → after ≡ me
  looked_idle st me after word idle looked = subst (MeetsTicket content me word after) idle looked.turn

  -- the turn of a pass that drew its ticket
  pub taken_from_draw : (view drawn after : View R) (state : StateValue R) → drawn ≡ record view { role = drawn.role } → TakesTurn content (ticket_of drawn.role) state drawn after → TakesTurn content (ticket_of after.role) state view after
  taken_from_draw view drawn after state is took =
      let from : TakesTurn content (ticket_of drawn.role) state (record view { role = drawn.role }) after = subst (λ v. TakesTurn content (ticket_of drawn.role) state v after) is took in
      let h : TakesTurn content (ticket_of drawn.role) state view after = record { is = from.is; seen = from.seen; older = from.older; namespace = from.namespace; kept = from.kept; once = from.once; whole = from.whole; known = from.known } in
      subst (λ t. TakesTurn content t state view after) (sym (ap (λ (v : View R). ticket_of v.role) h.is)) h

  -- the turn may be handed on
  pub may_hand_on : (value : R → RowValue) (cell : CellFacts) (slots id ticket : ℕ) (view : View R) (state : StateValue R) (rows : List (LogRow R)) (book : Book R) (me : Place R) → me ≡ (view, (0, Some state) ∷ []) → view.role ≡ Holds ticket → 0 < view.parts → view.books ≡ book ∷ []
      → state.log ≡ view.seen ++ rows → AreOf book.number rows → state.namespace ≡ view.cell.namespace → IsLog value state.namespace state.log → Allows (CellRule value cell) slots id me 1 (λ n. (n + 1) % 2 ^ 64) (HandsOn content (step slots 1 1 0 none) me)
  may_hand_on value cell slots id ticket view state rows book me is holds some_part books longer own space lawful =
      subst (λ (m : Place R). Allows (CellRule value cell) slots id m 1 (λ n. (n + 1) % 2 ^ 64) (HandsOn content (step slots 1 1 0 none) m)) (sym is)
      (hands_on content (IsLog value) cell slots id ticket (view, (0, Some state) ∷ []) state rows book holds refl some_part books longer own space (subst (λ n. IsLog value n state.log) space lawful))

-- what was taken out of the slot
pub out_of : {S : Type 0} (x : S) (y : Option S) (carried others : List (ℕ × Option S)) → carried ≡ (0, Some x) ∷ others → carried ≡ (0, y) ∷ rest carried → y ≡ Some x
out_of {S} x y carried others a b = ap value_or (sym b ∙ a)
  where
    value_or : List (ℕ × Option S) → Option S
    value_or [] = y
    value_or (p ∷ ps) = p.1
