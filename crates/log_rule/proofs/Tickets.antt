-- The queue of the ticket lock.
use Rattle.std.proofs.Common.{◌≡◌, ◌≢◌, ℕ, ◌+◌, ◌<◌, ◌≤◌, Bool, true, false, eqb, List, set, count_by, sum_by, sym, refl, ap, ◌∙◌, inl, inr, ⊎_elim, arith, IsTrue}
use mathlib.Core.Logic.{dite}
use mathlib.Core.Option.{some}
use native.Mathlib.Decide.{ℕ_discrete, dec_lt}
use lib.ListN.{get_elem?}
use Rattle.willow_entry.specs.declared.row.LogRow.{LogRow}
use Rattle.log_rule.specs.declared.view.View.{View}
use Rattle.log_rule.specs.declared.view.Role.{Role}
use Rattle.log_rule.specs.declared.view.Role.TheVariants.{Idle, Waits, Holds}
use Rattle.log_rule.specs.Views.{is_queued, has_turn, has_ticket}
use Rattle.log_rule.specs.Rule.{HasTurn, IsQueue}
use Rattle.log_rule.proofs.Sums.{one_if, one_here, none_here, sum_by-set_at, sum_by-at_le, sum_by-two_le, sum_by-le_sum_by, sum_by-lt_sum_by}

-- 1 for a pass in the queue, with the turn, with this ticket
abbrev pub queued : {R : Type 0} → View R → ℕ
queued view = one_if (is_queued view.role)

abbrev pub turn : {R : Type 0} → View R → ℕ
turn view = one_if (has_turn view.role)

abbrev pub held : {R : Type 0} → ℕ → View R → ℕ
held ticket view = one_if (has_ticket ticket view.role)

-- below what is served next, and not what is served
below : (ticket own served : ℕ) → own ≡ served → ticket < served + 1 → ticket ≢ own → ticket < served
below ticket own served e l n = omega arith

with_part : (in_queue : Bool) (parts : ℕ) → (IsTrue in_queue → 0 < parts) → one_if in_queue ≤ parts
with_part true parts h = let p = h refl in omega arith
with_part false parts h = omega arith

module _ {R : Type 0} where
  -- who has the turn has the ticket that is served
  turn_ticket : (served : ℕ) (log seen : List (LogRow R)) (role : Role) → HasTurn served log seen role → one_if (has_turn role) ≤ one_if (has_ticket served role)
  turn_ticket served log seen Idle h = omega arith
  turn_ticket served log seen (Waits own) h = omega arith
  turn_ticket served log seen (Holds own) h = let e = one_here served own (sym h.0) in omega arith

  -- who has not that ticket knows as much whatever is served, and of whatever log
  pub turn_other : (served served' : ℕ) (log log' seen : List (LogRow R)) (role : Role) → one_if (has_ticket served role) ≡ 0 → HasTurn served log seen role → HasTurn served' log' seen role
  turn_other served served' log log' seen Idle other h = tt
  turn_other served served' log log' seen (Waits own) other h = tt
  turn_other served served' log log' seen (Holds own) other h = let e = one_here served own (sym h.0) in absurd (omega arith)

  -- ---- a ticket is drawn

  pub queue_drawn : (next served : ℕ) (views : List (View R)) (id : ℕ) (view new : View R) → get_elem? views id ≡ some view → view.role ≡ Idle → new.role ≡ Waits next → IsQueue next served views → IsQueue (next + 1) served (set views id new)
  queue_drawn next served views id view new at idle waits queue =
      let now : (ticket : ℕ) → sum_by (held ticket) (set views id new) ≡ sum_by (held ticket) views + one_if (eqb ticket next) =
      λ ticket.
      let sum = sum_by-set_at (held ticket) views id view new at in
      let before : held ticket view ≡ 0 = ap (λ role. one_if (has_ticket ticket role)) idle in
      let after : held ticket new ≡ one_if (eqb ticket next) = ap (λ role. one_if (has_ticket ticket role)) waits in omega arith in
      record {
        line = (
            let sum = sum_by-set_at queued views id view new at in let line = queue.line in
            let before : queued view ≡ 0 = ap (λ role. one_if (is_queued role)) idle in
            let after : queued new ≡ 1 = ap (λ role. one_if (is_queued role)) waits in omega arith);
        once = λ ticket. dite (ℕ_discrete ticket next)
            (λ e. let free = queue.others ticket (inr (omega arith)) in let sum = now ticket in let one = one_here ticket next e in omega arith)
            (λ n. let once = queue.once ticket in let sum = now ticket in let none = none_here ticket next n in omega arith);
        others = λ ticket out. ⊎_elim
            (λ (l : ticket < served). let free = queue.others ticket (inl l) in let line = queue.line in let sum = now ticket in let none = none_here ticket next (λ e. omega arith) in omega arith)
            (λ (l : next + 1 ≤ ticket). let free = queue.others ticket (inr (omega arith)) in let sum = now ticket in let none = none_here ticket next (λ e. omega arith) in omega arith) out;
      }

  -- ---- a pass that waits takes the turn, with the ticket that it has

  pub queue_waited : (next served own : ℕ) (views : List (View R)) (id : ℕ) (view new : View R) → get_elem? views id ≡ some view → view.role ≡ Waits own → new.role ≡ Holds own → IsQueue next served views → IsQueue next served (set views id new)
  queue_waited next served own views id view new at waits holds queue =
      let same : (p : Role → Bool) → p (Waits own) ≡ p (Holds own) → count_by (λ (v : View R). p v.role) (set views id new) ≡ count_by (λ (v : View R). p v.role) views =
      λ p e.
      let sum = sum_by-set_at (λ (v : View R). one_if (p v.role)) views id view new at in
      let one : one_if (p new.role) ≡ one_if (p view.role) = ap one_if (ap p holds ∙ (sym e ∙ sym (ap p waits))) in omega arith in
      record {
        line = (let h = same is_queued refl in let k = queue.line in omega arith);
        once = λ ticket. let h = same (has_ticket ticket) refl in let k = queue.once ticket in omega arith;
        others = λ ticket out. same (has_ticket ticket) refl ∙ queue.others ticket out;
      }

  -- ---- the turn is handed on

  pub queue_served : (next served own : ℕ) (views : List (View R)) (id : ℕ) (view new : View R) → get_elem? views id ≡ some view → view.role ≡ Holds own → own ≡ served → new.role ≡ Idle → IsQueue next served views → IsQueue next (served + 1) (set views id new)
  queue_served next served own views id view new at holds mine idle queue =
      let now : (ticket : ℕ) → sum_by (held ticket) (set views id new) + one_if (eqb ticket own) ≡ sum_by (held ticket) views =
      λ ticket.
      let sum = sum_by-set_at (held ticket) views id view new at in
      let before : held ticket view ≡ one_if (eqb ticket own) = ap (λ role. one_if (has_ticket ticket role)) holds in
      let after : held ticket new ≡ 0 = ap (λ role. one_if (has_ticket ticket role)) idle in omega arith in
      record {
        line = (
            let sum = sum_by-set_at queued views id view new at in let line = queue.line in
            let before : queued view ≡ 1 = ap (λ role. one_if (is_queued role)) holds in
            let after : queued new ≡ 0 = ap (λ role. one_if (is_queued role)) idle in omega arith);
        once = λ ticket. let sum = now ticket in let once = queue.once ticket in omega arith;
        others = λ ticket out. ⊎_elim
            (λ (l : ticket < served + 1). dite (ℕ_discrete ticket own)
            (λ e. let sum = now ticket in let one = one_here ticket own e in let once = queue.once ticket in omega arith)
            (λ n. let sum = now ticket in let free = queue.others ticket (inl (below ticket own served mine l n)) in omega arith))
            (λ (l : next ≤ ticket). let sum = now ticket in let free = queue.others ticket (inr l) in omega arith) out;
      }

  -- ---- who waits, and who has the turn

  -- a ticket that a pass waits with is one of those out
  pub in_line : (next served own : ℕ) (views : List (View R)) (id : ℕ) (view : View R) → get_elem? views id ≡ some view → view.role ≡ Waits own → IsQueue next served views → (served ≤ own) × (own < next)
  in_line next served own views id view at waits queue =
      let there = sum_by-at_le (held own) views id view at in
      let one : held own view ≡ 1 = ap (λ role. one_if (has_ticket own role)) waits ∙ one_here own own refl in (
        dite (dec_lt own served) (λ l. let free = queue.others own (inl l) in absurd (omega arith)) (λ n. omega arith),
        dite (dec_lt own next) (λ l. l) (λ n. let free = queue.others own (inr (omega arith)) in absurd (omega arith)),
      )

  -- while a pass waits whose ticket is served, nobody has the turn
  pub no_turn : (next served own : ℕ) (log : List (LogRow R)) (views : List (View R)) (id : ℕ) (view : View R) → get_elem? views id ≡ some view → view.role ≡ Waits own → own ≡ served
      → ((seat : ℕ) (v : View R) → get_elem? views seat ≡ some v → HasTurn served log v.seen v.role) → IsQueue next served views → sum_by turn views ≡ 0
  no_turn next served own log views id view at waits mine turns queue =
      let one : held served view ≡ 1 = ap (λ role. one_if (has_ticket served role)) waits ∙ one_here served own (sym mine) in
      let none : turn view ≡ 0 = ap (λ role. one_if (has_turn role)) waits in
      let less = sum_by-lt_sum_by turn (held served) views id view at (omega arith) (λ seat v there. turn_ticket served log v.seen v.role (turns seat v there)) in
      let once = queue.once served in omega arith

  -- nobody but the pass whose ticket is served has that ticket
  pub not_served : (next served own : ℕ) (views : List (View R)) (id : ℕ) (view : View R) → get_elem? views id ≡ some view → view.role ≡ Holds own → own ≡ served → IsQueue next served views
      → (seat : ℕ) (v : View R) → seat ≢ id → get_elem? views seat ≡ some v → held served v ≡ 0
  not_served next served own views id view at holds mine queue seat v other there =
      let two = sum_by-two_le (held served) views seat id v view other there at in
      let once = queue.once served in
      let one : held served view ≡ 1 = ap (λ role. one_if (has_ticket served role)) holds ∙ one_here served own (sym mine) in omega arith

  -- no more tickets are out than there are parts
  pub short_line : (next served : ℕ) (views : List (View R)) → ((seat : ℕ) (v : View R) → get_elem? views seat ≡ some v → IsTrue (is_queued v.role) → 0 < v.parts)
      → IsQueue next served views → next ≤ served + sum_by (λ (v : View R). v.parts) views
  short_line next served views queues queue =
      let few = sum_by-le_sum_by queued (λ (v : View R). v.parts) views (λ seat v there. with_part (is_queued v.role) v.parts (queues seat v there)) in
      let line = queue.line in omega arith
