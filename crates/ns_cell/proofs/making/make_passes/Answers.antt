use Rattle.std.proofs.Common.{◌≡◌, ◌+◌, ◌-◌, ◌++◌, ◌∷◌, [], length, arith, sym, ap, ap₂, ◌∙◌, length-append}
use Rattle.ns_state.specs.Log.{IsLog}
use Rattle.log_rule.specs.Steps.{after_making}
use Rattle.log_rule.proofs.Seats.{makes}
use Rattle.ns_cell.specs.Passes.{new_pass, new_passes}
use Rattle.ns_cell.specs.Seats.{content, cell_at, pass_of}
use Rattle.ns_cell.proofs.NewPasses.{made_rests, made_is, first_rests, first_is, remade, new_passes_push, new_passes_first}
use Rattle.ns_cell.proofs.making.make_passes.Goals as goal

pub split_seat-made-requires : goal.split_seat-made-requires
split_seat-made-requires g c =
    let inv = c.loop-number.invariant in let made = ap (λ m. m.0.made) inv.1 in let low = c.loop-number.auto.number in let test = c.loop-number-test.true in let sum = inv.2 in let words = c.requires.table.1 in (
      inv.0 ∙ c.requires.table.0,
      omega arith,
      makes content (IsLog g.R.Row.value) _ _ _ (ap (λ m. m.0.role) inv.1) (omega arith) (omega arith),
    )

pub invariant_of-push_reserved : goal.invariant_of-push_reserved
invariant_of-push_reserved g c =
    let inv = c.loop-number.invariant in let low = c.loop-number.auto.number in let cell = c.args.seat.me.0.cell in let log = c.args.seat.me.0.seen in (
      made_rests g.R.Row.value cell log c.loop-number.number c.loop-number.seat.me.0 c.split_seat-made.result.me c.requires.log.0 c.requires.log.1 (omega arith)
          (ap (λ m. m.0.made) inv.1) (ap (λ m. m.0.seen) inv.1) (ap (λ m. m.0.cell) inv.1) c.split_seat-made.ensures.4,
      c.requires.seen ∙ ap length (sym (ap (λ m. m.0.seen) c.split_seat-made.ensures.4 ∙ ap (λ m. m.0.seen) inv.1)),
    )

pub loop-number-preserved : goal.loop-number-preserved
loop-number-preserved g c =
    let inv = c.loop-number.invariant in let low = c.loop-number.auto.number in let test = c.loop-number-test.true in let sum = inv.2 in let count = inv.3 in let room = inv.4 in
    let cell = c.args.seat.me.0.cell in let log = c.args.seat.me.0.seen in
    let whole = cell_at c.args.seat.table_id c.args.passes cell.namespace in
    let now = c.split_seat-made.ensures.2 ∙ ap (λ m. (after_making m.0, m.1)) inv.1 in
    let left = ap (λ m. m.0.parts) now in
    let capacity = c.push_reserved.ensures.capacity in
    let made = made_is g.R.Row.value cell log c.args.seat.table_id c.split_seat-made.result.table_id c.loop-number.number c.loop-number.seat.me.0 c.split_seat-made.result.me (omega arith)
    (ap (λ m. m.0.seen) inv.1) (ap (λ m. m.0.cell) inv.1) c.split_seat-made.ensures.4 (c.split_seat-made.ensures.3 ∙ inv.0) in
    let passes : cell_at c.args.seat.table_id cell.passes cell.namespace ≡ whole = ap (λ n. cell_at c.args.seat.table_id n cell.namespace) c.requires.seat.1 in
    let number : c.loop-number.number ≡ 1 + length c.loop-number.all.items = omega arith in
    let pushed = c.push_reserved.ensures.items ∙ (ap₂ (λ l p. l ++ p ∷ []) inv.5 (made ∙ ap₂ (λ k n. new_pass k log n) passes number) ∙ new_passes_push whole log 1 (length c.loop-number.all.items)) in
    let long : length c.push_reserved.new.self.items ≡ length c.loop-number.all.items + 1 = omega (arith, ap length c.push_reserved.ensures.items, length-append c.loop-number.all.items (pass_of c.split_seat-made.result.table_id c.loop-number.number c.split_seat-made.result.me ∷ [])) in (
      c.split_seat-made.ensures.0 ∙ inv.0,
      remade g.R.Row.value cell log (c.loop-number.seat.me.0.parts - 1) (c.loop-number.number + 1) c.split_seat-made.new.seat.me now,
      omega arith,
      omega arith,
      omega arith,
      pushed ∙ ap (new_passes whole log 1) (sym long),
    )

pub invariant_of-first : goal.invariant_of-first
invariant_of-first g c =
    let inv = c.loop-number.invariant in let out = c.loop-number-test.false in let end = c.loop-number.auto.number-end in let sum = inv.2 in let some_pass = c.requires.passes.0 in (
      first_rests g.R.Row.value c.args.seat.me.0.cell c.args.seat.me.0.seen c.loop-number.seat.me.0.parts c.loop-number.number c.loop-number.seat.me c.requires.log.0 c.requires.log.1 inv.1 (let e = end (omega arith) in omega arith),
      c.requires.seen ∙ ap length (sym (ap (λ m. m.0.seen) inv.1)),
    )

pub returns : goal.returns
returns g c =
    let inv = c.loop-number.invariant in let out = c.loop-number-test.false in let end = c.loop-number.auto.number-end in let count = inv.3 in let some_pass = c.requires.passes.0 in
    let cell = c.args.seat.me.0.cell in let log = c.args.seat.me.0.seen in
    let whole = cell_at c.args.seat.table_id c.args.passes cell.namespace in
    let first = first_is g.R.Row.value cell log c.args.seat.table_id c.loop-number.seat.table_id c.loop-number.seat.me.0.parts c.loop-number.number c.loop-number.seat.me inv.1 inv.0 in
    let passes : cell_at c.args.seat.table_id cell.passes cell.namespace ≡ whole = ap (λ n. cell_at c.args.seat.table_id n cell.namespace) c.requires.seat.1 in
    c.in_ok-insert.ensures.items ∙ (ap₂ (λ p l. p ∷ l) (first ∙ ap (λ k. new_pass k log 0) passes) inv.5
    ∙ new_passes_first whole log (length c.loop-number.all.items) c.args.passes (let e = end (omega arith) in omega arith))
