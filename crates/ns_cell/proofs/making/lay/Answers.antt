use Rattle.std.proofs.Common.{◌≡◌, [], ◌∷◌, ◌++◌, List, Option, Some, sym, ap, ◌∙◌, subst, refl, arith}
use Rattle.atomic_table.specs.Table.{opening}
use Rattle.ns_state.specs.Log.{StateValue, IsLog}
use Rattle.log_rule.specs.Steps.{first_view}
use Rattle.log_rule.proofs.Seats.{begins}
use Rattle.ns_cell.specs.Seats.{content, CellRule}
use Rattle.ns_cell.proofs.making.lay.Goals as goal

pub new-requires : goal.new-requires
new-requires g c =
    let P : StateValue g.row.R.Denot → List (Option (StateValue g.row.R.Denot)) → Type 0 = λ x l. CellRule g.R.Row.value (record { passes = c.from.result; namespace = x.namespace }) (opening (0 ∷ 0 ∷ []) l (first_view (record { passes = c.from.result; namespace = x.namespace }) x.log)) in
    let items : c.push_reserved.new.self.items ≡ Some c.args.state ∷ [] = c.push_reserved.ensures.items ∙ ap (λ l. l ++ Some c.args.state ∷ []) c.in_ok-slots.ensures.items in
    subst (λ x. P x c.push_reserved.new.self.items) (sym c.of.ensures) (subst (P c.args.state) (sym items)
    (begins content (IsLog g.R.Row.value) (record { passes = c.from.result; namespace = c.args.state.namespace }) c.args.state c.requires.opening (let e = c.from.ensures in let h = c.requires.passes in omega arith) refl c.requires.lawful))
