use Rattle.std.proofs.Common.{◌≡◌, ◌∙◌, ℕ, ◌+◌, length, refl, sym, ap, subst, arith}
use Rattle.std.specs.List.{All}
use Rattle.ns_cell.specs.Passes.{IsPassOf, new_passes}
use Rattle.peer_run.proofs.hosting.room_for.Goals as goal

pub returns-clause-room : goal.returns-clause-room
returns-clause-room c =
    let made = c.in_ok-own.ensures in
    let cell = c.in_ok-cell.ensures in
    let many : c.in_ok-cell.cell.passes ≡ 1 + length c.args.signers.items = omega (arith, cell.cell.0, c.len.ensures, c.args.signers.ok.0) in
    record {
      plan_is = refl;
      own_namespace = c.namespace-namespace.ensures ∙ sym cell.cell.1;
      of_namespace = cell.cell.1;
      as_many = many;
      passes_are = made.passes ∙ cell.passes ∙ ap (λ (n : ℕ). new_passes c.in_ok-cell.cell c.args.state.log 0 n) (sym cell.cell.0 ∙ many);
      of_cell = subst (All (IsPassOf c.in_ok-cell.cell)) (sym made.passes) cell.of_cell;
      signers_are = made.signers;
      nonces_are = made.nonces;
    }
