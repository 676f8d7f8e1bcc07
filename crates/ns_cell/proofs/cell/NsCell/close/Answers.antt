use Rattle.std.proofs.Common.{◌≡◌, ◌∙◌, sym, ap, subst, arith, length}
use Rattle.ns_state.specs.Log.{IsLog}
use Rattle.ns_cell.proofs.Joined.{closes, closed_log}
use Rattle.ns_cell.proofs.cell.NsCell.close.Goals as goal

-- all passes were given back
all_back : (g : _) (c : goal.After-drop-self-inside g) → length c.args.passes.items ≡ c.self.inside.table.shared.key.passes
all_back g c = let all = c.requires.all ∙ sym (ap (λ s. s.passes) c.self.view_is) in omega (arith, c.args.passes.ok.0)

pub returns-clause-closed : goal.returns-clause-closed
returns-clause-closed g c = closes g.R.Row.value _ c.args.passes.items c.join_all-seat.result.me.0 c.begin.new.seat.me.0 _ c.begin.result c.join_all-seat.ensures.joined (all_back g c) c.begin.ensures.took

pub returns-clause-log : goal.returns-clause-log
returns-clause-log g c = subst (λ space. IsLog g.R.Row.value space c.begin.result.log) (ap (λ s. s.namespace) c.self.view_is)
    (closed_log g.R.Row.value _ c.args.passes.items c.join_all-seat.result.me.0 c.begin.new.seat.me.0 _ c.begin.result c.join_all-seat.ensures.joined (all_back g c) c.begin.ensures.took)
