use Rattle.std.proofs.Common.{map, ap₂, ◌∙◌}
use Rattle.sync_core.specs.Held.{ask_value, owed_value, settled}
use Rattle.sync_core.proofs.head.rows_told.Goals as goal

pub returns-clause-ok : goal.returns-clause-ok
returns-clause-ok c = λ rows.
    c.settle.ensures rows
    ∙ ap₂ (λ o r. settled (map (owed_value rows) c.args.ear.now.owed.items) (map ask_value o) c.args.count r) c.reserve.ensures.items c.new.ensures.items
