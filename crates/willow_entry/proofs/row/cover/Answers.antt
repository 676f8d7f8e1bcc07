use Rattle.std.proofs.Common.{sym, ◌∙◌}
use Rattle.willow_entry.specs.Row.{is_covering}
use Rattle.willow_entry.proofs.Covering.{position-map, covering_found, covering_none}
use Rattle.willow_entry.proofs.row.cover.Goals as goal

pub returns-clause-first : goal.returns-clause-first
returns-clause-first g c = c.first_cover.ensures ∙ sym (position-map (λ r. is_covering r (g.R.Row.value c.args.s.now)) g.R.Row.value c.args.rows.now)

pub returns-clause-found : goal.returns-clause-found
returns-clause-found g c = covering_found _ _ c.first_cover.result (c.first_cover.ensures ∙ sym (position-map (λ r. is_covering r (g.R.Row.value c.args.s.now)) g.R.Row.value c.args.rows.now))

pub returns-clause-none : goal.returns-clause-none
returns-clause-none g c = covering_none _ _ c.first_cover.result (c.first_cover.ensures ∙ sym (position-map (λ r. is_covering r (g.R.Row.value c.args.s.now)) g.R.Row.value c.args.rows.now))
