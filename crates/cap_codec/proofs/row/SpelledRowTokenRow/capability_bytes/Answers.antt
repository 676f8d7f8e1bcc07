use Rattle.std.proofs.Common.{sym, ◌∙◌}
use Rattle.cap_codec.proofs.Spelled.{capability_again, spells_again}
use Rattle.cap_codec.proofs.row.SpelledRowTokenRow.capability_bytes.Goals as goal

pub returns-clause-capability : goal.returns-clause-capability
returns-clause-capability c = c.capability_bytes.ensures ∙ sym (capability_again c.args.self.now.token c.known.ensures.token_fits)

pub returns-clause-token : goal.returns-clause-token
returns-clause-token c = spells_again c.args.self.now.token c.known.ensures.token_fits
