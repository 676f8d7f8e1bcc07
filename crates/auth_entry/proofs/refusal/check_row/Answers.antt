use Rattle.std.proofs.Common.{sym, ◌∙◌}
use Rattle.auth_entry.proofs.Early.{early_none, token_begins}
use Rattle.auth_entry.proofs.refusal.check_row.Goals as goal

pub returns-clause-early : goal.returns-clause-early
returns-clause-early g c = λ want. early_none g.S.Verify.rules c.args.namespace.now c.args.row.now (sym c.claim_refusal.ensures ∙ c.in_default.is) (token_begins g.S.Verify.rules c.token.result.now c.args.row.now.token c.token.ensures.token c.in_ok-check_capability.ensures.answer)
