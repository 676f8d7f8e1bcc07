use Rattle.std.proofs.Common.{All, Contains, sym, subst}
use Rattle.recency_index.proofs.index.Recency.replace.Goals as goal

pub take_all-requires-clause-held : goal.take_all-requires-clause-held
take_all-requires-clause-held c = subst (λ v. All (λ g. Contains v.items g) c.args.gone.now) (sym c.self.view_is) c.requires.held
