use Rattle.std.proofs.Common.{sym, ap, ◌∙◌, is_gt}
use Rattle.std.proofs.lemmas.Bool.{false≢true}
use Rattle.willow_entry.proofs.Ranks.{newer_decides, newer_from_rank, rank_from_newer, entry_rank_total, above_chain, not_above_itself}
use Rattle.willow_entry.proofs.laws.newer.Goals as goal

pub returns-clause-means : goal.returns-clause-means
returns-clause-means c = newer_decides

pub returns-clause-irreflexive : goal.returns-clause-irreflexive
returns-clause-irreflexive c = λ e n. false≢true (sym (not_above_itself entry_rank_total e) ∙ ap is_gt (rank_from_newer e e n))

pub returns-clause-transitive : goal.returns-clause-transitive
returns-clause-transitive c = λ e f g a b. newer_from_rank e g (above_chain entry_rank_total e f g (rank_from_newer e f a) (rank_from_newer f g b))
