use Rattle.std.proofs.Common.{codes, sym, ◌∙◌}
use Rattle.std.proofs.lemmas.Bool.{false≢true}
use Rattle.std.proofs.lemmas.Slice.Eq.{bytes_eq-Decides}
use Rattle.peer_words.proofs.GivenValues.{yes_asked, other_asked}
use Rattle.peer_words.proofs.options.Options.asked.Goals as goal

pub returns-then-eq-clause-reads : goal.returns-then-eq-clause-reads
returns-then-eq-clause-reads c =
    yes_asked c.args.self.now c.args.name.now c.in-Some.word.now c.in-Some.ensures.0 ((bytes_eq-Decides c.in-Some.word.now (codes "yes")).0 (sym c.if-eq.ensures))

pub returns-else-eq-clause-reads : goal.returns-else-eq-clause-reads
returns-else-eq-clause-reads c =
    other_asked c.args.self.now c.args.name.now c.in-Some.word.now c.in-Some.ensures.0 c.in-Some.ensures.1
    (λ same. false≢true (c.if-eq.ensures ∙ (bytes_eq-Decides c.in-Some.word.now (codes "yes")).1 same))
