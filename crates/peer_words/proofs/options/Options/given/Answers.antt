use Rattle.peer_words.proofs.GivenValues.{gives_read, gives_nothing}
use Rattle.peer_words.proofs.options.Options.given.Goals as goal

pub returns-in-Some-clause-reads : goal.returns-in-Some-clause-reads
returns-in-Some-clause-reads g c = gives_read g.T.Word.spells c.args.self.now c.args.name.now c.in-Some.word.now c.of_word.result c.in-Some.ensures.0 c.in-Some.ensures.1 c.of_word.ensures.reads

pub returns-in-None-clause-reads : goal.returns-in-None-clause-reads
returns-in-None-clause-reads g c = gives_nothing g.T.Word.spells c.args.self.now c.args.name.now c.in-None.ensures
