use Rattle.peer_words.proofs.GivenValues.{only_found}
use Rattle.peer_words.proofs.options.Options.value_of.Goals as goal

pub returns : goal.returns
returns c = only_found _ c.args.self.now c.self.view_is c.self.invariant c.args.name.now c.value_in.result c.value_in.ensures
