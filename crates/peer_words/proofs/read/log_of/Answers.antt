use Rattle.std.proofs.Common.{codes}
use Rattle.peer_words.specs.Options.{MayBeSet}
use Rattle.peer_words.specs.Values.{IsNameWord}
use Rattle.peer_words.proofs.Asking.{no_name}
use Rattle.peer_words.proofs.Endings.{passed_on}
use Rattle.peer_words.proofs.read.log_of.Goals as goal

pub returns-in_err-name : goal.returns-in_err-name
returns-in_err-name c =
    passed_on _ (MayBeSet IsNameWord c.args.options.now (codes "--log")) c.in_err-name.field-0.0 c.from_residual.result c.from_residual.ensures.1 c.in_err-name.ensures.reads
    (no_name c.args.options.now (codes "--log"))
