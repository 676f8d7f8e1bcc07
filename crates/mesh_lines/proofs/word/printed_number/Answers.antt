use Rattle.std.proofs.Common.{sym, ◌∙◌}
use Rattle.mesh_lines.proofs.Words.{unread, unprinted}
use Rattle.mesh_lines.proofs.word.printed_number.Goals as goal

pub returns-in_err-n : goal.returns-in_err-n
returns-in_err-n c = rw c.from_residual.ensures (unread c.args.text.now c.parse.result c.parse.ensures.value.0 (sym c.ok.ensures.value ∙ c.in_err-n.was))

pub returns-then-ne : goal.returns-then-ne
returns-then-ne c =
    unprinted c.args.text.now c.parse.result c.in_ok-n.n c.format.result.now c.ne.result c.parse.ensures.value.0 (sym c.ok.ensures.value ∙ c.in_ok-n.was) c.format.ensures.text c.ne.ensures c.if-ne.true
