use Rattle.peer_make.proofs.Signatures.{open_is}
use Rattle.scheme_core.specs.Open.{open_signature}
use Rattle.std.proofs.Common.{◌∙◌, ap}
use Rattle.peer_make.proofs.signing.sign_open.Goals as goal

pub returns-in-Ok : goal.returns-in-Ok
returns-in-Ok c =
    c.short.ensures
    ∙ open_is c.new.result c.args.message.now c.in-Ok.bytes.items c.in-Ok.ensures.given
    ∙ ap (λ key. open_signature key c.args.message.now) c.new.ensures
