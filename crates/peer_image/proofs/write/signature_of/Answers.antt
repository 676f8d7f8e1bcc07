use Rattle.peer_image.proofs.TwoRows.{short_there, signature_there}
use Rattle.peer_image.proofs.write.signature_of.Goals as goal

pub returns-clause-signature : goal.returns-clause-signature
returns-clause-signature g c =
    let one = c.capability_bytes-capability in
    signature_there (g.R.Row.value c.args.row.now) c.requires one.ensures.token c.token_bytes.result.now one.result.now c.token_bytes.ensures one.ensures.capability

pub returns-clause-short : goal.returns-clause-short
returns-clause-short g c =
    let one = c.capability_bytes-capability in
    short_there (g.R.Row.value c.args.row.now) c.requires one.ensures.token c.token_bytes.result.now one.result.now c.token_bytes.ensures one.ensures.capability
