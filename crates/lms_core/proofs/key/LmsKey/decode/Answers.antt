use Rattle.spelling.proofs.Lists.{are_bytes}
use Rattle.lms_core.proofs.Files.{decoded_file, decoded_key}
use Rattle.lms_core.proofs.key.LmsKey.decode.Goals as goal

pub returns-clause-file : goal.returns-clause-file
returns-clause-file c = decoded_file c.args.bytes.now c.read.result (are_bytes c.args.bytes.now (λ i. c.type_inv.bytes i)) c.read.ensures

pub returns-clause-key : goal.returns-clause-key
returns-clause-key c = decoded_key c.args.bytes.now c.read.result (are_bytes c.args.bytes.now (λ i. c.type_inv.bytes i)) c.read.ensures
