use Rattle.std.proofs.Common.{◌≡◌, ◌∙◌, ◌∷◌, [], List, length, get_or, sym, ap, arith}
use Rattle.std.specs.Vec.Iter.{into_iter_items}
use Rattle.log_rule.proofs.Prefixes.{empty_from_length}
use Rattle.peer_make.specs.declared.key_signer.KeySigner.{KeySigner}
use Rattle.peer_run.proofs.SharedLog.{only_item}
use Rattle.peer_run.proofs.calling.only_of.Goals as goal

pub returns-clause-signer : goal.returns-clause-signer
returns-clause-signer c =
    let rest = into_iter_items c.next.new.self in
    let first = sym c.into_iter-signers.ensures.rest ∙ c.in-Some.ensures.cases.0 in
    let none : rest ≡ [] = empty_from_length rest (omega (arith, ap length first, c.args.signers.ok.0, c.requires.signers)) in
    first ∙ ap (λ (signers : List KeySigner). c.in-Some.signer ∷ signers) none

pub returns-clause-nonce : goal.returns-clause-nonce
returns-clause-nonce c = (get_or c.args.draws.now 0 [], only_item c.args.draws.now [] c.requires.draws, c.nonce_of.ensures)
