use Rattle.std.proofs.Common.{◌++◌, ℕ, List, map, ap, ◌∙◌}
use Rattle.spelling.proofs.Lists.{are_bytes}
use Rattle.sha_lanes.specs.declared.chain.Chain.{Chain}
use Rattle.sha_lanes.specs.Chain.{ended}
use Rattle.lms_core.specs.OneTime.{one_time_key}
use Rattle.lms_core.specs.Signer.{values_at, last_digits, key_of_leaf}
use Rattle.lms_core.specs.KeyChains.{lengthened, values_of}
use Rattle.lms_core.proofs.ChainLists.{values_of-ends, values_of-secret}
use Rattle.lms_core.proofs.tree.Tree.sign_chains.Goals as goal

pub returns-clause-key : goal.returns-clause-key
unfolding key_of_leaf
returns-clause-key c =
    let t = c.args.self.now in
    let digits = c.args.digits.now in
    let ran = c.run_chains.ensures ∙ ap (λ (chains : List Chain). map ended chains) c.secret_chains-chains.ensures in
    let on = c.lengthen.ensures ∙ ap (λ (chains : List Chain). map lengthened chains) ran in
    let ends = c.run_chains-2.ensures ∙ ap (λ (chains : List Chain). map ended chains) on in
    let bytes = are_bytes digits (λ i. record { fits = c.fits-digits i }) in
    let values = ap (λ (chains : List Chain). values_of chains) ends ∙ values_of-ends t.identifier t.seed c.args.index 0 digits bytes in
    let all = ap (λ (n : ℕ). values_at t.identifier t.seed c.args.index 0 (last_digits n)) c.told-digits in
    c.key_of_ends.ensures ∙ ap (one_time_key t.identifier c.args.index) (values ∙ all)

pub returns-clause-signed : goal.returns-clause-signed
returns-clause-signed c =
    let t = c.args.self.now in
    let ran = c.run_chains.ensures ∙ ap (λ (chains : List Chain). map ended chains) c.secret_chains-chains.ensures in
    let values = ap (λ (chains : List Chain). values_of chains) ran ∙ values_of-secret t.identifier t.seed c.args.index 0 c.args.digits.now in
    c.in_ok-append_values.ensures ∙ ap (λ (more : List ℕ). c.args.values.now.items ++ more) values
