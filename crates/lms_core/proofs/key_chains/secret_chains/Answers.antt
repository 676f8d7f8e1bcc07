use Rattle.std.proofs.Common.{rules, ◌≡◌, ◌∙◌, ℕ, List, ap, sym, get_or, arith, inl, inr}
use Rattle.std.proofs.lemmas.Bool.{cases_lt}
use Rattle.std.proofs.lemmas.List.{get_or-set_same, get_or-set_other}
use Rattle.lms_core.specs.OneTime.{step}
use Rattle.lms_core.specs.Signer.{chain_start}
use Rattle.lms_core.proofs.ChainLists.{secret_chains-from}
use Rattle.lms_core.proofs.key_chains.secret_chains.Goals as goal

pub chains-preserved : goal.chains-preserved
unfolding chain_start
chains-preserved c =
    let start = c.chain_step.ensures ∙ ap (λ (bytes : List ℕ). step bytes 255 c.args.seed.now) c.input_front-front.ensures in (
      search rules,
      λ k low. elim (cases_lt k c.chains.number) [
        | inl before ↦ get_or-set_other c.chains.chains c.chains.number k _ _ (omega arith) ∙ c.chains.invariant.1 k before
        | inr past ↦
            let here : c.chains.number ≡ k = omega arith in
            rw (← here) (get_or-set_same c.chains.chains c.chains.number _ _ (omega arith)
            ∙ (λ i. record { front = c.input_front-front.ensures i; at = 0; to = get_or c.args.digits.now c.chains.number 0; value = start i }))
      ],
    )

pub returns : goal.returns
returns c = secret_chains-from _ _ _ _ _ _ (c.chains.invariant.0 ∙ sym c.told-digits) (λ k low. c.chains.invariant.1 k (omega arith))
