use Rattle.std.proofs.Common.{rules, ◌≡◌, ◌∙◌, sym, get_or, arith, inl, inr}
use Rattle.std.proofs.lemmas.Bool.{cases_lt}
use Rattle.std.proofs.lemmas.List.{get_or-set_same, get_or-set_other}
use Rattle.lms_core.proofs.ChainLists.{told_chains-from}
use Rattle.lms_core.proofs.key_chains.told_chains.Goals as goal

pub told-preserved : goal.told-preserved
told-preserved c = (
  search rules,
  λ k low. elim (cases_lt k c.told.number) [
    | inl before ↦ get_or-set_other c.told.chains c.told.number k _ _ (omega arith) ∙ c.told.invariant.1 k before
    | inr past ↦
        let here : c.told.number ≡ k = omega arith in
        rw (← here) (get_or-set_same c.told.chains c.told.number _ _ (omega arith)
        ∙ (λ i. record { front = c.input_front.ensures i; at = get_or c.args.digits.now c.told.number 0; to = 255; value = c.field_at.ensures i }))
  ],
)

pub returns : goal.returns
returns c = told_chains-from _ _ _ _ _ _ (c.told.invariant.0 ∙ sym c.told-digits) (λ k low. c.told.invariant.1 k (omega arith))
