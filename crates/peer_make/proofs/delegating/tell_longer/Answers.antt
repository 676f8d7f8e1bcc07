use Rattle.std.proofs.Common.{◌∷◌, [], inl, refl, arith}
use Rattle.std.proofs.lemmas.List.{length-append}
use Rattle.std.proofs.lemmas.Result.{err_from_is_err_and}
use Rattle.peer_make.proofs.Delegated.{too_many}
use Rattle.peer_make.proofs.delegating.tell_longer.Goals as goal

pub returns-then-len-ge-MAX_DELEGATIONS : goal.returns-then-len-ge-MAX_DELEGATIONS
returns-then-len-ge-MAX_DELEGATIONS g c = λ others. inl (too_many _ c.args.capability c.args.delegation.area c.args.delegation.user c.args.delegation.signature (omega arith), refl)

pub returns : goal.returns
returns g c = λ others. rw c.in_ok-push.ensures.added at (c.tell.ensures others)

pub returns-in_err-push : goal.returns-in_err-push
returns-in_err-push g c =
    let p = err_from_is_err_and c.from_residual.result c.from_residual.ensures.1 in
    let longer = length-append c.args.capability.chain (c.args.delegation ∷ []) in
    rw (p.1, p.2) (λ others. inl ((omega (arith, longer), omega (arith, longer)), refl))
