use Rattle.std.proofs.lemmas.Result.{err_from_is_err_and}
use Rattle.willow_entry.proofs.entry_codec.read_behind_keys.Goals as goal

pub returns-in_err-timestamp-clause-gives : goal.returns-in_err-timestamp-clause-gives
returns-in_err-timestamp-clause-gives c =
    let e = err_from_is_err_and c.from_residual-in_err-timestamp.result c.from_residual-in_err-timestamp.ensures.1 in
    rw (e.1, c.in_ok-path.ensures.gives, e.2) (c.in_err-timestamp.ensures.gives c.args.namespace c.args.subspace c.in_ok-path.path)

pub returns-clause-gives : goal.returns-clause-gives
returns-clause-gives c = rw c.in_ok-path.ensures.gives (c.in_ok-timestamp.ensures.gives c.args.namespace c.args.subspace c.in_ok-path.path)
