use Rattle.std.proofs.Common.{◌∷◌, [], ◌++◌, drop, arith, length-append}
use Rattle.std.proofs.lemmas.Result.{err_from_is_err_and}
use Rattle.peer_image.proofs.TwoReading.{some_told, told_asks, told_none, told_on}
use Rattle.peer_image.proofs.known.put_known.Goals as goal

pub told-init : goal.told-init
told-init c = rw c.requires.none (told_none c.args.bytes.now c.args.count)

pub told-preserved : goal.told-preserved
told-preserved c =
    rw (c.in_ok-push.ensures.items, c.behind-left.ensures) (told_on c.args.bytes.now c.args.count c.told.told.items c.deref.result.now c.told.left.now c.in-Ok.read.0 c.in-Ok.read.1 c.told.invariant (omega (arith, c.told-test.true)) c.deref.ensures.value c.in-Ok.ensures.next)

pub returns-in-Err-NoMemory-clause-asked : goal.returns-in-Err-NoMemory-clause-asked
returns-in-Err-NoMemory-clause-asked c =
    (omega (arith, c.told-test.true), told_asks c.args.bytes.now c.args.count c.told.told.items c.told.left.now c.told.invariant (c.in-Err-NoMemory.ensures.asked cc))

pub returns-in_err-push-clause-asked : goal.returns-in_err-push-clause-asked
returns-in_err-push-clause-asked c =
    let told = c.told.told.items in
    let next = c.in-Ok.read.0 in
    let on = told_on c.args.bytes.now c.args.count told c.deref.result.now c.told.left.now next c.in-Ok.read.1 c.told.invariant (omega (arith, c.told-test.true)) c.deref.ensures.value c.in-Ok.ensures.next in
    let p = err_from_is_err_and c.from_residual.result c.from_residual.ensures.1 in
    let whole = some_told c.args.bytes.now (told ++ next ∷ []) (drop c.in-Ok.read.1 c.told.left.now) on.fit on.parts (omega (arith, length-append told (next ∷ []))) in
    rw p.1 (omega (arith, c.told-test.true), whole)
