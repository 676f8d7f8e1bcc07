use Rattle.std.proofs.Common.{rules, arith}
use Rattle.std.proofs.lemmas.Result.{err_from_is_err_and}
use Rattle.spelling.proofs.Lists.{are_bytes}
use Rattle.spelling.specs.Form.{AreBytes}
use Rattle.willow_path.proofs.PathReading.{HasRead-none, HasRead-one, HasRead-ends, HasRead-all}
use Rattle.willow_path.proofs.path_codec.read_parts.Goals as goal

pub loop-i-init : goal.loop-i-init
loop-i-init c =
    let are : AreBytes c.args.input.now = rw (← c.front-whole.ensures) (are_bytes c.front-whole.result.now (λ i. search (rules, c.type_inv.whole i))) in
    HasRead-none c.args.input.now c.args.count are

pub returns-in_err-room-clause-gives : goal.returns-in_err-room-clause-gives
returns-in_err-room-clause-gives c =
    let f = HasRead-ends c.in_err-room.field-0.0 c.args.input.now c.loop-i.input c.args.count c.loop-i.i c.loop-i.room c.loop-i.invariant (omega arith) c.in_err-room.ensures.read in
    let p = err_from_is_err_and c.from_residual.result c.from_residual.ensures.1 in
    rw (p.1, p.2) f

pub loop-i-preserved : goal.loop-i-preserved
loop-i-preserved c =
    HasRead-one c.args.input.now c.loop-i.input c.read_part.new.input c.in_ok-room.field-0.now c.args.count c.loop-i.i c.loop-i.room c.loop-i.invariant (omega arith) c.in_ok-room.ensures.read

pub from_bytes-requires : goal.from_bytes-requires
from_bytes-requires c =
    let taken = rw c.front-whole.ensures at c.taken_of-taken.ensures in
    rw c.front-whole.ensures (HasRead-all c.args.input.now c.loop-i.input c.args.count c.loop-i.i c.loop-i.room c.taken_of-taken.result c.loop-i.invariant c.requires (omega arith) taken).path

pub returns-in_err-from_bytes-clause-asked : goal.returns-in_err-from_bytes-clause-asked
returns-in_err-from_bytes-clause-asked c = λ wants.
    let taken = rw c.front-whole.ensures at c.taken_of-taken.ensures in
    rw (HasRead-all c.args.input.now c.loop-i.input c.args.count c.loop-i.i c.loop-i.room c.taken_of-taken.result c.loop-i.invariant c.requires (omega arith) taken).reads tt

pub returns-clause-gives : goal.returns-clause-gives
returns-clause-gives c =
    let taken = rw c.front-whole.ensures at c.taken_of-taken.ensures in
    let parts = rw c.front-whole.ensures at c.in_ok-from_bytes.ensures in
    rw parts (HasRead-all c.args.input.now c.loop-i.input c.args.count c.loop-i.i c.loop-i.room c.taken_of-taken.result c.loop-i.invariant c.requires (omega arith) taken).reads
