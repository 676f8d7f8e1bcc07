use Rattle.std.proofs.Common.{length, ◌-◌, arith, sym}
use Rattle.std.proofs.lemmas.List.{length-take}
use Rattle.willow_path.proofs.PartSuccessor.{key_here, key_before, key_none}
use Rattle.willow_path.proofs.successor.next_key.Goals as goal

pub returns-then-last-lt255 : goal.returns-then-last-lt255
returns-then-last-lt255 c =
    let i = c.loop-front.invariant in
    key_here c.args.bytes.now c.loop-front.front.now c.from_bytes.result c.filled.result (omega arith) i.short c.if-last-lt255.true i.so_far c.filled.ensures c.from_bytes.ensures

pub loop-front-preserved : goal.loop-front-preserved
loop-front-preserved c =
    let i = c.loop-front.invariant in
    record {
      short = omega (arith, length-take (length c.loop-front.front.now - 1) c.loop-front.front.now, i.short);
      so_far = key_before c.args.bytes.now c.loop-front.front.now (omega arith) i.short c.if-last-lt255.false i.so_far;
    }

pub returns : goal.returns
returns c = sym (key_none c.args.bytes.now c.loop-front.front.now _ (omega arith) c.loop-front.invariant.so_far)
