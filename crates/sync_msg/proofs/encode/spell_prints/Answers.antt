use Rattle.std.proofs.Common.{List, ℕ, arith}
use Rattle.sync_msg.proofs.Writing.{spelled_more, kept_more}
use Rattle.sync_msg.proofs.encode.spell_prints.Goals as goal

pub loop-i-preserved : goal.loop-i-preserved
loop-i-preserved c =
    let added = c.in_ok-put_bytes-in-Some.ensures.written in
    record {
      so_far = spelled_more (λ (print : List ℕ). print) c.args.prints.now c.loop-i.i c.in-Some.print.now c.args.out.now.items c.loop-i.out.items c.put_bytes.new.out.items c.in-Some.ensures c.loop-i.invariant.so_far added;
      kept = kept_more c.args.out.now.items c.loop-i.out.items c.in-Some.print.now c.put_bytes.new.out.items c.args.out.now.len (omega (arith, c.args.out.now.ok)) c.loop-i.invariant.kept added;
    }
