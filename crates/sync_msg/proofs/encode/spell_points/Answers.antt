use Rattle.std.proofs.Common.{◌≡◌, ◌++◌, subst, arith}
use Rattle.std.specs.Prelude.{IfSome}
use Rattle.sync_msg.specs.Items.{point_spelling}
use Rattle.sync_msg.proofs.Writing.{there, spelled_more, kept_more}
use Rattle.sync_msg.proofs.encode.spell_points.Goals as goal

pub loop-i-preserved : goal.loop-i-preserved
loop-i-preserved c =
    let found = there c.args.points.now c.loop-i.i (omega (arith, c.loop-i-test.true, c.len-i-end.ensures.length)) in
    let added : c.spell_point_at.new.out.items ≡ c.loop-i.out.items ++ point_spelling found.0 =
    subst (λ o. IfSome o (λ point. c.spell_point_at.new.out.items ≡ c.loop-i.out.items ++ point_spelling point)) found.1 c.in_ok-spell_point_at.ensures.spelled in
    record {
      so_far = spelled_more point_spelling c.args.points.now c.loop-i.i found.0 c.args.out.now.items c.loop-i.out.items c.spell_point_at.new.out.items found.1 c.loop-i.invariant.so_far added;
      kept = kept_more c.args.out.now.items c.loop-i.out.items (point_spelling found.0) c.spell_point_at.new.out.items c.args.out.now.len (omega (arith, c.args.out.now.ok)) c.loop-i.invariant.kept added;
    }
