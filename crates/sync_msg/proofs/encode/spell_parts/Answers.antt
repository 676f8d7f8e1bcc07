use Rattle.std.proofs.Common.{arith}
use Rattle.std.specs.List.{flat_map}
use Rattle.sync_msg.specs.Items.{point_spelling}
use Rattle.sync_msg.proofs.Writing.{kept_through, three_written, written_on}
use Rattle.sync_msg.proofs.encode.spell_parts.Goals as goal

pub returns-in_err-spell_points-clause-kept : goal.returns-in_err-spell_points-clause-kept
returns-in_err-spell_points-clause-kept c =
    let written = three_written c.args.out.now.items _ _ _ c.put_byte.new.out.items c.put_byte-2.new.out.items c.put_byte-3.new.out.items c.in_ok-put_byte.ensures.written c.in_ok-put_byte-2.ensures.written c.in_ok-put_byte-3.ensures.written in
    kept_through c.args.out.now.items c.put_byte-3.new.out.items c.spell_points.new.out.items _ c.args.out.now.len c.put_byte-3.new.out.len (omega (arith, c.args.out.now.ok)) written c.spell_points.ensures.kept

pub returns-clause-kept : goal.returns-clause-kept
returns-clause-kept c =
    let written = three_written c.args.out.now.items _ _ _ c.put_byte.new.out.items c.put_byte-2.new.out.items c.put_byte-3.new.out.items c.in_ok-put_byte.ensures.written c.in_ok-put_byte-2.ensures.written c.in_ok-put_byte-3.ensures.written in
    let all = written_on c.args.out.now.items _ (flat_map point_spelling c.args.points.now) c.put_byte-3.new.out.items c.spell_points.new.out.items written c.in_ok-spell_points.ensures.spelled in
    kept_through c.args.out.now.items c.spell_points.new.out.items c.spell_prints.new.out.items _ c.args.out.now.len c.spell_points.new.out.len (omega (arith, c.args.out.now.ok)) all c.spell_prints.ensures.kept
