use Rattle.std.proofs.Common.{rules, ◌≡◌, ◌∷◌, ◌++◌, map, length, slice_get, Some, ap, arith}
use Rattle.exchange_rules.specs.AnyPeer.{part_asks}
use Rattle.sync_core.specs.Held.{ask_value}
use Rattle.sync_core.proofs.Parts.{asks_one}
use Rattle.sync_core.proofs.head.push_parts.Goals as goal

pub loop-i-preserved : goal.loop-i-preserved
loop-i-preserved c =
    let area = c.in-Some-Some.area in
    let print = c.in-Some-Some.print.now in
    let prints = c.args.prints.now in
    let rest = c.pop_front.new.self.items in
    let split : c.loop-i.rest.items ≡ area ∷ rest = search rules in
    let there : slice_get prints c.loop-i.i ≡ Some print = search rules in
    record {
      pushed = asks_one prints c.loop-i.opens.items c.push_reserved.new.opens.items c.loop-i.rest.items rest area c.loop-i.i print (map ask_value c.args.opens.now.items ++ part_asks c.args.parts.items prints) split there
          c.push_reserved.ensures.items c.loop-i.invariant.pushed;
      left = omega (arith, ap length split, c.loop-i.invariant.left);
      room = omega (arith, ap length split, c.loop-i.invariant.room, c.push_reserved.ensures.len, c.push_reserved.ensures.capacity);
    }
