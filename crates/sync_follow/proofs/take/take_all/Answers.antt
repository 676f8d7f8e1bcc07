use Rattle.std.proofs.Common.{rules, ◌-◌, ℕ, List, length, take, drop, arith}
use Rattle.sync_follow.proofs.Heard.{front_none, front_by, last_by, front_over, taken_by, all_behind}
use Rattle.sync_follow.proofs.take.take_all.Goals as goal

pub taking-init : goal.taking-init
taking-init c = record { front = front_none c.args.area.now c.args.place.now c.args.bytes.now c.args.came.now.items }

pub take-requires : goal.take-requires
take-requires c = c.is_due.ensures.due (search rules)

pub taking-preserved : goal.taking-preserved
taking-preserved c =
    let now = c.taking in
    let bytes = c.args.bytes.now in
    let rest : List ℕ = take (length bytes - now.taken) (drop now.taken bytes) in
    record {
      front = front_by c.args.area.now c.args.place.now now.place c.take.new.place bytes now.taken c.args.came.now.items now.came.items c.take.new.came.items now.invariant.front rest (all_behind now.taken bytes) c.in-Ok-Some.field-0 c.in-Ok-Some.more c.in-Ok-Some.field-0-is c.in-Ok-Some.ensures;
    }

pub overflow_add-taken : goal.overflow_add-taken
overflow_add-taken c =
    let now = c.taking in
    let bytes = c.args.bytes.now in
    let rest : List ℕ = take (length bytes - now.taken) (drop now.taken bytes) in
    let some = taken_by c.args.area.now c.args.place.now now.place c.take.new.place bytes now.taken c.args.came.now.items now.came.items c.take.new.came.items now.invariant.front rest (all_behind now.taken bytes) c.in-Ok-Some.field-0 c.in-Ok-Some.more c.in-Ok-Some.field-0-is c.in-Ok-Some.ensures in
    omega (arith, some.1)

pub taking-smaller : goal.taking-smaller
taking-smaller c =
    let now = c.taking in
    let bytes = c.args.bytes.now in
    let rest : List ℕ = take (length bytes - now.taken) (drop now.taken bytes) in
    let some = taken_by c.args.area.now c.args.place.now now.place c.take.new.place bytes now.taken c.args.came.now.items now.came.items c.take.new.came.items now.invariant.front rest (all_behind now.taken bytes) c.in-Ok-Some.field-0 c.in-Ok-Some.more c.in-Ok-Some.field-0-is c.in-Ok-Some.ensures in
    omega (arith, some.0, some.1)

pub returns-in-Ok-None : goal.returns-in-Ok-None
returns-in-Ok-None c =
    let now = c.taking in
    let bytes = c.args.bytes.now in
    let rest : List ℕ = take (length bytes - now.taken) (drop now.taken bytes) in
    last_by c.args.area.now c.args.place.now now.place c.take.new.place bytes now.taken c.args.came.now.items now.came.items c.take.new.came.items now.invariant.front rest (all_behind now.taken bytes) c.in-Ok-None.field-0 c.in-Ok-None.field-0-is c.in-Ok-None.ensures

pub returns : goal.returns
returns c =
    let now = c.taking in
    front_over c.args.area.now c.args.place.now now.place c.args.bytes.now now.taken c.args.came.now.items now.came.items now.invariant.front (c.is_due.ensures.over (search rules))
