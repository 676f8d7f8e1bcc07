use Rattle.std.proofs.Common.{rules, ◌≡◌, ◌+◌, ◌<◌, ◌^◌, ◌++◌, drop, length, refl}
use Rattle.sync_follow.specs.Hearing.{TakesAll}
use Rattle.sync_follow.proofs.Heard.{counted_on, hears_on, holds_on}
use Rattle.sync_follow.proofs.hear.hear_on.Goals as goal

pub returns-clause-hears : goal.returns-clause-hears
returns-clause-hears c =
    let old = c.args.ear.now in
    let bytes = c.hold.new.held.items in
    let rest = c.in_ok-ear.field-0.items in
    let n = c.in_ok-taken.taken in
    let all : bytes ≡ old.held.items ++ c.args.piece.now = search rules in
    let left : rest ≡ drop n bytes = search rules in
    let takes : TakesAll c.args.area.now old.place c.take_all.new.place bytes n c.args.came.now.items c.take_all.new.came.items = search rules in
    hears_on c.args.area.now old.place c.take_all.new.place old.at (old.at + n) old.held.items c.args.piece.now bytes rest n c.args.came.now.items c.take_all.new.came.items c.requires.holds all refl left takes

pub returns-clause-held : goal.returns-clause-held
returns-clause-held c =
    let old = c.args.ear.now in
    let bytes = c.hold.new.held.items in
    let rest = c.in_ok-ear.field-0.items in
    let n = c.in_ok-taken.taken in
    let all : bytes ≡ old.held.items ++ c.args.piece.now = search rules in
    let left : rest ≡ drop n bytes = search rules in
    let few : old.at + length bytes < 2 ^ 64 = search rules in
    let takes : TakesAll c.args.area.now old.place c.take_all.new.place bytes n c.args.came.now.items c.take_all.new.came.items = search rules in
    record {
      holds = holds_on c.args.area.now old.place c.take_all.new.place old.at (old.at + n) old.held.items c.args.piece.now bytes rest n c.args.came.now.items c.take_all.new.came.items c.requires.holds all refl left takes;
      counted = counted_on c.args.area.now old.place c.take_all.new.place old.at (old.at + n) old.held.items c.args.piece.now bytes rest n c.args.came.now.items c.take_all.new.came.items c.requires.holds all refl left takes few;
    }
