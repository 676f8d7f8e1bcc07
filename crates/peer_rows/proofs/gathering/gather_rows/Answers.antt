use Rattle.std.proofs.Common.{◌<◌, Option, Ok, ◌++◌, ◌∙◌, subst, arith}
use Rattle.std.specs.Prelude.{IfSome}
use Rattle.std.specs.Global.{Vec}
use Rattle.std.proofs.lemmas.Result.{err_from_is_err_and}
use Rattle.cap_codec.specs.Rows.{RawValue}
use Rattle.peer_rows.specs.Coming.{ComesNext}
use Rattle.peer_rows.proofs.Coming.{somewhat_on}
use Rattle.peer_rows.proofs.Gathered.{gathered_more, gathering_unpaid}
use Rattle.peer_rows.proofs.gathering.gather_rows.Goals as goal

pub rows-requires : goal.rows-requires
rows-requires g c = let r = c.requires in (r.0, r.1 ++ c.reads.rows.items, c.reads.invariant.come r.0 r.1 r.2)

pub returns-in_err-more-clause-gathers : goal.returns-in_err-more-clause-gathers
returns-in_err-more-clause-gathers g c = λ begun rows h.
    let so_far = c.reads.invariant in
    let p = err_from_is_err_and c.from_residual.result c.from_residual.ensures.1 in
    rw (p.1, p.2) (c.reads.rows.items, so_far.few, c.in_err-more.ensures.comes begun (rows ++ c.reads.rows.items) (so_far.come begun rows h))

pub returns-in_err-more-clause-somewhat : goal.returns-in_err-more-clause-somewhat
returns-in_err-more-clause-somewhat g c = somewhat_on (g.I.Source.facts c.args.input.now) (g.I.Source.facts c.reads.input) (g.I.Source.facts c.rows.new.input) c.reads.invariant.somewhat c.rows.ensures.somewhat

pub returns-in_default-clause-gathers : goal.returns-in_default-clause-gathers
returns-in_default-clause-gathers g c = λ begun rows h.
    let so_far = c.reads.invariant in
    let had = rows ++ c.reads.rows.items in
    (subst (λ (o : Option (Vec RawValue)). ComesNext begun (g.I.Source.facts c.rows.new.input) c.rows.new.self had (Ok o)) c.in_default.is (c.in_ok-more.ensures.comes begun had (so_far.come begun rows h)), so_far.few)

pub returns-in_default-clause-somewhat : goal.returns-in_default-clause-somewhat
returns-in_default-clause-somewhat g c = somewhat_on (g.I.Source.facts c.args.input.now) (g.I.Source.facts c.reads.input) (g.I.Source.facts c.rows.new.input) c.reads.invariant.somewhat c.rows.ensures.somewhat

pub returns-in_err-put_behind-clause-gathers : goal.returns-in_err-put_behind-clause-gathers
returns-in_err-put_behind-clause-gathers g c = λ begun rows h.
    let i = g.I.Source.facts c.args.input.now in
    let i' = g.I.Source.facts c.rows.new.input in
    let p = err_from_is_err_and c.from_residual-in_err-put_behind.result c.from_residual-in_err-put_behind.ensures.1 in
    rw (p.1, p.2) (gathering_unpaid begun i i' c.args.reading.now rows c.args.room h (somewhat_on i (g.I.Source.facts c.reads.input) i' c.reads.invariant.somewhat c.rows.ensures.somewhat))

pub returns-in_err-put_behind-clause-somewhat : goal.returns-in_err-put_behind-clause-somewhat
returns-in_err-put_behind-clause-somewhat g c = somewhat_on (g.I.Source.facts c.args.input.now) (g.I.Source.facts c.reads.input) (g.I.Source.facts c.rows.new.input) c.reads.invariant.somewhat c.rows.ensures.somewhat

pub returns-then-len-ge-STEP-clause-somewhat : goal.returns-then-len-ge-STEP-clause-somewhat
returns-then-len-ge-STEP-clause-somewhat g c = somewhat_on (g.I.Source.facts c.args.input.now) (g.I.Source.facts c.reads.input) (g.I.Source.facts c.rows.new.input) c.reads.invariant.somewhat c.rows.ensures.somewhat

pub reads-preserved : goal.reads-preserved
reads-preserved g c =
    let so_far = c.reads.invariant in
    let i' = g.I.Source.facts c.rows.new.input in
    let fewer : c.rows.new.self.left < c.reads.reading.left = subst (λ (o : Option (Vec RawValue)). IfSome o (λ rows. c.rows.new.self.left < c.reads.reading.left)) c.in-Some.is c.in_ok-more.ensures.fewer in
    record {
      come = λ begun rows h.
          let had = rows ++ c.reads.rows.items in
          gathered_more begun i' c.rows.new.self rows c.reads.rows.items c.in-Some.more.items c.put_behind.new.rows.items c.in_ok-put_behind.ensures
          (subst (λ (o : Option (Vec RawValue)). ComesNext begun i' c.rows.new.self had (Ok o)) c.in-Some.is (c.in_ok-more.ensures.comes begun had (so_far.come begun rows h)));
      few = omega (arith, c.if-len-room.false, c.len-else-len-ge-STEP.ensures);
      somewhat = somewhat_on (g.I.Source.facts c.args.input.now) (g.I.Source.facts c.reads.input) i' so_far.somewhat c.rows.ensures.somewhat;
      less = omega (arith, so_far.less, fewer);
      no_fault = c.in_ok-more.ensures.faults ∙ so_far.no_fault;
      ends = omega (arith, so_far.ends, c.rows.ensures.ends);
    }
