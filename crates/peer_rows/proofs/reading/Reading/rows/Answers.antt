use Rattle.std.proofs.Common.{◌≡◌, ℕ, List, ◌-◌, ◌≤◌, ◌<◌, ◌++◌, length, take, drop, ap, subst, arith}
use Rattle.std.specs.Prelude.{Err}
use Rattle.peer_stage.specs.declared.outcome.Stop.TheVariants as stop
use Rattle.std.specs.Io.KnownBytes.{Consumes}
use Rattle.std.specs.Vec.{with_items}
use Rattle.std.proofs.lemmas.Result.{err_from_is_err_and}
use Rattle.peer_rows.specs.Coming.{FeedsPiece}
use Rattle.peer_rows.proofs.Coming.{all_come, buffer_given, come_on, end_stops, piece_stops, piece_unpaid, read_too_far}
use Rattle.peer_rows.proofs.reading.Reading.rows.Goals as goal

pub returns-in_err-end_stream-in-Ok-eq0-clause-comes : goal.returns-in_err-end_stream-in-Ok-eq0-clause-comes
returns-in_err-end_stream-in-Ok-eq0-clause-comes g c = λ begun rows h.
    let i = g.I.Source.facts c.args.input.now in
    let i' = g.I.Source.facts c.read.new.self in
    let none : c.in-Ok-eq0.field-0 ≡ 0 = c.in-Ok-eq0.field-0-test in
    let some : 0 < length c.read.new.buf = omega (arith, c.read.auto.buf, c.deref_mut.ensures.len, c.truncate.ensures.len, c.max.ensures, c.args.self.now.piece.ok.0, c.requires.2.room) in
    let p = err_from_is_err_and c.from_residual.result c.from_residual.ensures.1 in
    rw (p.1, p.2) (end_stops begun i c.args.self.now rows h i'
    (subst (λ (k : ℕ). Consumes i.left i'.left (take k c.read.new.buf)) none c.in-Ok-eq0.ensures.bytes.0) (c.in-Ok-eq0.ensures.bytes.1 none some) (c.in-Ok-eq0.ensures.end.at_end none some)
    c.in_err-end_stream-in-Ok-eq0.field-0.0 c.in_err-end_stream-in-Ok-eq0.ensures)

pub returns-in_ok-end_stream-in-Ok-eq0-clause-comes : goal.returns-in_ok-end_stream-in-Ok-eq0-clause-comes
returns-in_ok-end_stream-in-Ok-eq0-clause-comes g c = λ begun rows h.
    let i = g.I.Source.facts c.args.input.now in
    let i' = g.I.Source.facts c.read.new.self in
    let none : c.in-Ok-eq0.field-0 ≡ 0 = c.in-Ok-eq0.field-0-test in
    let some : 0 < length c.read.new.buf = omega (arith, c.read.auto.buf, c.deref_mut.ensures.len, c.truncate.ensures.len, c.max.ensures, c.args.self.now.piece.ok.0, c.requires.2.room) in
    all_come begun i c.args.self.now rows h i'
    (subst (λ (k : ℕ). Consumes i.left i'.left (take k c.read.new.buf)) none c.in-Ok-eq0.ensures.bytes.0) (c.in-Ok-eq0.ensures.bytes.1 none some) (c.in-Ok-eq0.ensures.end.at_end none some)
    c.in_ok-end_stream-in-Ok-eq0.ensures

pub returns-then-self-eq0-clause-comes : goal.returns-then-self-eq0-clause-comes
returns-then-self-eq0-clause-comes g c = λ begun rows h.
    let i = g.I.Source.facts c.args.input.now in
    let i' = g.I.Source.facts c.read.new.self in
    let piece = take c.in-Ok.n c.read.new.buf in
    let some : 0 < length piece = omega (arith, c.in-Ok.ensures.bound, c.in-Ok.n-test) in
    rw c.bad_input.ensures (read_too_far begun i c.args.self.now rows h i' piece c.in-Ok.ensures.bytes.0 c.if-self-eq0.true some)

pub returns-in_ok-rows-in-Ok-clause-comes : goal.returns-in_ok-rows-in-Ok-clause-comes
returns-in_ok-rows-in-Ok-clause-comes g c = λ begun rows h.
    let i = g.I.Source.facts c.args.input.now in
    let i' = g.I.Source.facts c.read.new.self in
    let k = c.in-Ok.n in
    let buf = c.read.new.buf in
    let some : 0 < k = omega (arith, c.in-Ok.n-test) in
    let few : length (take k buf) ≤ c.args.self.now.left = omega (arith, c.in-Ok.ensures.bound, c.read.auto.buf, c.deref_mut.ensures.len, c.truncate.ensures.len, c.max.ensures, c.if-self-eq0.false) in
    let given : c.deref.result.now ≡ buf =
    buffer_given c.truncate.new.self.len buf (drop (length buf) c.truncate.new.self.items) c.deref.result.now c.deref.ensures.value (omega (arith, c.read.auto.buf, c.deref_mut.ensures.len, c.truncate.new.self.ok.0)) in
    come_on begun i c.args.self.now rows h i' (take k buf) c.in-Ok.ensures.bytes.0 few
    (record { stream = c.feed_piece.new.stream; piece = with_items c.truncate.new.self buf; left = c.args.self.now.left - k }) (rows ++ c.in_ok-rows-in-Ok.rows.items)
    (ap (λ (l : ℕ). c.args.self.now.left - l) c.in-Ok.ensures.bound.1) (subst (λ (l : List ℕ). 0 < length l) c.deref.ensures.value (omega (arith, ap length given, some, c.in-Ok.ensures.bound)))
    (rw given at (c.in_ok-rows-in-Ok.ensures h.bytes rows h.fed)) (c.in-Ok.ensures.end.gave_some some) c.in-Ok.ensures.cause

pub returns-in_err-rows-in-Ok-clause-comes : goal.returns-in_err-rows-in-Ok-clause-comes
returns-in_err-rows-in-Ok-clause-comes g c = λ begun rows h.
    let i = g.I.Source.facts c.args.input.now in
    let i' = g.I.Source.facts c.read.new.self in
    let k = c.in-Ok.n in
    let buf = c.read.new.buf in
    let few : length (take k buf) ≤ c.args.self.now.left = omega (arith, c.in-Ok.ensures.bound, c.read.auto.buf, c.deref_mut.ensures.len, c.truncate.ensures.len, c.max.ensures, c.if-self-eq0.false) in
    let given : c.deref.result.now ≡ buf =
    buffer_given c.truncate.new.self.len buf (drop (length buf) c.truncate.new.self.items) c.deref.result.now c.deref.ensures.value (omega (arith, c.read.auto.buf, c.deref_mut.ensures.len, c.truncate.new.self.ok.0)) in
    let e = c.in_err-rows-in-Ok.field-0.0 in
    let p = err_from_is_err_and c.from_residual-in_err-rows-in-Ok.result c.from_residual-in_err-rows-in-Ok.ensures.1 in
    rw (p.1, p.2) (piece_stops begun i c.args.self.now rows h i' (take k buf) c.in-Ok.ensures.bytes.0 few
    c.feed_piece.new.stream e (subst (λ (l : List ℕ). FeedsPiece (h.bytes ++ take k l) rows c.feed_piece.new.stream (Err e)) given (c.in_err-rows-in-Ok.ensures h.bytes rows h.fed)))

pub returns-in_err-rows-in-Ok-clause-memory : goal.returns-in_err-rows-in-Ok-clause-memory
returns-in_err-rows-in-Ok-clause-memory g c = λ begun rows h no_memory.
    let i = g.I.Source.facts c.args.input.now in
    let i' = g.I.Source.facts c.read.new.self in
    let k = c.in-Ok.n in
    let buf = c.read.new.buf in
    let some : 0 < k = omega (arith, c.in-Ok.n-test) in
    let few : length (take k buf) ≤ c.args.self.now.left = omega (arith, c.in-Ok.ensures.bound, c.read.auto.buf, c.deref_mut.ensures.len, c.truncate.ensures.len, c.max.ensures, c.if-self-eq0.false) in
    let e = c.in_err-rows-in-Ok.field-0.0 in
    let p = err_from_is_err_and c.from_residual-in_err-rows-in-Ok.result c.from_residual-in_err-rows-in-Ok.ensures.1 in
    let is : e ≡ stop.NoMemory = cc in
    piece_unpaid begun i c.args.self.now rows h i' (take k buf) c.in-Ok.ensures.bytes.0 few
    (record { stream = c.feed_piece.new.stream; piece = with_items c.truncate.new.self buf; left = c.args.self.now.left - k })
    (h.bytes ++ take k c.deref.result.now) e is (c.in_err-rows-in-Ok.ensures h.bytes rows h.fed) (c.in-Ok.ensures.end.gave_some some)
