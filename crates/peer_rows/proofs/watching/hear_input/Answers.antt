use Rattle.std.proofs.Common.{◌+◌, ◌∙◌, refl, sym, arith}
use Rattle.std.proofs.lemmas.Result.{err_from_is_err_and}
use Rattle.sub_hub.specs.Seen.{hub_seen}
use Rattle.peer_rows.proofs.ReadLog.{read_ends, read_goes_on}
use Rattle.peer_rows.proofs.Watched.{all_heard, front_within, heard_none, heard_on, kept_many, left_few, some_heard}
use Rattle.peer_rows.proofs.watching.hear_input.Goals as goal

pub pieces-init : goal.pieces-init
pieces-init g c = record {
  read = λ had opened. opened.read;
  checks = c.requires.namespace;
  heard = heard_none c.args.intake.now.log (hub_seen (λ w. (goal.Watcher-dyn g (w.vtable, w.value)).told w.value) c.args.hub.now);
  no_fault = refl;
  not_ended = refl;
}

pub next-requires-clause-namespace : goal.next-requires-clause-namespace
next-requires-clause-namespace g c κs within =
    let opened = c.requires.opened in
    c.pieces.invariant.checks ∙ sym (c.pieces.invariant.read opened.0 opened.1).taken_in.is_log.of_namespace

pub next-requires-clause-read : goal.next-requires-clause-read
next-requires-clause-read g c κs within =
    let opened = c.requires.opened in
    (c.args.intake.now.log.kept.namespace, opened.0, g.I.Source.facts c.args.input.now, c.pieces.invariant.read opened.0 opened.1)

pub returns-in_err-came-clause-hears : goal.returns-in_err-came-clause-hears
returns-in_err-came-clause-hears g c = λ had opened.
    let n = c.args.intake.now.log.kept.namespace in
    let i = g.I.Source.facts c.args.input.now in
    let h = hub_seen (λ w. (goal.Watcher-dyn g (w.vtable, w.value)).told w.value) c.args.hub.now in
    let now = hub_seen (λ w. (goal.Watcher-dyn g (w.vtable, w.value)).told w.value) c.pieces.hub in
    let so_far = c.pieces.invariant in
    let read = so_far.read had opened in
    let p = err_from_is_err_and c.from_residual.result c.from_residual.ensures.1 in
    rw (p.1, p.2) (c.in_err-came.ensures.reads n had i read, some_heard n had i (g.I.Source.facts c.pieces.input) c.args.intake.now.log h now c.pieces.left opened.whole (g.I.Source.facts c.next.new.input) c.pieces.reading c.pieces.intake read so_far.heard c.next.ensures.somewhat)

pub tell-left-requires : goal.tell-left-requires
tell-left-requires g c =
    let n = c.args.intake.now.log.kept.namespace in
    let i = g.I.Source.facts c.args.input.now in
    let h = hub_seen (λ w. (goal.Watcher-dyn g (w.vtable, w.value)).told w.value) c.args.hub.now in
    let now = hub_seen (λ w. (goal.Watcher-dyn g (w.vtable, w.value)).told w.value) c.pieces.hub in
    let so_far = c.pieces.invariant in
    front_within c.args.intake.now.log c.pieces.intake.log h now c.pieces.left (kept_many c.args.intake.now.log c.args.hub.now.front c.requires.front) so_far.heard c.next.new.intake.log c.in_ok-came.ensures.longer

pub overflow_add-left : goal.overflow_add-left
overflow_add-left g c =
    let n = c.args.intake.now.log.kept.namespace in
    let i = g.I.Source.facts c.args.input.now in
    let h = hub_seen (λ w. (goal.Watcher-dyn g (w.vtable, w.value)).told w.value) c.args.hub.now in
    let now = hub_seen (λ w. (goal.Watcher-dyn g (w.vtable, w.value)).told w.value) c.pieces.hub in
    let so_far = c.pieces.invariant in
    let next = hub_seen (λ w. (goal.Watcher-dyn g (w.vtable, w.value)).told w.value) c.tell-left.new.hub in
    let heard = heard_on c.args.intake.now.log c.pieces.intake.log h now c.pieces.left (kept_many c.args.intake.now.log c.args.hub.now.front c.requires.front) so_far.heard c.next.new.intake.log next c.tell-left.result c.in_ok-came.ensures.longer c.tell-left.ensures.told in
    omega (arith, left_few c.args.intake.now.log c.next.new.intake.log h next (c.pieces.left + c.tell-left.result) heard c.tell-left.ensures.few)

pub pieces-preserved : goal.pieces-preserved
pieces-preserved g c =
    let n = c.args.intake.now.log.kept.namespace in
    let i = g.I.Source.facts c.args.input.now in
    let h = hub_seen (λ w. (goal.Watcher-dyn g (w.vtable, w.value)).told w.value) c.args.hub.now in
    let now = hub_seen (λ w. (goal.Watcher-dyn g (w.vtable, w.value)).told w.value) c.pieces.hub in
    let so_far = c.pieces.invariant in
    let next = hub_seen (λ w. (goal.Watcher-dyn g (w.vtable, w.value)).told w.value) c.tell-left.new.hub in
    let opened = c.requires.opened in
    let on = read_goes_on n opened.0 i (g.I.Source.facts c.next.new.input) c.next.new.self c.next.new.intake _ c.if-not-came.false (c.in_ok-came.ensures.reads n opened.0 i (so_far.read opened.0 opened.1)) in
    record {
      read = λ had opened. read_goes_on n had i (g.I.Source.facts c.next.new.input) c.next.new.self c.next.new.intake _ c.if-not-came.false (c.in_ok-came.ensures.reads n had i (so_far.read had opened));
      checks = c.in_ok-came.ensures.namespace ∙ so_far.checks;
      heard =
          heard_on c.args.intake.now.log c.pieces.intake.log h now c.pieces.left (kept_many c.args.intake.now.log c.args.hub.now.front c.requires.front) so_far.heard c.next.new.intake.log next c.tell-left.result c.in_ok-came.ensures.longer c.tell-left.ensures.told;
      no_fault = on.come.no_fault;
      not_ended = on.come.not_ended;
    }

pub returns-then-not-came-clause-hears : goal.returns-then-not-came-clause-hears
returns-then-not-came-clause-hears g c = λ had opened.
    let n = c.args.intake.now.log.kept.namespace in
    let i = g.I.Source.facts c.args.input.now in
    let h = hub_seen (λ w. (goal.Watcher-dyn g (w.vtable, w.value)).told w.value) c.args.hub.now in
    let now = hub_seen (λ w. (goal.Watcher-dyn g (w.vtable, w.value)).told w.value) c.pieces.hub in
    let so_far = c.pieces.invariant in
    let next = hub_seen (λ w. (goal.Watcher-dyn g (w.vtable, w.value)).told w.value) c.tell-left.new.hub in
    let read = read_ends n had i (g.I.Source.facts c.next.new.input) c.next.new.self c.next.new.intake _ c.if-not-came.true (c.in_ok-came.ensures.reads n had i (so_far.read had opened)) in
    let heard = heard_on c.args.intake.now.log c.pieces.intake.log h now c.pieces.left (kept_many c.args.intake.now.log c.args.hub.now.front c.requires.front) so_far.heard c.next.new.intake.log next c.tell-left.result c.in_ok-came.ensures.longer c.tell-left.ensures.told in
    all_heard n had i (g.I.Source.facts c.next.new.input) c.args.intake.now.log h next (c.pieces.left + c.tell-left.result) opened.whole c.next.new.intake.log read heard
