use Rattle.std.proofs.Common.{◌≡◌, ℕ, Bool, List, length, drop, Option, Bor, refl, sym, subst, arith}
use Rattle.std.specs.Prelude.{IfSome}
use Rattle.std.proofs.lemmas.List.{take_at}
use Rattle.peer_image.proofs.TwoParts.{front_rows_none, marks_long}
use Rattle.peer_rows.specs.Parts.{HasTakenPartTwo}
use Rattle.peer_rows.proofs.PartedImages.{HasReadSomeTwo, read_none_two, read_on_two, read_whole_two}
use Rattle.peer_rows.proofs.parts_two.log_behind_told.Goals as goal

pub parts-init : goal.parts-init
parts-init g c =
    let front = front_rows_none c.args.bytes.now c.args.head c.args.behind.now c.args.told.now c.args.middle.now c.in_ok-marks.marks.items c.requires.head c.requires.behind c.requires.told c.requires.all c.in_ok-marks.ensures.unset in
    read_none_two c.args.bytes.now (g.C.Checker.judged_in c.in_ok-checker.checker) c.args.head c.args.told.now c.in_ok-marks.marks.items (record { log = c.new.result; fronts = c.new-2.result }) c.args.middle.now front c.in_ok-checker.ensures c.new.ensures.kept
    c.new.ensures.counts c.new-2.ensures.items

pub take_part_two-requires-clause-marks : goal.take_part_two-requires-clause-marks
take_part_two-requires-clause-marks g c κs within =
    let h = c.parts.invariant in
    subst (λ (l : List Bool). length l ≡ length c.args.told.now) (sym c.deref_mut.ensures.value) (marks_long c.args.bytes.now c.args.head c.args.told.now h.seen c.parts.marks.items c.parts.left.now h.front)

pub parts-preserved : goal.parts-preserved
parts-preserved g c =
    let h = c.parts.invariant in
    let bytes = c.args.bytes.now in
    let told = c.args.told.now in
    let n = c.args.head.namespace in
    let left = c.parts.left.now in
    let rest = c.in-Some.rest.now in
    let old = c.parts.marks.items in
    let new = c.take_part_two.new.marks in
    let taken = c.take_part_two.new.taken in
    let judged_in = g.C.Checker.judged_in c.take_part_two.new.checker in
    let here = subst (λ (o : Option (Bor (List ℕ))). IfSome o (λ r. HasTakenPartTwo told c.deref_mut.result.now n h.seen left r.now new taken)) c.in-Some.is (c.in_ok-rest.ensures.takes n h.seen h.all_taken) in
    let part = subst (λ (l : List Bool). HasTakenPartTwo told l n h.seen left rest new taken) c.deref_mut.ensures.value here in
    let on = read_on_two bytes (g.C.Checker.judged_in c.parts.checker) judged_in c.args.head told old new c.parts.taken taken left rest h c.take_part_two.ensures.judged_in part in
    let was = marks_long bytes c.args.head told h.seen old left h.front in
    let are = marks_long bytes c.args.head told on.seen new rest on.front in
    let written = take_at new (drop (length new) old) c.parts.marks.len (omega (arith, was, are, c.parts.marks.ok.0)) in
    subst (λ (l : List Bool). HasReadSomeTwo bytes judged_in c.args.head told l taken rest) (sym written) on

pub returns-then-is_end_two : goal.returns-then-is_end_two
returns-then-is_end_two g c =
    read_whole_two c.args.bytes.now (g.C.Checker.judged_in c.parts.checker) c.args.head c.args.told.now c.parts.marks.items c.parts.taken c.parts.left.now c.deref.result.now c.parts.taken.log.counts.rows c.parts.invariant c.deref.ensures.value refl c.if-is_end_two.ensures
