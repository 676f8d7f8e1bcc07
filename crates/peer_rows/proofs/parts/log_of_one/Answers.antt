use Rattle.std.proofs.Common.{ℕ, List, Option, Bor, refl, subst}
use Rattle.std.specs.Prelude.{IfSome}
use Rattle.peer_rows.specs.Parts.{HasTakenPart}
use Rattle.peer_rows.proofs.AskingParts.{head_opens, on_err}
use Rattle.peer_rows.proofs.PartedImages.{read_none, read_on, read_whole}
use Rattle.peer_rows.proofs.parts.log_of_one.Goals as goal

pub parts-init : goal.parts-init
parts-init g c =
    read_none c.args.bytes.now c.in-Some.head.0 c.in-Some.head.1.now (g.C.Checker.judged_in c.in_ok-checker.checker) (record { log = c.new.result; fronts = c.new-2.result }) c.in-Some.ensures c.in_ok-checker.ensures c.new.ensures.kept c.new.ensures.counts
    c.new-2.ensures.items

pub parts-preserved : goal.parts-preserved
parts-preserved g c =
    let h = c.parts.invariant in
    let taken = c.take_part.new.taken in
    read_on c.args.bytes.now (g.C.Checker.judged_in c.parts.checker) (g.C.Checker.judged_in c.take_part.new.checker) c.parts.taken taken c.parts.left.now c.in-Some-2.rest.now h c.take_part.ensures.judged_in
    (subst (λ (o : Option (Bor (List ℕ))). IfSome o (λ rest. HasTakenPart h.namespace h.seen c.parts.left.now rest.now taken)) c.in-Some-2.is (c.in_ok-rest.ensures.takes h.namespace h.seen h.all_taken))

pub returns-then-is_trailer-clause-logs : goal.returns-then-is_trailer-clause-logs
returns-then-is_trailer-clause-logs g c =
    read_whole c.args.bytes.now (g.C.Checker.judged_in c.parts.checker) c.parts.left.now c.parts.taken c.parts.taken.log.counts.rows c.parts.invariant refl c.if-is_trailer.ensures.0 c.if-is_trailer.ensures.1

pub returns-in_err-checker-clause-asked : goal.returns-in_err-checker-clause-asked
returns-in_err-checker-clause-asked g c = on_err c.from_residual.result (head_opens c.args.bytes.now c.in-Some.head.0 c.in-Some.head.1.now c.in-Some.ensures)

pub returns-in_err-rest-clause-asked : goal.returns-in_err-rest-clause-asked
returns-in_err-rest-clause-asked g c = on_err c.from_residual-in_err-rest.result (head_opens c.args.bytes.now c.in-Some.head.0 c.in-Some.head.1.now c.in-Some.ensures)
