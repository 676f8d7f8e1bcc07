use Rattle.std.proofs.Common.{◌≡◌, Ok, Err, List, ℕ, inl, refl, subst}
use Rattle.std.specs.Prelude.{Result}
use Rattle.std.specs.String.{string_bytes}
use Rattle.std.proofs.lemmas.Result.{err_from_is_err_and}
use Rattle.willow_outside.specs.Facts.{ShelfFacts}
use Rattle.peer_stage.specs.Shelves.{PutsBytes}
use Rattle.peer_stage.specs.declared.outcome.Done.TheVariants as done
use Rattle.peer_stage.specs.declared.outcome.Stop.{Stop}
use Rattle.peer_stage.proofs.Faults.{stop_stands}
use Rattle.peer_stage.proofs.Steps.{shelf_on, stops_writing, has_written}
use Rattle.peer_run.proofs.meeting.put_and_write.Goals as goal

puts_same : (name bytes is_name are_bytes : List ℕ) (h h' : ShelfFacts) (end : Result (Unit {0}) Stop) → name ≡ is_name → bytes ≡ are_bytes → PutsBytes name bytes h h' end → PutsBytes is_name are_bytes h h' end
puts_same name bytes is_name are_bytes h h' end named same puts = subst (λ (n : List ℕ). PutsBytes n are_bytes h h' end) named (subst (λ (b : List ℕ). PutsBytes name b h h' end) same puts)

pub returns-in_err-put_bytes-2 : goal.returns-in_err-put_bytes-2
returns-in_err-put_bytes-2 g c =
    let p = err_from_is_err_and c.from_residual-in_err-put_bytes-2.result c.from_residual-in_err-put_bytes-2.ensures.1 in
    let left_name = string_bytes c.args.left_out.now in
    let right_name = string_bytes c.args.right_out.now in
    let h = g.H.Shelf.facts c.args.shelf.now in
    let h1 = g.H.Shelf.facts c.put_bytes.new.shelf in
    let h2 = g.H.Shelf.facts c.put_bytes-2.new.shelf in
    let o = g.O.Sink.facts c.args.output.now in
    let e = c.in_err-put_bytes-2.field-0.0 in
    let left = puts_same c.as_str.result.now c.deref.result.now left_name c.args.met.left.items h h1 (Ok tt) c.as_str.ensures.value c.deref.ensures.value c.in_ok-put_bytes.ensures.puts in
    let right = puts_same c.as_str-2.result.now c.deref-2.result.now right_name c.args.met.right.items h1 h2 (Err e) c.as_str-2.ensures.value c.deref-2.ensures.value c.in_err-put_bytes-2.ensures.puts in
    rw (p.1, p.2) (λ others. shelf_on (PutsBytes left_name c.args.met.left.items) _ (record others { output = o }) h h1 (record others { shelf = h2; output = o }) tt (Err e)
    left c.put_bytes.ensures.read_faults c.in_ok-put_bytes.ensures.write_faults
    (inl (record { does = right; read_faults = stop_stands h1.read_faults h2.read_faults e c.put_bytes-2.ensures.read_faults; write_faults = c.in_err-put_bytes-2.ensures.write_faults; others = refl })))

pub returns-in_err-write_output : goal.returns-in_err-write_output
returns-in_err-write_output g c =
    let p = err_from_is_err_and c.from_residual-in_err-write_output.result c.from_residual-in_err-write_output.ensures.1 in
    let left_name = string_bytes c.args.left_out.now in
    let right_name = string_bytes c.args.right_out.now in
    let h = g.H.Shelf.facts c.args.shelf.now in
    let h1 = g.H.Shelf.facts c.put_bytes.new.shelf in
    let h2 = g.H.Shelf.facts c.put_bytes-2.new.shelf in
    let o = g.O.Sink.facts c.args.output.now in
    let o1 = g.O.Sink.facts c.write_output.new.output in
    let e = c.in_err-write_output.field-0.0 in
    let left = puts_same c.as_str.result.now c.deref.result.now left_name c.args.met.left.items h h1 (Ok tt) c.as_str.ensures.value c.deref.ensures.value c.in_ok-put_bytes.ensures.puts in
    let right = puts_same c.as_str-2.result.now c.deref-2.result.now right_name c.args.met.right.items h1 h2 (Ok tt) c.as_str-2.ensures.value c.deref-2.ensures.value c.in_ok-put_bytes-2.ensures.puts in
    rw (p.1, p.2) (λ others. shelf_on (PutsBytes left_name c.args.met.left.items) _ (record others { output = o }) h h1 (record others { shelf = h2; output = o1 }) tt (Err e)
    left c.put_bytes.ensures.read_faults c.in_ok-put_bytes.ensures.write_faults
    (shelf_on (PutsBytes right_name c.args.met.right.items) _ (record others { output = o }) h1 h2 (record others { shelf = h2; output = o1 }) tt (Err e)
    right c.put_bytes-2.ensures.read_faults c.in_ok-put_bytes-2.ensures.write_faults
    (record { does = stops_writing c.args.met.transcript.items c.deref-3.result.now (done.Met c.args.met.counts) o o1 e c.deref-3.ensures.value c.in_err-write_output.ensures.writes; faults = c.in_err-write_output.ensures.faults; others = refl })))

pub returns : goal.returns
returns g c =
    let left_name = string_bytes c.args.left_out.now in
    let right_name = string_bytes c.args.right_out.now in
    let h = g.H.Shelf.facts c.args.shelf.now in
    let h1 = g.H.Shelf.facts c.put_bytes.new.shelf in
    let h2 = g.H.Shelf.facts c.put_bytes-2.new.shelf in
    let o = g.O.Sink.facts c.args.output.now in
    let o1 = g.O.Sink.facts c.write_output.new.output in
    let is_done = done.Met c.args.met.counts in
    let left = puts_same c.as_str.result.now c.deref.result.now left_name c.args.met.left.items h h1 (Ok tt) c.as_str.ensures.value c.deref.ensures.value c.in_ok-put_bytes.ensures.puts in
    let right = puts_same c.as_str-2.result.now c.deref-2.result.now right_name c.args.met.right.items h1 h2 (Ok tt) c.as_str-2.ensures.value c.deref-2.ensures.value c.in_ok-put_bytes-2.ensures.puts in
    λ others. shelf_on (PutsBytes left_name c.args.met.left.items) _ (record others { output = o }) h h1 (record others { shelf = h2; output = o1 }) tt (Ok is_done)
    left c.put_bytes.ensures.read_faults c.in_ok-put_bytes.ensures.write_faults
    (shelf_on (PutsBytes right_name c.args.met.right.items) _ (record others { output = o }) h1 h2 (record others { shelf = h2; output = o1 }) tt (Ok is_done)
    right c.put_bytes-2.ensures.read_faults c.in_ok-put_bytes-2.ensures.write_faults
    (record { does = has_written c.args.met.transcript.items c.deref-3.result.now is_done o o1 c.deref-3.ensures.value c.in_ok-write_output.ensures.writes; faults = c.in_ok-write_output.ensures.faults; others = refl }))
