use Rattle.std.proofs.Common.{◌≡◌, ℕ, ◌++◌, List, [], length, map, refl, subst, ap, sym, ◌∙◌, append-nil, arith}
use Rattle.std.proofs.lemmas.List.{length-map}
use Rattle.std.proofs.lemmas.Result.{err_from_is_err_and}
use Rattle.peer_image.specs.Image.{image, trailer}
use Rattle.peer_image.proofs.TwoPlaces.{told_few}
use Rattle.peer_rows.specs.Writing.{IsWritingOut}
use Rattle.peer_rows.proofs.Writing.{behind_told, behind_told_some, image_begun, image_unpaid, piece_grows, trailer_some, writing_ends, writing_unpaid}
use Rattle.peer_rows.proofs.imaging.write_told.Goals as goal

pub overflow_cast-told : goal.overflow_cast-told
overflow_cast-told g c =
    let many = length-map c.args.store.now g.R.Row.value in
    omega (arith, told_few c.args.told.now (map g.R.Row.value c.args.store.now) c.requires.told, many, c.len-count.ensures, c.len-count.type_inv)

pub write_rows-requires-clause-few : goal.write_rows-requires-clause-few
write_rows-requires-clause-few g c =
    let many = length-map c.args.store.now g.R.Row.value in
    omega (arith, told_few c.args.told.now (map g.R.Row.value c.args.store.now) c.requires.told, many, c.len-count.ensures, c.len-count.type_inv)

pub returns-in_err-put_head_two-clause-writes : goal.returns-in_err-put_head_two-clause-writes
returns-in_err-put_head_two-clause-writes g c =
    let p = err_from_is_err_and c.from_residual.result c.from_residual.ensures.1 in
    rw (p.1, p.2) (image_unpaid (g.O.Sink.facts c.args.output.now) c.args.namespace.now (map g.R.Row.value c.args.store.now))

pub returns-in_err-write_capabilities-clause-writes : goal.returns-in_err-write_capabilities-clause-writes
returns-in_err-write_capabilities-clause-writes g c =
    let p = err_from_is_err_and c.from_residual-in_err-write_capabilities.result c.from_residual-in_err-write_capabilities.ensures.1 in
    let rows = map g.R.Row.value c.args.store.now in
    let o = g.O.Sink.facts c.args.output.now in
    let whole = image c.args.namespace.now rows in
    let begun = image_begun o c.args.namespace.now rows rows c.args.told.now (length c.args.told.now) c.args.piece.now.items c.put_head_two.new.out.items c.requires.told refl refl c.requires.empty c.in_ok-put_head_two.ensures.written in
    rw (p.1, p.2) (c.in_err-write_capabilities.ensures.writes o whole (behind_told c.args.told.now rows (length rows)) begun (behind_told_some c.args.told.now rows (length rows)))

pub returns-in_err-write_rows-clause-writes : goal.returns-in_err-write_rows-clause-writes
returns-in_err-write_rows-clause-writes g c =
    let p = err_from_is_err_and c.from_residual-in_err-write_rows.result c.from_residual-in_err-write_rows.ensures.1 in
    let rows = map g.R.Row.value c.args.store.now in
    let o = g.O.Sink.facts c.args.output.now in
    let whole = image c.args.namespace.now rows in
    let begun = image_begun o c.args.namespace.now rows (map g.R.Row.value c.rows.result) c.args.told.now (length c.args.told.now) c.args.piece.now.items c.put_head_two.new.out.items c.requires.told refl (ap (map g.R.Row.value) c.rows.ensures.rows) c.requires.empty c.in_ok-put_head_two.ensures.written in
    let capable = c.in_ok-write_capabilities.ensures.writes o whole (behind_told c.args.told.now (map g.R.Row.value c.rows.result) (length rows)) begun (behind_told_some c.args.told.now (map g.R.Row.value c.rows.result) (length rows)) in
    rw (p.1, p.2) (c.in_err-write_rows.ensures.writes o whole (trailer (length rows)) capable (trailer_some (length rows)))

pub returns-in_err-put_trailer-clause-writes : goal.returns-in_err-put_trailer-clause-writes
returns-in_err-put_trailer-clause-writes g c =
    let p = err_from_is_err_and c.from_residual-in_err-put_trailer.result c.from_residual-in_err-put_trailer.ensures.1 in
    let rows = map g.R.Row.value c.args.store.now in
    let o = g.O.Sink.facts c.args.output.now in
    let whole = image c.args.namespace.now rows in
    let begun = image_begun o c.args.namespace.now rows (map g.R.Row.value c.rows.result) c.args.told.now (length c.args.told.now) c.args.piece.now.items c.put_head_two.new.out.items c.requires.told refl (ap (map g.R.Row.value) c.rows.ensures.rows) c.requires.empty c.in_ok-put_head_two.ensures.written in
    let capable = c.in_ok-write_capabilities.ensures.writes o whole (behind_told c.args.told.now (map g.R.Row.value c.rows.result) (length rows)) begun (behind_told_some c.args.told.now (map g.R.Row.value c.rows.result) (length rows)) in
    let last = trailer (length rows) in
    rw (p.1, p.2) (writing_unpaid o (g.O.Sink.facts c.write_rows.new.output) whole c.write_rows.new.piece.items last (c.in_ok-write_rows.ensures.writes o whole last capable (trailer_some (length rows))) (trailer_some (length rows)))

pub returns-clause-writes : goal.returns-clause-writes
returns-clause-writes g c =
    let rows = map g.R.Row.value c.args.store.now in
    let o = g.O.Sink.facts c.args.output.now in
    let whole = image c.args.namespace.now rows in
    let begun = image_begun o c.args.namespace.now rows (map g.R.Row.value c.rows.result) c.args.told.now (length c.args.told.now) c.args.piece.now.items c.put_head_two.new.out.items c.requires.told refl (ap (map g.R.Row.value) c.rows.ensures.rows) c.requires.empty c.in_ok-put_head_two.ensures.written in
    let capable = c.in_ok-write_capabilities.ensures.writes o whole (behind_told c.args.told.now (map g.R.Row.value c.rows.result) (length rows)) begun (behind_told_some c.args.told.now (map g.R.Row.value c.rows.result) (length rows)) in
    let last = trailer (length rows) in
    let here = c.in_ok-write_rows.ensures.writes o whole last capable (trailer_some (length rows)) in
    let o' = g.O.Sink.facts c.write_rows.new.output in
    let piece = c.write_rows.new.piece.items in
    let many : c.len-count.result ≡ length rows = omega (arith, c.len-count.ensures, length-map c.args.store.now g.R.Row.value) in
    let put = c.in_ok-put_trailer.ensures.written ∙ ap (λ (k : ℕ). piece ++ trailer k) many in
    let all = piece_grows o o' whole piece c.put_trailer.new.out.items last [] (subst (λ (l : List ℕ). IsWritingOut o o' whole piece l) (sym (append-nil last)) here) put in
    writing_ends o o' whole c.put_trailer.new.out.items (g.O.Sink.facts c.write_output.new.output) c.deref.result.now c.write_output.result all c.deref.ensures.value c.write_output.ensures.writes
