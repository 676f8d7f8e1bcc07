use Rattle.std.proofs.Common.{◌≡◌, length, map, arith}
use Rattle.std.proofs.lemmas.List.{length-map}
use Rattle.std.proofs.lemmas.Result.{on_ok_weaker}
use Rattle.peer_image.proofs.TwoPlaces.{image_written, told_few}
use Rattle.peer_image.proofs.write.put_image.Goals as goal

pub put_told-requires-clause-few : goal.put_told-requires-clause-few
put_told-requires-clause-few g c =
    let value = g.R.Row.value in
    omega (arith, told_few c.args.told.now (map value c.args.rows) c.requires.told, length-map c.args.rows value, c.requires.all)

pub put_rows_two-requires-clause-few : goal.put_rows_two-requires-clause-few
put_rows_two-requires-clause-few g c =
    let value = g.R.Row.value in
    omega (arith, told_few c.args.told.now (map value c.args.rows) c.requires.told, length-map c.args.rows value, c.requires.all, c.ranges.count)

pub returns : goal.returns
returns g c =
    let value = g.R.Row.value in
    let rows = map value c.args.rows in
    let count : c.args.count ≡ length rows = omega (arith, c.requires.all, length-map c.args.rows value) in
    on_ok_weaker c.put_trailer.result
    (λ trailed. image_written c.args.namespace.now rows c.args.told.now c.args.out.now.items c.put_told.new.out.items c.put_rows_two.new.out.items c.put_trailer.new.out.items c.args.count
    c.requires.told c.in_ok-put_told.ensures c.in_ok-put_rows_two.ensures trailed count)
    c.put_trailer.ensures.written
