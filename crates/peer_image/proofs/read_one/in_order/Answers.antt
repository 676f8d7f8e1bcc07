use Rattle.std.proofs.Common.{◌≡◌, Some, sym, ap, ◌∙◌}
use Rattle.peer_image.specs.ImageOneReading.{raw_rows}
use Rattle.peer_image.specs.Order.{order_refusal}
use Rattle.peer_image.proofs.Misordered.{misordered}
use Rattle.peer_image.proofs.read_one.in_order.Goals as goal

pub returns-in-Ok-Some-clause-image : goal.returns-in-Ok-Some-clause-image
returns-in-Ok-Some-clause-image c =
    let e : order_refusal (raw_rows c.args.image.rows.items) ≡ Some c.in-Ok-Some.refusal = ap (λ l. order_refusal (raw_rows l)) (sym c.deref.ensures.value) ∙ sym c.in-Ok-Some.ensures.found ∙ c.in-Ok-Some.field-0-is in
    misordered c.args.bytes.now c.args.image.namespace c.args.image.rows.items c.in-Ok-Some.refusal c.requires e
