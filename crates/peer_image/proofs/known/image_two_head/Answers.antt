use Rattle.std.proofs.Common.{List, ℕ, ◌++◌, sym, ap, ◌∙◌}
use Rattle.spelling.proofs.Lists.{are_bytes}
use Rattle.peer_image.specs.ImageTwoReading.{head_two_at, head_two_spelling}
use Rattle.peer_image.proofs.TwoHeads.{head-reads, no_head}
use Rattle.peer_image.proofs.known.image_two_head.Goals as goal

pub returns-in-Ok : goal.returns-in-Ok
returns-in-Ok c =
    let bytes = c.args.bytes.now in
    let read = head-reads.takes bytes c.in-Ok.head c.read_head.new.input (are_bytes bytes c.type_inv.bytes) (ap head_two_at (sym c.new-input.ensures) ∙ c.in-Ok.ensures.gives) in
    (read.fits, read.parts ∙ ap (λ (l : List ℕ). head_two_spelling c.in-Ok.head ++ l) (sym c.front.ensures))

pub returns-in-Err : goal.returns-in-Err
returns-in-Err c = no_head c.in-Err.field-0 c.args.bytes.now c.new-input.result c.new-input.ensures c.in-Err.ensures.sure c.in-Err.ensures.gives
