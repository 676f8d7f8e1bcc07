use Rattle.std.proofs.Common.{List, ℕ, ◌++◌, sym, ap, ◌∙◌}
use Rattle.spelling.proofs.Lists.{are_bytes}
use Rattle.peer_image.specs.ImageOne.{magic_one}
use Rattle.peer_image.specs.ImageOneReading.{header_at}
use Rattle.peer_image.proofs.OneStops.{header-reads, headless}
use Rattle.peer_image.proofs.parts.image_head.Goals as goal

pub returns-in-Ok : goal.returns-in-Ok
returns-in-Ok c =
    let bytes = c.args.bytes.now in
    let read = header-reads.takes bytes c.in-Ok.namespace c.read_header.new.input (are_bytes bytes c.type_inv.bytes) (ap header_at (sym c.new-input.ensures) ∙ c.in-Ok.ensures.gives) in
    record {
      key = read.fits;
      parts = read.parts ∙ ap (λ (l : List ℕ). (magic_one ++ c.in-Ok.namespace) ++ l) (sym c.front.ensures);
    }

pub returns-in-Err : goal.returns-in-Err
returns-in-Err c = headless c.in-Err.field-0 c.args.bytes.now c.new-input.result c.new-input.ensures c.in-Err.ensures.sure c.in-Err.ensures.gives
