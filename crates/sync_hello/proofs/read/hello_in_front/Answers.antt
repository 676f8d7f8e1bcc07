use Rattle.spelling.proofs.Lists.{are_bytes}
use Rattle.sync_hello.proofs.InFront.{handed_on, hello_end, hello_taken}
use Rattle.sync_hello.proofs.read.hello_in_front.Goals as goal

pub returns-in_err-hello-clause-front : goal.returns-in_err-hello-clause-front
returns-in_err-hello-clause-front c =
    handed_on c.args.bytes.now c.in_err-hello.field-0.0 c.from_residual.result c.from_residual.ensures.1
    (hello_end c.args.bytes.now c.new-input.result c.read_whole.new.input c.in_err-hello.field-0.0 (are_bytes c.args.bytes.now c.type_inv.bytes) c.new-input.ensures c.in_err-hello.ensures.gives)

pub returns-clause-front : goal.returns-clause-front
returns-clause-front c =
    hello_taken c.args.bytes.now c.new-input.result c.in_ok-hello.hello c.read_whole.new.input c.taken_of.result (are_bytes c.args.bytes.now c.type_inv.bytes) c.new-input.ensures c.in_ok-hello.ensures.gives c.taken_of.ensures
