use Rattle.willow_area.proofs.TimesReads.{read_is_above}
use Rattle.willow_area.proofs.times_codec.read_above.Goals as goal

pub returns-clause-above : goal.returns-clause-above
returns-clause-above c =
    let are = rw c.front.ensures at c.highest.ensures.bytes in
    let high = rw c.front.ensures at c.highest.ensures.highest in
    read_is_above c.number_u64.result c.guard.result c.in_ok-guard.field-0 c.args.start c.highest.result c.args.input.now c.number_u64.new.self are high c.guard.ensures c.in_ok-guard.was c.number_u64.ensures.gives
