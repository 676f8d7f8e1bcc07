use Rattle.std.proofs.Common.{sym, subst}
use Rattle.willow_entry.specs.Row.{IsRising}
use Rattle.block_store.proofs.reading.by_time.is_short.Goals as goal

pub looks_at-looks-requires : goal.looks_at-looks-requires
looks_at-looks-requires g c = subst IsRising (sym c.block.ensures.rows) c.block.ensures.rising
