use Rattle.range_split.proofs.Rising.{live_rows_rise}
use Rattle.sync_core.proofs.laws.live_rows_rise.Goals as goal

pub returns : goal.returns
returns c = live_rows_rise
