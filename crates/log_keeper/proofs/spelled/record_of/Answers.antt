use Rattle.std.proofs.Common.{length, ap, arith}
use Rattle.std.proofs.lemmas.List.{length-map}
use Rattle.log_keeper.specs.Slices.{logged_rows}
use Rattle.log_keeper.proofs.Keeping.{frames_long}
use Rattle.log_keeper.proofs.spelled.record_of.Goals as goal

pub put_record-requires : goal.put_record-requires
put_record-requires g c =
    let rows = logged_rows g.R.Row.value c.args.slice.now in
    omega (arith, frames_long rows c.requires.framed, c.requires.few, ap length c.in_ok-frames.ensures, ap length c.deref.ensures.value, length-map c.args.slice.now (λ logged. g.R.Row.value logged.row))
