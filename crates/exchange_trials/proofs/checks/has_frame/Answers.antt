use Rattle.std.proofs.Common.{length, ap, arith}
use Rattle.std.proofs.lemmas.Bool.{leb-true}
use Rattle.std.proofs.lemmas.List.{length-append}
use Rattle.willow_entry.specs.EntryForm.{entry_spelling}
use Rattle.willow_entry.specs.RowBody.{row_body}
use Rattle.exchange_trials.proofs.checks.has_frame.Goals as goal

pub returns-then-entry_bytes-le65536 : goal.returns-then-entry_bytes-le65536
unfolding row_body
returns-then-entry_bytes-le65536 g c = λ few.
    let row = g.R.Row.value c.args.row.now in
    omega (
      arith,
      leb-true _ _ few,
      c.if-entry_bytes-le65536.true,
      ap length c.entry_bytes.ensures,
      ap length c.token_bytes.ensures,
      length-append (entry_spelling row.entry) row.token,
    )
