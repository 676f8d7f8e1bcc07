use Rattle.cap_codec.proofs.row.RawRow.decode.Goals as goal

pub returns-clause-reads : goal.returns-clause-reads
returns-clause-reads c = rw c.in_ok-with_body.ensures (c.in_ok-parts.ensures.fits, c.in_ok-parts.ensures.spelled)
