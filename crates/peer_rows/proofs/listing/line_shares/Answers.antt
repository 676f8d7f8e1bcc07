use Rattle.std.proofs.Common.{◌≡◌, ℕ, ◌*◌, take, drop, get_or, sym, subst, arith}
use Rattle.std.specs.Prelude.{Result, Err, IfOk, IfSome}
use Rattle.std.specs.Global.{Vec}
use Rattle.std.specs.List.{flat_map}
use Rattle.std.proofs.lemmas.Option.{slice_get-get_or}
use Rattle.spelling.specs.declared.ending.NoMemory.{NoMemory}
use Rattle.peer_rows.specs.Listed.{row_line}
use Rattle.peer_rows.proofs.InShares.{line_shares}
use Rattle.peer_rows.proofs.Listed.{row_some}
use Rattle.peer_rows.proofs.listing.line_shares.Goals as goal

pub returns : goal.returns
returns g c =
    let rows = c.args.rows.now in
    let size = c.args.share in
    let shares = c.in_ok-shares.shares.items in
    line_shares row_line size rows shares row_some c.requires (omega (arith, c.in_ok-shares.ensures.len, c.in_ok-shares.shares.ok.0))
    (λ k below.
    let none : Result (Vec ℕ) NoMemory = Err (record {}) in
    let is = (c.in_ok-shares.ensures.each k none below).1 in
    let made = subst (λ l. IfOk (get_or shares k none) (λ bytes. bytes.items ≡ flat_map row_line l)) is.argument_is.value is.call in
    subst (λ share. IfSome share (λ s. IfOk s (λ bytes. bytes.items ≡ flat_map row_line (take size (drop (k * size) rows))))) (sym (slice_get-get_or shares k none below)) made)
