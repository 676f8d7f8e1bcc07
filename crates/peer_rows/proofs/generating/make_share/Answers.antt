use Rattle.std.proofs.Common.{◌≤◌, ℕ, List, ◌++◌, sym, ap, ◌∙◌, arith}
use Rattle.peer_listing.specs.Ranges.{frames_between}
use Rattle.peer_listing.proofs.Ranges.{frames_join}
use Rattle.peer_rows.proofs.generating.make_share.Goals as goal

pub rows-preserved : goal.rows-preserved
rows-preserved c =
    let made = c.rows.made in
    let next = c.min-next.result in
    let up : made ≤ next = omega (arith, c.min-next.ensures, c.rows-test.true) in
    record {
      order = omega (arith, c.rows.invariant.order, up);
      within = omega (arith, c.min-next.ensures);
      bytes =
          c.in_ok-put_frames.ensures
          ∙ ap (λ (l : List ℕ). l ++ frames_between made next) c.rows.invariant.bytes
          ∙ sym (frames_join c.args.from made next c.rows.invariant.order up);
    }
