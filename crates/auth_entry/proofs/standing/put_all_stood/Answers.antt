use Rattle.std.proofs.Common.{◌≡◌, ◌+◌, ◌++◌, ◌∷◌, [], List, ap, append_assoc, sym, subst, take, ◌∙◌}
use Rattle.std.specs.List.{AllZip}
use Rattle.cap_codec.specs.Rows.{RawValue}
use Rattle.auth_entry.specs.Standings.{IsStood}
use Rattle.auth_entry.proofs.Lists.{passed}
use Rattle.auth_entry.proofs.standing.put_all_stood.Goals as goal

pub loop-row-preserved : goal.loop-row-preserved
loop-row-preserved g c =
    let rows = c.args.rows.now in
    let at = c.loop-row.row-index in
    let row = c.row-item.result in
    record {
      stood = λ before begun.
          let grown : before ++ take (at + 1) rows ≡ (before ++ take at rows) ++ row ∷ [] =
          ap (λ (l : List RawValue). before ++ l) (passed rows at row c.loop-row-test.true c.row-item.is) ∙ sym (append_assoc before (take at rows) (row ∷ [])) in
          subst (λ (l : List RawValue). AllZip (IsStood g.S.Verify.rules c.args.namespace.now c.put_stood.new.unknown) l c.put_stood.new.stood.items)
          (sym grown) (c.in_ok-put_stood.ensures.stood (before ++ take at rows) (c.loop-row.invariant.stood before begun));
      same = c.put_stood.ensures.same ∙ c.loop-row.invariant.same;
    }
