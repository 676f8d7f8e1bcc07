use Rattle.std.proofs.Common.{◌++◌, ◌∷◌, [], List, ap, sym, ◌∙◌, arith}
use Rattle.willow_entry.specs.declared.entry.Entry.{Entry}
use Rattle.peer_listing.specs.Generator.{generated_entry}
use Rattle.peer_listing.specs.Ranges.{entries_between}
use Rattle.peer_listing.proofs.Ranges.{made_more}
use Rattle.peer_listing.proofs.signing.entries_between.Goals as goal

pub rows-preserved : goal.rows-preserved
rows-preserved c =
    c.in_ok-push.ensures.items
    ∙ ap (λ (entries : List Entry). entries ++ c.in_ok-generated_entry.field-0 ∷ []) c.rows.invariant
    ∙ ap (λ (entry : Entry). entries_between c.args.from c.rows.i ++ entry ∷ []) c.in_ok-generated_entry.ensures
    ∙ sym (made_more generated_entry c.args.from c.rows.i (omega (arith, c.rows.auto.i)))
