use Rattle.std.proofs.Common.{◌++◌, sym, ap, ◌∙◌, append-nil}
use Rattle.block_store.specs.Held.{values_of}
use Rattle.block_store.specs.InBox.{is_in}
use Rattle.block_store.proofs.Walking.{from-none}
use Rattle.block_store.proofs.reading.walk.note_block.Goals as goal

pub returns-then-is_apart : goal.returns-then-is_apart
returns-then-is_apart g c =
    let found = c.args.found.now.items in
    sym (append-nil found) ∙ ap (λ l. found ++ l) (sym (from-none (is_in c.args.area.now) c.args.start (values_of g.R.Row.value c.args.block.now.rows.items) (c.is_apart.ensures c.if-is_apart.true)))
