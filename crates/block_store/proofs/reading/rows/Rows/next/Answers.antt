use Rattle.std.proofs.Common.{sym, ◌∙◌}
use Rattle.block_store.specs.Blocks.{block_rows, index_of}
use Rattle.block_store.proofs.Spans.{drop_is}
use Rattle.block_store.proofs.reading.rows.Rows.next.Goals as goal

pub returns-clause-next : goal.returns-clause-next
returns-clause-next g c =
    let pieces = c.self.inside.pieces.now in
    sym c.self.view_is ∙ drop_is (block_rows pieces) (index_of pieces c.self.inside.at) (index_of pieces c.next-self-inside.result) c.in_ok-row.row.now c.in_ok-row.ensures c.next-self-inside.ensures.index
