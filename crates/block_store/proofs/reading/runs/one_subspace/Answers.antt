use Rattle.std.proofs.Common.{◌≡◌, ◌-◌, sym, ap, ◌∙◌, subst, arith}
use Rattle.std.proofs.lemmas.Bool.{both_ways}
use Rattle.willow_path.specs.Key.{IsKey}
use Rattle.willow_path.proofs.PathOrder.{part_eq_decides}
use Rattle.willow_entry.specs.declared.entry.Entry.{Entry}
use Rattle.willow_entry.specs.Row.{IsRising}
use Rattle.willow_entry.proofs.Live.{live-rises}
use Rattle.block_store.specs.Blocks.{block_values}
use Rattle.block_store.proofs.BlockRuns.{read_at}
use Rattle.block_store.proofs.Narrowing.{one_between}
use Rattle.block_store.proofs.Pieces.{values_long}
use Rattle.block_store.proofs.reading.runs.one_subspace.Goals as goal

pub returns-then-eq-clause-one : goal.returns-then-eq-clause-one
returns-then-eq-clause-one g c k d le lt =
    let value = g.R.Row.value in
    let pieces = c.args.listing.now.pieces.items in
    let rows = block_values value pieces in
    let up : IsRising rows = subst IsRising c.args.listing.now.live (live-rises rows) in
    let first = ap (λ r. r.entry.subspace) (read_at value pieces c.args.low c.in_ok-first.first.now d c.in_ok-first.ensures) ∙ ap (λ (e : Entry). e.subspace) (sym c.entry.ensures.entry) in
    let last = ap (λ r. r.entry.subspace) (read_at value pieces (c.args.high - 1) c.in_ok-last.last.now d c.in_ok-last.ensures) ∙ ap (λ (e : Entry). e.subspace) (sym c.entry-2.ensures.entry) in
    let same = (part_eq_decides c.entry.result.now.subspace c.entry-2.result.now.subspace).0 (sym c.eq.ensures ∙ c.if-eq.true) in
    sym first ∙ one_between rows up c.requires.one c.args.low c.args.high d (omega (arith, values_long value pieces)) (first ∙ same ∙ sym last) k le lt

pub returns-else-eq-clause-several : goal.returns-else-eq-clause-several
returns-else-eq-clause-several g c h key all =
    let value = g.R.Row.value in
    let pieces = c.args.listing.now.pieces.items in
    let r = value c.in_ok-first.first.now in
    let s = value c.in_ok-last.last.now in
    let first = ap (λ t. t.entry.subspace) (read_at value pieces c.args.low c.in_ok-first.first.now r c.in_ok-first.ensures) in
    let last = ap (λ t. t.entry.subspace) (read_at value pieces (c.args.high - 1) c.in_ok-last.last.now r c.in_ok-last.ensures) in
    let low : key ≡ r.entry.subspace = all c.args.low r (omega arith) h (subst IsKey (sym first) c.entry.ensures.fits.subspace) ∙ first in
    let high : key ≡ s.entry.subspace = all (c.args.high - 1) r (omega arith) (omega arith) (subst IsKey (sym last) c.entry-2.ensures.fits.subspace) ∙ last in
    let same = ap (λ (e : Entry). e.subspace) c.entry.ensures.entry ∙ sym low ∙ high ∙ ap (λ (e : Entry). e.subspace) (sym c.entry-2.ensures.entry) in
    both_ways c.eq.result c.if-eq.false (c.eq.ensures ∙ (part_eq_decides c.entry.result.now.subspace c.entry-2.result.now.subspace).1 same)
