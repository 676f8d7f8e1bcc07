use Rattle.std.proofs.Common.{ℕ, ◌≤◌, List, length, map, subst, ap, sym, ◌∙◌}
use Rattle.std.specs.List.{AllByRecursion}
use Rattle.std.proofs.lemmas.Result.{err_from_is_err_and}
use Rattle.willow_entry.specs.declared.frame.TheConstants.{MAX_FRAME}
use Rattle.peer_image.specs.Image.{capabilities}
use Rattle.peer_image.proofs.TwoPlaces.{Text, now_of}
use Rattle.peer_rows.proofs.Writing.{image_unpaid}
use Rattle.peer_rows.proofs.imaging.write_image_of.Goals as goal

pub write_told-requires-clause-told : goal.write_told-requires-clause-told
write_told-requires-clause-told g c =
    ap now_of c.deref.ensures.value ∙ c.in_ok-told.ensures.told ∙ ap (λ l. capabilities (map g.R.Row.value l)) c.rows.ensures.rows

pub write_told-requires-clause-short : goal.write_told-requires-clause-short
write_told-requires-clause-short g c =
    let P : List ℕ → Type 0 = λ t. length t ≤ MAX_FRAME in
    subst (λ (l : List Text). AllByRecursion P (now_of l)) (sym c.deref.ensures.value) c.in_ok-told.ensures.short

pub returns-in_err-told-clause-writes : goal.returns-in_err-told-clause-writes
returns-in_err-told-clause-writes g c =
    let p = err_from_is_err_and c.from_residual.result c.from_residual.ensures.1 in
    rw (p.1, p.2) (image_unpaid (g.O.Sink.facts c.args.output.now) c.args.namespace.now (map g.R.Row.value c.args.store.now))
