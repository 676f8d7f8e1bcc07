use Rattle.std.proofs.Common.{◌≡◌, ◌∷◌, ◌++◌, take, ap, sym, ◌∙◌}
use Rattle.log_keeper.specs.LogFile.{log_mark}
use Rattle.log_keeper.proofs.NewLogs.{header_of}
use Rattle.log_keeper.proofs.reading.has_header.Goals as goal

pub returns-clause-yes : goal.returns-clause-yes
returns-clause-yes c =
    let front : c.split_at.result.0.now ≡ 1 ∷ log_mark ++ c.args.namespace.now = c.split_at.ensures.front ∙ ap (take 38) (c.deref.ensures.value ∙ c.in_ok-due.ensures.log) ∙ header_of c.args.namespace.now c.new_log.ensures.key.whole in
    λ same. c.same_bytes.ensures.yes same ∙ front

pub returns-clause-no : goal.returns-clause-no
returns-clause-no c =
    let front : c.split_at.result.0.now ≡ 1 ∷ log_mark ++ c.args.namespace.now = c.split_at.ensures.front ∙ ap (take 38) (c.deref.ensures.value ∙ c.in_ok-due.ensures.log) ∙ header_of c.args.namespace.now c.new_log.ensures.key.whole in
    λ other is. c.same_bytes.ensures.no other (is ∙ sym front)
