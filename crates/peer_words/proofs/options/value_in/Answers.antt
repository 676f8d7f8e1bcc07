use Rattle.std.proofs.Common.{sym, ◌∙◌}
use Rattle.std.proofs.lemmas.Bool.{false≢true}
use Rattle.std.proofs.lemmas.Slice.Eq.{bytes_eq-Decides}
use Rattle.peer_words.proofs.Walks.{found, found_further, not_found}
use Rattle.peer_words.proofs.options.value_in.Goals as goal

pub returns-then-eq : goal.returns-then-eq
returns-then-eq c =
    found c.loop-left.left.now c.option-item.result c.value-item.result c.args.name.now c.as_str-then-eq.result.now _ c.in-len2-up.len_at_least c.option-item.is c.value-item.is
    (sym c.as_str.ensures.value ∙ (bytes_eq-Decides c.as_str.result.now c.args.name.now).0 (sym c.if-eq.ensures)) (sym c.as_str-then-eq.ensures.value) c.loop-left.invariant

pub loop-left-preserved : goal.loop-left-preserved
loop-left-preserved c =
    found_further c.loop-left.left.now c.option-item.result c.value-item.result c.args.name.now _ c.in-len2-up.len_at_least c.option-item.is c.value-item.is
    (λ same. false≢true (c.if-eq.ensures ∙ (bytes_eq-Decides c.as_str.result.now c.args.name.now).1 (c.as_str.ensures.value ∙ same))) c.loop-left.invariant

pub returns : goal.returns
returns c = not_found c.loop-left.left.now c.args.name.now _ c.in_default.len_below c.loop-left.invariant
