use Rattle.std.proofs.Common.{List, ℕ, sym, subst}
use Rattle.std.specs.Prelude.{Contains}
use Rattle.peer_words.specs.Options.{IsValue, IsSet}
use Rattle.peer_words.specs.Verbs.{names_of}
use Rattle.peer_words.proofs.GivenValues.{some_set, none_set_so}
use Rattle.peer_words.proofs.SetOnce.{named, not_named}
use Rattle.peer_words.proofs.Walks.{behind, fit_further, unnamed, unvalued, repeated, all_fit}
use Rattle.peer_words.proofs.options.are_settings.Goals as goal

pub returns-then-not-has_option : goal.returns-then-not-has_option
returns-then-not-has_option c =
    unnamed (names_of c.args.verb) c.loop-left.left.now c.option-item.result c.value-item.result _ c.in-len2-up.len_at_least c.option-item.is c.value-item.is
    (λ is. not_named (names_of c.args.verb) c.deref.result.now (sym c.if-not-has_option.ensures) (subst (λ (n : List ℕ). Contains (names_of c.args.verb) n) (sym c.deref.ensures) is)) c.loop-left.invariant

pub returns-then-not-is_value : goal.returns-then-not-is_value
returns-then-not-is_value c =
    unvalued (names_of c.args.verb) c.loop-left.left.now c.option-item.result c.value-item.result _ c.in-len2-up.len_at_least c.option-item.is c.value-item.is
    (λ is. c.if-not-is_value.ensures (subst (λ (v : List ℕ). IsValue v) (sym c.deref-in-len2-up.ensures) is)) c.loop-left.invariant

pub returns-then-is_some : goal.returns-then-is_some
returns-then-is_some c =
    let again = some_set _ c.deref-in-len2-up-2.result.now c.value_in.result c.value_in.ensures c.if-is_some.ensures in
    repeated (names_of c.args.verb) c.loop-left.left.now c.option-item.result c.value-item.result _ c.in-len2-up.len_at_least c.option-item.is c.value-item.is
    again.0 (subst (λ (n : List ℕ). IsSet (behind c.loop-left.left.now) n again.0) c.deref-in-len2-up-2.ensures again.1) c.loop-left.invariant

pub loop-left-preserved : goal.loop-left-preserved
loop-left-preserved c =
    let alone = none_set_so _ c.deref-in-len2-up-2.result.now c.value_in.result c.value_in.ensures c.if-is_some.ensures in
    fit_further (names_of c.args.verb) c.loop-left.left.now c.option-item.result c.value-item.result _ c.in-len2-up.len_at_least c.option-item.is c.value-item.is
    (subst (λ (n : List ℕ). Contains (names_of c.args.verb) n) c.deref.ensures (named (names_of c.args.verb) c.deref.result.now (sym c.if-not-has_option.ensures)))
    (subst (λ (v : List ℕ). IsValue v) c.deref-in-len2-up.ensures c.if-not-is_value.ensures)
    (λ word is. alone word (subst (λ (n : List ℕ). IsSet (behind c.loop-left.left.now) n word) (sym c.deref-in-len2-up-2.ensures) is)) c.loop-left.invariant

pub returns : goal.returns
returns c = all_fit (names_of c.args.verb) c.loop-left.left.now _ c.in_default.len_below c.loop-left.invariant
