use Rattle.std.proofs.Common.{◌≡◌, ℕ, List, [], ◌∷◌, ◌++◌, map, ap, ◌∙◌, arith}
use Rattle.std.specs.Vec.Iter.{into_iter_items}
use Rattle.std.proofs.lemmas.List.{nil_from_length}
use Rattle.lms_core.specs.Use.{peer_rules}
use Rattle.auth_entry.specs.Authorised.{AuthorisedValue, verdict}
use Rattle.peer_listing.specs.Generator.{generator_namespace}
use Rattle.peer_rows.proofs.DrilledRows.{entries_of, entry_kept, none_kept, all_kept}
use Rattle.peer_rows.proofs.drilled.judge.Goals as goal

pub loop-judged-preserved-in-Continue-branch-2 : goal.loop-judged-preserved-in-Continue-branch-2
loop-judged-preserved-in-Continue-branch-2 g c =
    let next : into_iter_items c.loop-judged.judged-iterator ≡ c.in-Some.judged ∷ into_iter_items c.next.new.self = c.in-Some.ensures.steps.0 in
    ap (λ (l : List AuthorisedValue). l ++ entries_of (into_iter_items c.next.new.self)) c.in_ok-push-in-Ok.ensures.items
    ∙ entry_kept (c.args.entries.now.items ++ entries_of (into_iter_items c.into_iter-judged-iterator.result)) (into_iter_items c.loop-judged.judged-iterator) (into_iter_items c.next.new.self) c.in-Some.judged c.loop-judged.entries.items c.loop-judged.invariant next c.in-Ok.entry c.in-Ok.is

pub loop-judged-preserved : goal.loop-judged-preserved
loop-judged-preserved g c =
    let next : into_iter_items c.loop-judged.judged-iterator ≡ c.in-Some.judged ∷ into_iter_items c.next.new.self = c.in-Some.ensures.steps.0 in
    none_kept (c.args.entries.now.items ++ entries_of (into_iter_items c.into_iter-judged-iterator.result)) (into_iter_items c.loop-judged.judged-iterator) (into_iter_items c.next.new.self) c.in-Some.judged c.loop-judged.entries.items c.loop-judged.invariant next c.in-Err.field-0 c.in-Err.is

pub returns-clause-entries : goal.returns-clause-entries
returns-clause-entries g c =
    let none : into_iter_items c.loop-judged.judged-iterator ≡ [] = nil_from_length (into_iter_items c.loop-judged.judged-iterator) (omega (arith, c.in-None.ensures.steps.0)) in
    let rows = c.args.rows.items in
    let given : into_iter_items c.into_iter-judged-iterator.result ≡ map (verdict peer_rules generator_namespace) rows =
    c.into_iter-judged-iterator.ensures.into_iter_gives.0 ∙ c.in_ok-judged-items.ensures.verdicts ∙ ap (λ (n : List ℕ). map (verdict peer_rules n) rows) c.requires in
    all_kept generator_namespace rows (into_iter_items c.into_iter-judged-iterator.result) (into_iter_items c.loop-judged.judged-iterator) c.args.entries.now.items c.loop-judged.entries.items c.loop-judged.invariant none given
