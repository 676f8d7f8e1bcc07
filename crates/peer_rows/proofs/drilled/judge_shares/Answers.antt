use Rattle.std.proofs.Common.{◌≡◌, ◌+◌, ◌*◌, List, [], ◌∷◌, length, sym, ap, ◌∙◌, subst, arith, refl}
use Rattle.std.specs.Prelude.{Result, Ok}
use Rattle.std.specs.Global.{Vec}
use Rattle.std.specs.Vec.Iter.{into_iter_items}
use Rattle.std.proofs.lemmas.List.{nil_from_length}
use Rattle.spelling.specs.declared.ending.NoMemory.{NoMemory}
use Rattle.cap_codec.specs.Rows.{RawValue}
use Rattle.peer_rows.specs.Logged.{stored_rows}
use Rattle.peer_rows.specs.Drilled.{AreRowShares}
use Rattle.peer_rows.specs.declared.shares.TheConstants.{SHARE}
use Rattle.peer_rows.proofs.DrilledRows.{none_judged, share_judged, all_judged}
use Rattle.peer_rows.proofs.drilled.judge_shares.Goals as goal

pub loop-share-init : goal.loop-share-init
loop-share-init g c =
    let given = sym c.into_iter-share-iterator.ensures.into_iter_gives.0 in
    record {
      checks = refl;
      judged = none_judged c.args.from c.args.to (stored_rows c.args.entries.now.items) (into_iter_items c.into_iter-share-iterator.result)
          (subst (AreRowShares c.args.from) given c.requires.shares)
          (subst (λ (l : List (Result (Vec RawValue) NoMemory)). c.args.from + length l * SHARE ≡ c.args.to) given c.requires.whole);
    }

pub loop-share-preserved : goal.loop-share-preserved
loop-share-preserved g c =
    let now = into_iter_items c.loop-share.share-iterator in
    let rest = into_iter_items c.next.new.self in
    let next : now ≡ c.in-Some.share ∷ rest = c.in-Some.ensures.steps.0 in
    let made : c.in-Some.share ≡ Ok c.in_ok-share.field-0 = c.in_ok-share.was in
    let first : now ≡ Ok c.in_ok-share.field-0 ∷ rest = next ∙ ap (λ (share : Result (Vec RawValue) NoMemory). share ∷ rest) made in
    record {
      checks = c.in_ok-judge.ensures.namespace ∙ c.loop-share.invariant.checks;
      judged = share_judged c.args.from c.args.to (stored_rows c.args.entries.now.items) (stored_rows c.loop-share.entries.items) (stored_rows c.judge.new.entries.items) now rest c.in_ok-share.field-0 c.loop-share.invariant.judged first c.in_ok-judge.ensures.entries;
    }

pub returns-clause-entries : goal.returns-clause-entries
returns-clause-entries g c =
    let none : into_iter_items c.loop-share.share-iterator ≡ [] = nil_from_length (into_iter_items c.loop-share.share-iterator) (omega (arith, c.in-None.ensures.steps.0)) in
    all_judged c.args.from c.args.to (stored_rows c.args.entries.now.items) (stored_rows c.loop-share.entries.items) (into_iter_items c.loop-share.share-iterator) c.loop-share.invariant.judged none
