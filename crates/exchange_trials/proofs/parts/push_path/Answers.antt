use Rattle.std.proofs.Common.{◌≡◌, sym, refl, subst, Result, Ok, Err}
use Rattle.std.specs.Prelude.{OnOk}
use Rattle.std.specs.List.{AllByRecursion}
use Rattle.willow_area.specs.declared.cut.CutAt.TheVariants as cuts
use Rattle.sync_msg.specs.CutPoints.{dimension}
use Rattle.sync_msg.proofs.OneDimension.{one_more_of, all_more}
use Rattle.exchange_trials.proofs.parts.push_path.Goals as goal

pub push-requires-clause-one : goal.push-requires-clause-one
push-requires-clause-one c = one_more_of 1 c.args.points.now (cuts.Path c.args.path) c.requires.paths refl

on_ok : {T E A B : Type 0} (r : Result T E) → (A → B) → OnOk r A → OnOk r B
on_ok (Ok x) f h = f h
on_ok (Err e) f h = tt

pub returns : goal.returns
returns c =
    on_ok c.push.result
    (λ e. subst (AllByRecursion (λ at. dimension at ≡ 1)) (sym e) (all_more 1 c.args.points.now (cuts.Path c.args.path) c.requires.paths refl))
    c.push.ensures.added
