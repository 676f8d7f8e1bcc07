use Rattle.std.proofs.Common.{◌∙◌, ◌<◌, length, get_or, refl, sym, ap, arith}
use Rattle.std.proofs.lemmas.List.{get_or_default, length-set}
use Rattle.sync_link.proofs.Offered.{later_self, later_trans}
use Rattle.peer_run.proofs.FedPlaces.{before_on}
use Rattle.peer_run.proofs.MetPasses.{is_met, met_on, none_met}
use Rattle.peer_run.proofs.feeding.meet_all.Goals as goal

pub loop-at-init : goal.loop-at-init
loop-at-init c = record {
  later = later_self c.args.own.now;
  own = refl;
  many = refl;
  ahead = λ k x above. refl;
  met = none_met c.args.passes.now c.args.own.now 0 c.args.passes.now refl;
}

pub meet-requires : goal.meet-requires
meet-requires c =
    let at = c.loop-at.at in
    let one = c.index-passes-at.result in
    let inv = c.loop-at.invariant in
    record { passes = (inv.later.cell ∙ c.requires.own, ap (λ p. p.cell) (inv.ahead at one (omega arith)) ∙ c.requires.passes at one c.loop-at-test.true) }

pub loop-at-preserved : goal.loop-at-preserved
loop-at-preserved c =
    let at = c.loop-at.at in
    let inv = c.loop-at.invariant in
    let met = c.meet.ensures in
    let olds = c.args.passes.now in
    let passes = c.loop-at.passes in
    let own = c.meet.new.one in
    let new = c.meet.new.other in
    let one = get_or passes at c.index-passes-at.result in
    let within : at < length passes = omega (arith, c.loop-at-test.true, inv.many) in
    record {
      later = later_trans c.args.own.now c.loop-at.own own inv.later met.later.0;
      own = met.own.0 ∙ inv.own;
      many = omega (arith, length-set passes at new, inv.many);
      ahead = before_on olds passes at new inv.ahead;
      met =
          met_on olds at passes c.loop-at.own own one new within met.later.0.seen (λ d. sym (inv.ahead at d (omega arith)) ∙ get_or_default passes at d c.index-passes-at.result within) (is_met own one new met.later.1 met.own.1 met.same)
          inv.met;
    }

pub returns : goal.returns
returns c =
    let inv = c.loop-at.invariant in
    record { met = record { later = inv.later; own = inv.own; as_many = inv.many; each = λ at old new below. inv.met at old new (omega (arith, below, c.loop-at-test.false)) } }
