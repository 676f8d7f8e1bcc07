use Rattle.std.proofs.Common.{◌≡◌, ◌++◌, ◌∙◌, List, false, sym, subst, arith}
use Rattle.std.specs.Bool.{◌==◌}
use Rattle.std.specs.Vec.{vec_len}
use Rattle.std.proofs.lemmas.Bool.Decides.{nat_tests}
use Rattle.cap_codec.specs.Rows.{RawValue}
use Rattle.peer_image.specs.ImageReading.{raw_rows}
use Rattle.peer_image.specs.Order.{IsInnerRising}
use Rattle.peer_rows.specs.Parts.{HaveFronts}
use Rattle.peer_rows.proofs.PartedImages.{fronts_rise}
use Rattle.peer_rows.proofs.parts.take_rows.Goals as goal

pub returns-in-Ok-clause-some : goal.returns-in-Ok-clause-some
returns-in-Ok-clause-some g c = λ yes.
    let is : (vec_len c.args.rows == 0) ≡ false = sym c.is_empty.ensures ∙ c.if-is_empty.false in
    grind (arith, nat_tests)

pub returns-in-Ok-clause-takes : goal.returns-in-Ok-clause-takes
returns-in-Ok-clause-takes g c = λ n seen h yes. record {
  is_log = c.in-Ok.ensures.offers n seen h.is_log;
  fits = c.in-Ok.ensures.fits;
  fronts = subst (λ (l : List RawValue). HaveFronts (seen ++ l) c.go_on.new.fronts.items) c.deref.ensures.value (c.in_ok-go_on.ensures.goes seen h.fronts c.if-not-branch.false);
}

pub returns-in-Err-NoMemory-clause-rising : goal.returns-in-Err-NoMemory-clause-rising
returns-in-Err-NoMemory-clause-rising g c =
    let old = c.args.taken.now.fronts.items in
    let taken = c.requires.taken in
    let goes = c.in_ok-go_on.ensures.goes taken.1 taken.2.fronts c.if-not-branch.false in
    let rise = fronts_rise taken.1 old taken.2.fronts c.deref.result.now goes.in_order in
    subst (λ (l : List RawValue). IsInnerRising (raw_rows old ++ raw_rows l)) c.deref.ensures.value rise
