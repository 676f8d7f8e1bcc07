use Rattle.std.proofs.Common.{◌≡◌, ◌+◌, ◌-◌, ◌++◌, length, drop, refl, ap, arith}
use Rattle.std.proofs.lemmas.List.{length-map}
use Rattle.log_keeper.specs.LogFile.{record_body, IsRecord}
use Rattle.log_keeper.specs.Crashes.{HoldsBeforeOrAfter}
use Rattle.log_keeper.specs.Slices.{logged_rows}
use Rattle.log_keeper.specs.Torn.{IsTornAtGate}
use Rattle.log_keeper.proofs.Moments.{weaker}
use Rattle.log_keeper.proofs.Keeping.{either_left, keeps_more, is_record, frames_some, framed, body_long, last_long}
use Rattle.log_keeper.proofs.keeper.LogKeeper.write_record.Goals as goal

pub invariant_of-self : goal.invariant_of-self
invariant_of-self g c =
    let IsRow = g.F.RowForm.IsRow in
    let slice = logged_rows g.R.Row.value c.args.slice.now in
    let many : length slice ≡ length c.args.slice.now = length-map c.args.slice.now (λ logged. g.R.Row.value logged.row) in
    let fits : IsRecord IsRow slice = is_record IsRow slice c.requires.fit (omega (arith, c.requires.few, many)) in
    let s = c.self.inside in
    let contents = (g.D.Disk.facts s.disk).contents in
    let images = g.D.Disk.may_leave s.disk in
    let piece = c.args.piece.now in
    let place : s.end + (length piece - 1) ≡ s.end + 1 + length (record_body slice) = omega (arith, ap length c.requires.piece, last_long slice) in
    let number : s.count + length c.args.slice.now ≡ s.count + length slice = omega (arith, many) in
    record {
      few = omega (arith, c.self.invariant.few, place, many, frames_some slice (framed IsRow slice c.requires.fit), body_long slice);
      keeps = λ unbroken.
          let k = c.self.invariant.keeps unbroken in (
            k.0,
            k.1 ++ slice,
            keeps_more IsRow images s.end s.count k.0 k.1 slice fits piece c.requires.piece contents (g.D.Disk.facts c.write_gate_last.new.disk).contents (g.D.Disk.may_leave c.write_gate_last.new.disk) (s.end + (length piece - 1)) (s.count + length c.args.slice.now) k.2 c.in-Ok.ensures.contents c.in-Ok.ensures.settled place number,
          );
    }

pub returns-in-Ok-clause-step : goal.returns-in-Ok-clause-step
returns-in-Ok-clause-step g c =
    let IsRow = g.F.RowForm.IsRow in
    let slice = logged_rows g.R.Row.value c.args.slice.now in
    let many : length slice ≡ length c.args.slice.now = length-map c.args.slice.now (λ logged. g.R.Row.value logged.row) in
    let fits : IsRecord IsRow slice = is_record IsRow slice c.requires.fit (omega (arith, c.requires.few, many)) in
    let s = c.self.inside in
    let contents = (g.D.Disk.facts s.disk).contents in
    let images = g.D.Disk.may_leave s.disk in
    let piece = c.args.piece.now in
    let place : s.end + (length piece - 1) ≡ s.end + 1 + length (record_body slice) = omega (arith, ap length c.requires.piece, last_long slice) in
    let number : s.count + length c.args.slice.now ≡ s.count + length slice = omega (arith, many) in
    record {
      unbroken = c.requires.unbroken;
      moments = rw (← c.self.view_is) (λ namespace before k. weaker g.D.Disk.moment g.D.Disk.left_since s.disk c.write_gate_last.new.disk (IsTornAtGate contents s.end (drop 1 piece)) (HoldsBeforeOrAfter IsRow namespace before slice) (either_left IsRow images s.end s.count namespace before slice fits piece c.requires.piece contents k) c.write_gate_last.ensures.moments);
      kept = rw (← c.self.view_is) (λ namespace before k. keeps_more IsRow images s.end s.count namespace before slice fits piece c.requires.piece contents (g.D.Disk.facts c.write_gate_last.new.disk).contents (g.D.Disk.may_leave c.write_gate_last.new.disk) (s.end + (length piece - 1)) (s.count + length c.args.slice.now) k c.in-Ok.ensures.contents c.in-Ok.ensures.settled place number);
      memory = λ told. absurd (cc told);
      broken = λ why told. absurd (cc told);
    }

pub returns-in-Err-clause-step : goal.returns-in-Err-clause-step
returns-in-Err-clause-step g c =
    let IsRow = g.F.RowForm.IsRow in
    let slice = logged_rows g.R.Row.value c.args.slice.now in
    let fits : IsRecord IsRow slice = is_record IsRow slice c.requires.fit (omega (arith, c.requires.few, length-map c.args.slice.now (λ logged. g.R.Row.value logged.row))) in
    let s = c.self.inside in
    let contents = (g.D.Disk.facts s.disk).contents in
    let images = g.D.Disk.may_leave s.disk in
    let piece = c.args.piece.now in
    record {
      unbroken = c.requires.unbroken;
      moments = rw (← c.self.view_is) (λ namespace before k. weaker g.D.Disk.moment g.D.Disk.left_since s.disk c.write_gate_last.new.disk (IsTornAtGate contents s.end (drop 1 piece)) (HoldsBeforeOrAfter IsRow namespace before slice) (either_left IsRow images s.end s.count namespace before slice fits piece c.requires.piece contents k) c.write_gate_last.ensures.moments);
      kept = tt;
      memory = λ told. absurd (cc told);
      broken = λ why told. refl;
    }
