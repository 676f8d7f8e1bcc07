use Rattle.std.proofs.Common.{◌≡◌, ◌∙◌, ◌≤◌, ◌+◌, true, length, refl, sym, subst, arith, rules}
use Rattle.willow_outside.specs.Counts.{HasRisen}
use Rattle.peer_run.specs.LogFiles.{FileState, file_state, slice_values}
use Rattle.peer_run.proofs.KeptKeeps.{keep_done, keep_lost, keep_none}
use Rattle.peer_run.proofs.KeptSlices.{many_values}
use Rattle.peer_run.proofs.log_file.LogFile.keep_slice.Goals as goal

pub returns-in-Ok-clause-kept : goal.returns-in-Ok-clause-kept
returns-in-Ok-clause-kept g c =
    let f = c.args.self.now in
    let kept = c.in-Ok.ensures in
    let slice = c.args.slice.now in
    let rows = slice_values slice in
    let many = many_values slice in
    let whole = sym c.is_broken.ensures ∙ c.if-is_broken.false in
    let few : length rows ≤ 256 = omega (arith, c.requires.few, many) in
    keep_done g.K.Disk.facts f.keeper c.keep.new.self f.kept f.front c.in-Ok.held _ rows c.known_slice.ensures few whole (c.requires.room.room whole).1 kept.contents kept.unbroken kept.number.0 (omega (arith, kept.number.1, many)) kept.end
    (c.slices_are_short.ensures rows c.known_slice.ensures few) (omega (arith, c.requires.some, many)) kept.cause kept.told (omega (arith, many))

-- for want of memory the keeper is as it was
pub returns-in-Err-NoMemory-clause-same : goal.returns-in-Err-NoMemory-clause-same
returns-in-Err-NoMemory-clause-same g c =
    let f = c.args.self.now in
    let same : c.keep.new.self ≡ f.keeper = search rules in
    subst (λ k. let file : FileState = file_state g.K.Disk.facts (record { keeper = k; kept = f.kept; front = f.front }) in file ≡ file_state g.K.Disk.facts f) (sym same) refl

pub returns-in-Err-NoMemory-clause-unbroken : goal.returns-in-Err-NoMemory-clause-unbroken
returns-in-Err-NoMemory-clause-unbroken g c = sym c.is_broken.ensures ∙ c.if-is_broken.false

pub returns-then-is_broken-clause-kept : goal.returns-then-is_broken-clause-kept
returns-then-is_broken-clause-kept g c =
    let f = c.args.self.now in
    let broken = sym c.is_broken.ensures ∙ c.if-is_broken.true in
    keep_none g.K.Disk.facts f.keeper f.kept f.front (f.front + length c.args.slice.now) (slice_values c.args.slice.now) broken (omega (arith, many_values c.args.slice.now))

pub returns-in-Err-Refused-clause-kept : goal.returns-in-Err-Refused-clause-kept
returns-in-Err-Refused-clause-kept g c =
    let f = c.args.self.now in
    let d = g.K.Disk in
    let slice = c.args.slice.now in
    let many = many_values slice in
    let whole = sym c.is_broken.ensures ∙ c.if-is_broken.false in
    let broken : c.keep.new.self.broken ≡ true = search rules in
    let reads : (d.facts c.keep.new.self.disk).read_faults ≡ (d.facts f.keeper.disk).read_faults = search rules in
    let risen : HasRisen (d.facts f.keeper.disk).write_faults (d.facts c.keep.new.self.disk).write_faults = search rules in
    keep_lost d.facts d.may_leave d.moment d.left_since g.met.K.Disk.contents_left g.met.K.Disk.counts_now f.keeper c.keep.new.self f.kept f.front (f.front + length slice) (slice_values slice) c.keep.ensures.moments (c.known.ensures.keeps whole).2.settled whole (c.requires.room.room whole).1 (omega (arith, c.requires.few, many))
    broken reads risen c.keep.ensures.told (omega (arith, many))
