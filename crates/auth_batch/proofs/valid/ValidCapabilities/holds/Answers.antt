use Rattle.std.proofs.Common.{sym, ap, ◌∙◌}
use Rattle.std.specs.Option.{option_copied}
use Rattle.std.specs.Cmp.Lexicographic.{bytes_decides}
use Rattle.auth_batch.proofs.Remembered.{found_known}
use Rattle.auth_batch.proofs.valid.ValidCapabilities.holds.Goals as goal

pub returns-in-Some : goal.returns-in-Some
returns-in-Some g c = λ capability same fits spelled.
    let kept = c.in-Some.kept.now in
    let found = sym (ap option_copied c.in-Some.is) ∙ c.peek.ensures in
    let told = (bytes_decides c.as_slice.result.now c.args.spelling.now).0 (sym c.eq.ensures ∙ same) in
    found_known g.S.Verify.rules c.args.self.now.spellings.entries c.args.hash kept c.args.self.now.valid found capability fits
    (sym c.as_slice.ensures.value ∙ told ∙ spelled)
