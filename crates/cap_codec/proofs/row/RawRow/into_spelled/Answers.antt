use Rattle.std.proofs.Common.{◌∙◌}
use Rattle.cap_codec.proofs.Spelled.{spelled_again, spelled_fits}
use Rattle.cap_codec.proofs.row.RawRow.into_spelled.Goals as goal

pub invariant_of-result : goal.invariant_of-result
invariant_of-result c =
    let r = c.self.inside in
    spelled_fits r.body.items (record { entry = r.entry; token = r.token }) r.capability_len c.self.invariant.0 c.self.invariant.1 c.self.invariant.3

pub returns : goal.returns
returns c =
    let r = c.self.inside in
    spelled_again r.body.items (record { entry = r.entry; token = r.token }) c.self.invariant.0 c.self.invariant.1 ∙ c.self.view_is
