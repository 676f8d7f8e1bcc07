use Rattle.lms_core.specs.Use.{Use}
use Rattle.lms_core.proofs.Given.{made_is_given, made_is_short, gives_same}
use Rattle.lms_core.proofs.one_use.OneUseSigner.sign.Goals as goal

pub returns-clause-given : goal.returns-clause-given
returns-clause-given c = rw (← c.self.view_is, c.in_ok-signature.ensures.signature) (made_is_given _ c.args.message.now c.in_ok-signature.ensures.identifier c.self.invariant)

pub returns-clause-short : goal.returns-clause-short
returns-clause-short c =
    let t = c.self.inside.tree in
    let s : Use = record { height = t.height; identifier = t.identifier; seed = t.seed; index = c.self.inside.index; left = 1 } in
    rw c.in_ok-signature.ensures.signature (made_is_short s c.args.message.now c.in_ok-signature.ensures.identifier)

pub returns-clause-same : goal.returns-clause-same
returns-clause-same c = rw (← c.self.view_is) (gives_same _ 0)
