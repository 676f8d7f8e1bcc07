use Rattle.std.proofs.Common.{ap, ◌∙◌, sym}
use Rattle.std.proofs.lemmas.List.{take_all}
use Rattle.willow_path.specs.Path.{path_cmp}
use Rattle.willow_path.proofs.PathOrder.{path_cmp_equal, path_eq_decides}
use Rattle.willow_path.proofs.path.PathOrd.cmp.Goals as goal

pub returns-then-eq : goal.returns-then-eq
returns-then-eq c =
    let p = c.args.self.now in
    let q = c.args.other.now in
    sym ((path_cmp_equal p q).1 ((path_eq_decides p q).0 (sym c.eq.ensures ∙ c.if-eq.true)))

pub returns : goal.returns
returns c = c.cmp_front.ensures ∙ ap (path_cmp c.args.self.now) (take_all _ c.args.other.now c.bytes-bytes.ensures.path.few)
