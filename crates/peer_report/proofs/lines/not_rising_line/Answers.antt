use Rattle.std.proofs.Common.{◌≡◌, ◌∙◌, ℕ, List, [], ◌∷◌, ◌++◌, ap, append_assoc}
use Rattle.std.specs.Prelude.{codes}
use Rattle.std.specs.Fmt.{decimal}
use Rattle.std.specs.Global.{Vec}
use Rattle.peer_report.proofs.lines.not_rising_line.Goals as goal

-- the newline stands behind the whole line
ended : (front name middle number last : List ℕ) → front ++ (name ++ (middle ++ (number ++ last))) ≡ (front ++ (name ++ (middle ++ number))) ++ last
ended front name middle number last = simp append_assoc

pub returns : goal.returns
returns c =
    ap (λ (v : Vec ℕ). v.items) c.into_bytes.ensures.value ∙ c.in_ok-format.ensures.ok
    ∙ ended (codes "not rising ") c.args.name.now (codes " row ") (decimal c.args.row) (10 ∷ [])
