use Rattle.std.proofs.Common.{◌≡◌, ◌∙◌, List, ℕ, ap, sym}
use Rattle.std.specs.Int.{w32}
use Rattle.spelling.specs.Front.{Whole}
use Rattle.spelling.specs.Reading.{number_at}
use Rattle.spelling.proofs.Lists.{are_bytes}
use Rattle.log_keeper.proofs.Splits.{splits}
use Rattle.log_keeper.proofs.records.split_record.Goals as goal

pub returns-in-Ok : goal.returns-in-Ok
returns-in-Ok c =
    let size = c.in-Ok.size in
    let left = c.front.result.now in
    let e : number_at w32 c.args.bytes.now ≡ Whole size left = ap (number_at w32) (sym c.new-input.ensures) ∙ c.in-Ok.ensures.gives ∙ ap (λ (l : List ℕ). Whole size l) (sym c.front.ensures) in
    splits c.args.bytes.now size left (are_bytes c.args.bytes.now c.type_inv.bytes) e c.split_sized.ensures.within (λ x. x.0.now) (λ x. x.1.now) c.split_sized.result c.split_sized.ensures.parts c.split_sized.ensures.size c.split_sized.ensures.none
