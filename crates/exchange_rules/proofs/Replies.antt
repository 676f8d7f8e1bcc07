-- The answers, case by case.
use Rattle.std.proofs.Common.{◌≡◌, ℕ, Bool, true, false, cond, List, [], Option, None, Some, refl}
use Rattle.exchange_rules.specs.Rules.{Rules, box_rows, box_print}
use Rattle.exchange_rules.specs.Items.{Print, Agree}
use Rattle.exchange_rules.specs.Answer.{Reply, differing, reply}

abbrev pub agreed : {R X C : Type 0} → Reply R X C
agreed = record { item = Agree; opens = [] }

differing_cases : {R X C : Type 0} (g : Rules R X C) (l : List R) (x : X) (o : Option C) (P : Reply R X C → Type 0)
    → (o ≡ None → P (differing g l x None)) → ((cut : C) → o ≡ Some cut → P (differing g l x (Some cut))) → P (differing g l x o)
differing_cases g l x None P few cuts = few refl
differing_cases g l x (Some cut) P few cuts = cuts cut refl

print_cases : {R X C : Type 0} (g : Rules R X C) (l : List R) (x : X) (b : Bool) (P : Reply R X C → Type 0)
    → (b ≡ true → P agreed)
    → (g.choice (box_rows g x l) ≡ None → P (differing g l x None))
    → ((cut : C) → g.choice (box_rows g x l) ≡ Some cut → P (differing g l x (Some cut)))
    → P (cond b agreed (differing g l x (g.choice (box_rows g x l))))
print_cases g l x true P same few cuts = same refl
print_cases g l x false P same few cuts = differing_cases g l x (g.choice (box_rows g x l)) P few cuts

-- what holds of the three answers to a fingerprint holds of the answer
pub reply_cases : {R X C : Type 0} (g : Rules R X C) (l : List R) (x : X) (print : List ℕ) (P : Reply R X C → Type 0)
    → (g.same_print print (box_print g x l) ≡ true → P agreed)
    → (g.choice (box_rows g x l) ≡ None → P (differing g l x None))
    → ((cut : C) → g.choice (box_rows g x l) ≡ Some cut → P (differing g l x (Some cut)))
    → P (reply g l (Print x print))
unfolding reply
reply_cases g l x print P same few cuts = print_cases g l x (g.same_print print (box_print g x l)) P same few cuts
