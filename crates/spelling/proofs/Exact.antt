-- The reader of bytes that are known goes with them.
use Rattle.std.proofs.Common.{◌≡◌, ℕ, Bool, true, false, eqb, List, [], ◌∷◌, ◌++◌, refl, sym, ap, subst, ◌∙◌}
use Rattle.std.proofs.lemmas.Bool.{eqb-true, eq-eqb}
use Rattle.spelling.specs.Front.{Front, Whole, Part, Wrong}
use Rattle.spelling.specs.Form.{AreBytes}
use Rattle.spelling.specs.Reading.{guard, exactly_at}
use Rattle.spelling.proofs.Guards.{guard_whole, guard_part}
use Rattle.spelling.proofs.Joining.{Takes, Reads, whole_rest}

exactly_takes : (due bytes : List ℕ) (x : Unit {0}) (rest : List ℕ) → AreBytes bytes → exactly_at due bytes ≡ Whole x rest → Takes bytes due rest (Unit {0})
unfolding exactly_at
exactly_takes [] bytes x rest are e = record { fits = tt; parts = whole_rest tt x bytes rest e; rest_are = subst AreBytes (whole_rest tt x bytes rest e) are }
exactly_takes (b ∷ due) [] x rest are e = absurd cc
exactly_takes (b ∷ due) (c ∷ bytes) x rest are e =
    let g = guard_whole (eqb c b) (exactly_at due bytes) x rest e in
    let t = exactly_takes due bytes x rest are.1 g.1 in
    record { fits = tt; parts = ap (λ (n : ℕ). n ∷ bytes) (eqb-true c b g.0) ∙ ap (λ (l : List ℕ). b ∷ l) t.parts; rest_are = t.rest_are }

exactly_again : (due : List ℕ) (x : Unit {0}) (rest : List ℕ) → Unit {0} → exactly_at due (due ++ rest) ≡ Whole x rest
unfolding exactly_at
exactly_again [] x rest f = refl
exactly_again (b ∷ due) x rest f = ap (λ (test : Bool). guard test (exactly_at due (due ++ rest))) (eq-eqb b b refl) ∙ exactly_again due x rest f

exactly_more : (due bytes : List ℕ) (x : Unit {0}) (rest tail : List ℕ) → exactly_at due bytes ≡ Whole x rest → exactly_at due (bytes ++ tail) ≡ Whole x (rest ++ tail)
unfolding exactly_at
exactly_more [] bytes x rest tail e = ap (λ (l : List ℕ). Whole x (l ++ tail)) (whole_rest tt x bytes rest e)
exactly_more (b ∷ due) [] x rest tail e = absurd cc
exactly_more (b ∷ due) (c ∷ bytes) x rest tail e =
    let g = guard_whole (eqb c b) (exactly_at due bytes) x rest e in
    ap (λ (test : Bool). guard test (exactly_at due (bytes ++ tail))) g.0 ∙ exactly_more due bytes x rest tail g.1

wrong_by : (test : Bool) (front longer : Front (Unit {0})) → (front ≡ Wrong → longer ≡ Wrong) → guard test front ≡ Wrong → guard test longer ≡ Wrong
wrong_by true front longer h e = h e
wrong_by false front longer h e = refl

exactly_wrong : (due bytes tail : List ℕ) → exactly_at due bytes ≡ Wrong → exactly_at due (bytes ++ tail) ≡ Wrong
unfolding exactly_at
exactly_wrong [] bytes tail e = absurd cc
exactly_wrong (b ∷ due) [] tail e = absurd cc
exactly_wrong (b ∷ due) (c ∷ bytes) tail e = wrong_by (eqb c b) (exactly_at due bytes) (exactly_at due (bytes ++ tail)) (exactly_wrong due bytes tail) e

-- a part of the due bytes, and the others
exactly_part : (due bytes : List ℕ) → exactly_at due bytes ≡ Part → (more : List ℕ) × (due ≡ bytes ++ more)
unfolding exactly_at
exactly_part [] bytes e = absurd cc
exactly_part (b ∷ due) [] e = (b ∷ due, refl)
exactly_part (b ∷ due) (c ∷ bytes) e =
    let g = guard_part (eqb c b) (exactly_at due bytes) e in
    let h = exactly_part due bytes g.1 in
    (h.0, ap (λ (n : ℕ). n ∷ due) (sym (eqb-true c b g.0)) ∙ ap (λ (l : List ℕ). c ∷ l) h.1)

pub exactly-reads : (due : List ℕ) → Reads (exactly_at due) (λ _. due) (λ _. Unit {0})
exactly-reads due = record { takes = exactly_takes due; again = exactly_again due; more = exactly_more due; wrong = exactly_wrong due; part = λ bytes are e. let p = exactly_part due bytes e in record { value = tt; more = p.0; fits_value = tt; parts = p.1 } }
