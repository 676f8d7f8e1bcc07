use Rattle.std.proofs.Common.{rules, ◌≡◌, [], arith, inl, inr}
use Rattle.std.proofs.lemmas.List.{get_or-set_same, get_or-set_other}
use Rattle.std.proofs.lemmas.Bool.{cases_lt}
use Rattle.sha_lanes.proofs.OfBytes.{IsBlock-words}
use Rattle.sha_lanes.proofs.schedule.first_words.Goals as goal

pub words-preserved : goal.words-preserved
words-preserved c = (
  search rules,
  λ t lt. elim (cases_lt t c.words.t) [
    | inl before ↦ rw (get_or-set_other c.words.words c.words.t t c.load_words.result [] (omega arith)) (c.words.invariant.1 t before)
    | inr here ↦
        let e : c.words.t ≡ t = omega arith in
        rw (← e) (rw (get_or-set_same c.words.words c.words.t c.load_words.result [] (omega arith)) c.load_words.ensures)
  ],
)

pub returns : goal.returns
returns c = λ l h.
    let done : c.words.t ≡ 16 = omega arith in
    IsBlock-words c.words.words _ l h c.words.invariant.0 (λ t lt. c.words.invariant.1 t (omega arith))
