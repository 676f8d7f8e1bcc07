use Rattle.std.proofs.Common.{◌≡◌, ◌<◌, ◌≤◌, ℕ, List, length, get_or, ap, arith}
use Rattle.std.proofs.lemmas.Bool.Decides.{nat_tests}
use Rattle.peer_words.proofs.Numbers.{not_empty, not_signed, not_padded, number_read}
use Rattle.peer_words.proofs.number.number_of.Goals as goal
use Rattle.peer_words.proofs.number.number_of.Goals.{else-bytes-eq48-via-then-bytes-eq48+else-bytes-gt1, else-bytes-eq48-via-else-bytes-eq48}

pub returns-then-is_empty : goal.returns-then-is_empty
returns-then-is_empty c =
    let same = ap length c.as_bytes-bytes.ensures.value in
    not_empty c.args.word.now (grind (arith, nat_tests))

pub returns-then-bytes-eq43 : goal.returns-then-bytes-eq43
returns-then-bytes-eq43 c =
    let same = ap (λ (w : List ℕ). get_or w 0 0) c.as_bytes-bytes.ensures.value in
    not_signed c.args.word.now (omega arith)

pub returns-then-bytes-gt1 : goal.returns-then-bytes-gt1
returns-then-bytes-gt1 c =
    let same = ap (λ (w : List ℕ). get_or w 0 0) c.as_bytes-bytes.ensures.value in
    let long = ap length c.as_bytes-bytes.ensures.value in
    not_padded c.args.word.now (omega arith) (omega arith)

pub returns : goal.returns
returns c =
    let same = ap (λ (w : List ℕ). get_or w 0 0) c.as_bytes-bytes.ensures.value in
    let long = ap length c.as_bytes-bytes.ensures.value in
    let some : 0 < length c.args.word.now = grind (arith, nat_tests) in
    let plain : get_or c.args.word.now 0 0 ≡ 43 → ⊥ = λ plus. c.if-bytes-eq43.false (omega arith) in
    let lone : get_or c.args.word.now 0 0 ≡ 48 → length c.args.word.now ≤ 1 = λ zero.
    elim c.else-bytes-eq48.branch [ else-bytes-eq48-via-then-bytes-eq48+else-bytes-gt1 w ↦ omega arith | else-bytes-eq48-via-else-bytes-eq48 w ↦ absurd (w.if-bytes-eq48.false (omega arith)) ] in
    number_read c.args.word.now c.parse.result c.ok.result c.parse.ensures.value.0 c.ok.ensures.value some plain lone
