-- The lines of links, and of what followed sessions over them.
use Rattle.std.proofs.Common.{◌≡◌, ◌∙◌, ℕ, zero, suc, ◌+◌, ◌<◌, Bool, List, [], ◌∷◌, ◌++◌, length, take, get_or, sym, ap, append_assoc, arith}
use Rattle.std.specs.Prelude.{codes, IsSome, Option, Some, None, Result, Ok, Err}
use Rattle.std.specs.Fmt.{decimal}
use Rattle.std.proofs.lemmas.List.{length-append, length-take, take_more, append-nil}
use Rattle.session_end.specs.declared.end.SessionEnd.{SessionEnd}
use Rattle.peer_text.specs.Sessions.{session_end_text}
use Rattle.peer_stage.specs.declared.outcome.FollowCounts.{FollowCounts}
use Rattle.peer_stage.specs.declared.outcome.SessionCounts.{SessionCounts}
use Rattle.peer_report.specs.Report.{followed_line, items_line, line, link_line, link_number, log_text, numbered, session_line, tail_line}

module _ {X : Type 0} (line_of : ℕ → X → List ℕ) where
  -- one more at the end
  push : (from : ℕ) (xs : List X) (last : X) → numbered line_of from (xs ++ last ∷ []) ≡ numbered line_of from xs ++ line_of (from + length xs) last
  push from [] last =
      let number : from + 0 ≡ from = omega arith in
      rw number (append-nil (line_of from last))
  push from (x ∷ rest) last =
      let number : from + 1 + length rest ≡ from + length (x ∷ rest) = omega arith in
      let later = rw number at (push (from + 1) rest last) in
      ap (λ lines. line_of from x ++ lines) later ∙ sym (append_assoc (line_of from x) (numbered line_of (from + 1) rest) (line_of (from + length (x ∷ rest)) last))

  -- the text of those before one, and its line, are the text of those up to it
  pub lines_more : (xs : List X) (i : ℕ) (d : X) (begun before after : List ℕ) → i < length xs
      → before ≡ begun ++ numbered line_of 1 (take i xs) → after ≡ before ++ line_of (i + 1) (get_or xs i d) → after ≡ begun ++ numbered line_of 1 (take (i + 1) xs)
  lines_more xs i d begun before after within first second =
      let front = numbered line_of 1 (take i xs) in
      let last = get_or xs i d in
      let number : 1 + length (take i xs) ≡ i + 1 = omega (arith, length-take i xs) in
      let more : numbered line_of 1 (take (i + 1) xs) ≡ front ++ line_of (1 + length (take i xs)) last =
      ap (numbered line_of 1) (take_more xs i d within) ∙ push 1 (take i xs) last in
      second ∙ ap (λ text. text ++ line_of (i + 1) last) first
      ∙ append_assoc begun front (line_of (i + 1) last)
      ∙ ap (λ (n : ℕ). begun ++ (front ++ line_of n last)) (sym number)
      ∙ ap (λ text. begun ++ text) (sym more)

  -- where one of them has a line there is a line
  some_from : (from : ℕ) (xs : List X) (i : ℕ) (d : X) → i < length xs → 0 < length (line_of (from + i) (get_or xs i d)) → 0 < length (numbered line_of from xs)
  some_from from [] i d within some = absurd (omega (arith, within))
  some_from from (x ∷ rest) zero d within some =
      let number : from + 0 ≡ from = omega arith in
      omega (arith, rw number at some, length-append (line_of from x) (numbered line_of (from + 1) rest))
  some_from from (x ∷ rest) (suc i) d within some =
      let number : from + suc i ≡ from + 1 + i = omega arith in
      omega (arith, some_from (from + 1) rest i d (omega (arith, within)) (rw number at some), length-append (line_of from x) (numbered line_of (from + 1) rest))

  pub lines_some : (xs : List X) (i : ℕ) (d : X) → i < length xs → 0 < length (line_of (i + 1) (get_or xs i d)) → 0 < length (numbered line_of 1 xs)
  lines_some xs i d within some =
      let number : i + 1 ≡ 1 + i = omega arith in
      some_from 1 xs i d within (rw number at some)

-- ---- each has a line

line_some : (text : List ℕ) → 0 < length (line text)
line_some text = omega (arith, length-append text (10 ∷ []))

session_some : (session : Result SessionCounts SessionEnd) → 0 < length (session_line session)
session_some (Ok counts) =
    let rest : List ℕ = codes " refused " ++ (decimal counts.refused ++ (codes " sent " ++ (decimal counts.sent ++ (codes " read " ++ decimal counts.read)))) in
    omega (arith, length-append (log_text counts) (items_line counts), line_some rest)
session_some (Err end) = line_some (session_end_text end)

pub link_some : (awaited : Bool) (number : ℕ) (session : Result SessionCounts SessionEnd) → 0 < length (link_line awaited number session)
link_some awaited number session = omega (arith, length-append (link_number awaited number) (session_line session), session_some session)

followed_some : (followed : Result FollowCounts SessionEnd) → 0 < length (followed_line followed)
followed_some (Ok counts) = line_some (codes "followed " ++ (decimal counts.read ++ (codes " stored " ++ (decimal counts.stored ++ (codes " kept " ++ (decimal counts.kept ++ (codes " refused " ++ decimal counts.refused)))))))
followed_some (Err end) = line_some (session_end_text end)

pub tail_some : (awaited : Bool) (number : ℕ) (tail : Option (Result FollowCounts SessionEnd)) → IsSome tail → 0 < length (tail_line awaited number tail)
tail_some awaited number None some = absurd cc
tail_some awaited number (Some followed) some = omega (arith, length-append (link_number awaited number) (followed_line followed), followed_some followed)
