use Rattle.std.proofs.Common.{◌≡◌, ◌==◌, ◌≤◌, ◌%◌, List, ℕ, length, ap, sym, ◌∙◌, arith, [], ◌∷◌, ◌++◌, take, drop, inr}
use Rattle.std.specs.List.{position_or_len}
use Rattle.std.proofs.lemmas.Bool.Decides.{nat_tests}
use Rattle.hex.specs.Hex.{decode_of}
use Rattle.willow_path.specs.PathPush.{push_refusal}
use Rattle.peer_words.specs.Values.{IsParts}
use Rattle.peer_words.proofs.Asking.{even_digits, path_asks}
use Rattle.peer_words.proofs.Endings.{passed_on}
use Rattle.peer_words.proofs.PathWords.{front_grows, no_front_slash, no_digits, no_room, refused_push}
use Rattle.peer_words.proofs.path.parts_of.Goals as goal

pub returns-then-left-ne47-clause-reads : goal.returns-then-left-ne47-clause-reads
returns-then-left-ne47-clause-reads c =
    let some : 1 ≤ length c.loop-left.left.now = grind (arith, nat_tests) in
    no_front_slash c.args.word.now c.loop-left.left.now c.loop-left.path c.loop-left.invariant.front some c.if-left-ne47.true

pub returns-in_err-part-clause-reads : goal.returns-in_err-part-clause-reads
returns-in_err-part-clause-reads c =
    let others = c.split_at.ensures.back in
    let some : 1 ≤ length c.loop-left.left.now = grind (arith, nat_tests) in
    let end : c.part_end.result ≡ position_or_len (λ b. b == 47) (drop 1 c.loop-left.left.now) = c.part_end.ensures.value ∙ ap (λ (w : List ℕ). position_or_len (λ b. b == 47) w) others in
    let digits : c.split_at-in-loop-left.result.0.now ≡ take c.part_end.result (drop 1 c.loop-left.left.now) = c.split_at-in-loop-left.ensures.front ∙ ap (λ (w : List ℕ). take c.part_end.result w) others in
    passed_on _ (IsParts c.args.word.now) c.in_err-part.field-0.0 c.from_residual.result c.from_residual.ensures.1 c.in_err-part.ensures.reads
    (λ none. no_digits c.args.word.now c.loop-left.left.now c.loop-left.path c.part_end.result c.loop-left.invariant.front some c.if-left-ne47.false end (λ part decoded. none part (ap decode_of digits ∙ decoded)))

pub returns-in-Err-Refused-clause-reads : goal.returns-in-Err-Refused-clause-reads
returns-in-Err-Refused-clause-reads c =
    let others = c.split_at.ensures.back in
    let some : 1 ≤ length c.loop-left.left.now = grind (arith, nat_tests) in
    let end : c.part_end.result ≡ position_or_len (λ b. b == 47) (drop 1 c.loop-left.left.now) = c.part_end.ensures.value ∙ ap (λ (w : List ℕ). position_or_len (λ b. b == 47) w) others in
    let digits : c.split_at-in-loop-left.result.0.now ≡ take c.part_end.result (drop 1 c.loop-left.left.now) = c.split_at-in-loop-left.ensures.front ∙ ap (λ (w : List ℕ). take c.part_end.result w) others in
    let why = refused_push c.in-Err-Refused.field-0 c.in-Err-Refused.field-0-0 (push_refusal c.loop-left.path c.deref.result.now) c.in-Err-Refused.ensures.answer c.in-Err-Refused.field-0-is in
    no_room c.args.word.now c.loop-left.left.now c.loop-left.path c.part_end.result c.in_ok-part.part.items c.in-Err-Refused.field-0-0 c.loop-left.invariant.front some c.if-left-ne47.false end
    (ap decode_of (sym digits) ∙ c.in_ok-part.ensures.reads) (ap (push_refusal c.loop-left.path) (sym c.deref.ensures.value) ∙ why)

pub loop-left-preserved : goal.loop-left-preserved
loop-left-preserved c =
    let others = c.split_at.ensures.back in
    let some : 1 ≤ length c.loop-left.left.now = grind (arith, nat_tests) in
    let end : c.part_end.result ≡ position_or_len (λ b. b == 47) (drop 1 c.loop-left.left.now) = c.part_end.ensures.value ∙ ap (λ (w : List ℕ). position_or_len (λ b. b == 47) w) others in
    let digits : c.split_at-in-loop-left.result.0.now ≡ take c.part_end.result (drop 1 c.loop-left.left.now) = c.split_at-in-loop-left.ensures.front ∙ ap (λ (w : List ℕ). take c.part_end.result w) others in
    let even : c.part_end.result % 2 ≡ 0 = ap (λ (n : ℕ). n % 2) (sym c.split_at-in-loop-left.ensures.front_len) ∙ even_digits c.split_at-in-loop-left.result.0.now c.in_ok-part.part.items c.in_ok-part.ensures.reads in
    record {
      front =
          front_grows c.args.word.now c.loop-left.left.now c.loop-left.path c.part_end.result c.in_ok-part.part.items c.push.new.self c.split_at-in-loop-left.result.1.now c.loop-left.invariant.front some c.if-left-ne47.false end
          (ap decode_of (sym digits) ∙ c.in_ok-part.ensures.reads) (c.in-Ok.ensures.added ∙ ap (λ (part : List ℕ). c.loop-left.path ++ part ∷ []) c.deref.ensures.value) c.push.ensures.path (c.split_at-in-loop-left.ensures.back ∙ ap (λ (w : List ℕ). drop c.part_end.result w) others);
      asks = inr (path_asks c.args.word.now c.loop-left.left.now c.part_end.result c.loop-left.invariant.asks some c.if-left-ne47.false end even);
    }
