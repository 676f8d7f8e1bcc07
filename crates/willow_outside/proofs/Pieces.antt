-- Bytes that are taken or given in pieces.
use Rattle.std.proofs.Common.{◌≡◌, ℕ, ◌+◌, ◌-◌, ◌<◌, ◌≤◌, List, ◌++◌, length, take, drop, arith, sym, ap, ◌∙◌}
use Rattle.std.proofs.lemmas.List.{take-append-drop, length-take-le, length-append, drop-drop, take_rest}
use Rattle.std.proofs.Math.Seq.{take-add}
use lib.Seq.{take-append_seam}
use Rattle.std.specs.declared.option.Option.{Option}
use Rattle.std.specs.Io.KnownBytes.{Consumes, Appends}
use Rattle.std.proofs.KnownBytes.{Consumes-trans, Appends-trans}
use Rattle.willow_outside.specs.Whole.{TookAtMost, TookMore}

-- a piece copied from the front leaves the bytes behind it
pub piece-moved : (bytes front rest : List ℕ) (at n : ℕ) → front ≡ take n (drop at bytes) → length front ≡ n → drop at bytes ≡ take n (front ++ rest) ++ drop (at + n) bytes
piece-moved bytes front rest at n e size =
    let whole : take n (drop at bytes) ++ drop n (drop at bytes) ≡ drop at bytes = take-append-drop n (drop at bytes) in
    let seam : take n (front ++ rest) ≡ front = ap (λ k. take k (front ++ rest)) (sym size) ∙ take-append_seam front rest in
    let behind : drop n (drop at bytes) ≡ drop (at + n) bytes = drop-drop n at bytes in
    cc

-- one more read goes past the limit
pub took-more : (a b c : Option (List ℕ)) (bs buf : List ℕ) (n limit : ℕ) → Consumes a b bs → Consumes b c (take n buf) → n ≤ length buf → length bs ≤ limit → limit - length bs < n → TookMore a c limit
took-more a b c bs buf n limit p q fits within over =
    (bs ++ take n buf, Consumes-trans a b c bs (take n buf) p q, omega (arith, length-append bs (take n buf), length-take-le n buf fits))

-- one more read stays within the limit
pub took-on : (a b c : Option (List ℕ)) (bs buf : List ℕ) (n limit : ℕ) → Consumes a b bs → Consumes b c (take n buf) → n ≤ length buf → length bs ≤ limit → n ≤ limit - length bs → TookAtMost a c limit
took-on a b c bs buf n limit p q fits within under =
    (bs ++ take n buf, Consumes-trans a b c bs (take n buf) p q, omega (arith, length-append bs (take n buf), length-take-le n buf fits))

-- what was given first and the next piece are together a longer front
pub given-on : (a b c : Option (List ℕ)) (bytes : List ℕ) (at n : ℕ) → Appends a b (take at bytes) → Appends b c (take n (take (length bytes - at) (drop at bytes))) → Appends a c (take (at + n) bytes)
given-on a b c bytes at n p q =
    let on : Appends b c (take n (drop at bytes)) = rw take_rest at q in
    rw take-add (Appends-trans a b c (take at bytes) (take n (drop at bytes)) p on)

-- and joins the bytes that were given before
pub piece-joined : (bytes front rest : List ℕ) (at n : ℕ) → front ≡ take n (drop at bytes) → length front ≡ n → take (at + n) bytes ≡ take at bytes ++ take n (front ++ rest)
piece-joined bytes front rest at n e size =
    let seam : take n (front ++ rest) ≡ front = ap (λ k. take k (front ++ rest)) (sym size) ∙ take-append_seam front rest in
    take-add at n bytes ∙ ap (λ (xs : List ℕ). take at bytes ++ xs) (sym (seam ∙ e))
