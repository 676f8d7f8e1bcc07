-- Texts that are written one after the other, each behind what stands there.
use Rattle.std.proofs.Common.{◌≡◌, ℕ, ◌+◌, ◌<◌, ◌≤◌, List, [], ◌∷◌, ◌++◌, length, get_or, slice_get, take, drop, Some, sym, ap, ◌∙◌, append_assoc, arith}
use Rattle.std.specs.List.{flat_map}
use Rattle.std.proofs.lemmas.List.{append-nil, length-take, take-append-le, take-append-drop, take_at, take_more}
use Rattle.std.proofs.lemmas.List.Concat.{flat_map-cons, flat_map-append}
use Rattle.std.proofs.lemmas.Option.{get_or_from_slice_get, slice_get-get_or, slice_get_within}

-- the value at a place within the list
pub there : {X : Type 0} (xs : List X) (n : ℕ) → n < length xs → (x : X) × (slice_get xs n ≡ Some x)
there [] n h = absurd (omega arith)
there (x ∷ xs) n h = (get_or (x ∷ xs) n x, slice_get-get_or (x ∷ xs) n x h)

-- one more is taken
pub take_one_more : {X : Type 0} (xs : List X) (i : ℕ) (x : X) → slice_get xs i ≡ Some x → take (i + 1) xs ≡ take i xs ++ x ∷ []
take_one_more xs i x h = take_more xs i x (slice_get_within xs i x h) ∙ ap (λ y. take i xs ++ y ∷ []) (get_or_from_slice_get xs i x x h)

-- one value more is spelled
pub spelled_more : {X : Type 0} (spell : X → List ℕ) (xs : List X) (i : ℕ) (x : X) (start so_far next : List ℕ) → slice_get xs i ≡ Some x
    → so_far ≡ start ++ flat_map spell (take i xs) → next ≡ so_far ++ spell x → next ≡ start ++ flat_map spell (take (i + 1) xs)
spelled_more spell xs i x start so_far next at e f =
    f ∙ ap (λ l. l ++ spell x) e ∙ append_assoc start (flat_map spell (take i xs)) (spell x)
    ∙ ap (λ l. start ++ l) (ap (λ l. flat_map spell (take i xs) ++ l) (sym (append-nil (spell x)) ∙ sym (flat_map-cons spell x [])) ∙ sym (flat_map-append spell (take i xs) (x ∷ [])) ∙ ap (flat_map spell) (sym (take_one_more xs i x at)))

-- what stood in front stays
pub kept_more : (start old more new : List ℕ) (n : ℕ) → n ≡ length start → take n old ≡ start → new ≡ old ++ more → take n new ≡ start
kept_more start old more new n len kept e =
    let within : n ≤ length old = omega (arith, len, ap length kept, length-take n old) in
    ap (take n) e ∙ take-append-le n old more within ∙ kept

-- and stays through what is written behind it
pub kept_through : (start mid new more : List ℕ) (n m : ℕ) → n ≡ length start → mid ≡ start ++ more → take m new ≡ mid → take n new ≡ start
kept_through start mid new more n m len e kept =
    let parts : new ≡ start ++ (more ++ drop m new) = sym (take-append-drop m new) ∙ ap (λ l. l ++ drop m new) (kept ∙ e) ∙ append_assoc start more (drop m new) in
    ap (take n) parts ∙ take_at start (more ++ drop m new) n (sym len)

-- three texts that were written one after the other
pub three_written : (start a b c one two three : List ℕ) → one ≡ start ++ a → two ≡ one ++ b → three ≡ two ++ c → three ≡ start ++ (a ++ (b ++ c))
three_written start a b c one two three e f h =
    h ∙ ap (λ l. l ++ c) (f ∙ ap (λ l. l ++ b) e) ∙ append_assoc (start ++ a) b c ∙ append_assoc start a (b ++ c)

-- a text behind those that were written
pub written_on : (start more next mid new : List ℕ) → mid ≡ start ++ more → new ≡ mid ++ next → new ≡ start ++ (more ++ next)
written_on start more next mid new e f = f ∙ ap (λ l. l ++ next) e ∙ append_assoc start more next
