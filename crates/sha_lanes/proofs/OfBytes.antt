-- The words of bytes, and the bytes of words.
use Rattle.std.proofs.Common.{◌≡◌, ℕ, zero, suc, ◌+◌, ◌*◌, ◌<◌, ◌≤◌, List, [], ◌∷◌, ◌++◌, length, take, drop, slice_index, get_or, refl, sym, ap, subst, inl, inr, ◌∙◌, arith, add-zero}
use Rattle.std.proofs.lemmas.List.{take-append-drop, take-take, drop-take, get_or_past, take_all, ext_get_or, length-map}
use Rattle.std.proofs.lemmas.Bool.{cases_lt}
use Rattle.std.proofs.lemmas.Nat.{be_bytes_4}
use Rattle.std.proofs.lemmas.Simd.{get_or-chunk, length-chunk}
use Rattle.std.specs.Int.{w32, to_be_bytes, from_be_bytes}
use Rattle.sha2.specs.Sha256.{digest_bytes, word_at}
use Rattle.sha2.proofs.Schedule256.{length-first_words, slice_index-first_words}
use Rattle.sha_lanes.specs.Lanes.{HasLanes, IsBlock, words_of}
use Rattle.sha_lanes.proofs.OfLanes.{words_of-at}

four_more : (v : List ℕ) (a : ℕ) → a + 4 ≤ length v → take (a + 4) v ≡ take a v ++ take 4 (drop a v)
four_more v a h =
    let whole = take-append-drop a (take (a + 4) v) in
    sym (rw (take-take a (a + 4) v (omega arith), drop-take a 4 v) at whole)

to_be_bytes-word_at : (v : List ℕ) (a : ℕ) → a + 4 ≤ length v → ((i : ℕ) → slice_index v i < 256) → to_be_bytes w32 (word_at v a) ≡ take 4 (drop a v)
to_be_bytes-word_at v a h bytes =
    let bs = take 4 (drop a v) in
    let p0 = get_or-chunk a 4 v 0 0 (omega arith) ∙ ap (λ (k : ℕ). slice_index v k) (add-zero a) in
    let p1 = get_or-chunk a 4 v 1 0 (omega arith) in
    let p2 = get_or-chunk a 4 v 2 0 (omega arith) in
    let p3 = get_or-chunk a 4 v 3 0 (omega arith) in
    let same : word_at v a ≡ from_be_bytes w32 bs = sym (ap (from_be_bytes w32) (λ i. p0 i ∷ p1 i ∷ p2 i ∷ p3 i ∷ [])) in
    let low : (i : ℕ) → slice_index bs i < 256 = λ i. elim (cases_lt i 4) [
      | inl lt ↦ subst (λ (x : ℕ). x < 256) (sym (get_or-chunk a 4 v i 0 lt)) (bytes (a + i))
      | inr ge ↦ subst (λ (x : ℕ). x < 256) (sym (get_or_past bs i 0 (omega (arith, length-chunk a 4 v h)))) (omega arith)
    ] in
    be_bytes_4 bs (word_at v a) (length-chunk a 4 v h) low same

-- the bytes of words that are read in bytes
digest_bytes-word_at : (h v : List ℕ) (n : ℕ) → n ≤ 8 → length v ≡ 32 → ((i : ℕ) → slice_index v i < 256) → ((k : ℕ) → k < 8 → slice_index h k ≡ word_at v (4 * k))
    → digest_bytes h n ≡ take (4 * n) v
unfolding digest_bytes
digest_bytes-word_at h v zero le lv bytes words = refl
digest_bytes-word_at h v (suc n) le lv bytes words =
    let e : 4 * suc n ≡ 4 * n + 4 = omega arith in
    rw (e, four_more v (4 * n) (omega arith), digest_bytes-word_at h v n (omega arith) lv bytes words, words n (omega arith), to_be_bytes-word_at v (4 * n) (omega arith) bytes) refl

-- a list of eight by its places
at_eight : (f : ℕ → ℕ) (k : ℕ) → k < 8 → slice_index (f 0 ∷ f 1 ∷ f 2 ∷ f 3 ∷ f 4 ∷ f 5 ∷ f 6 ∷ f 7 ∷ []) k ≡ f k
at_eight f zero h = refl
at_eight f (suc zero) h = refl
at_eight f (suc (suc zero)) h = refl
at_eight f (suc (suc (suc zero))) h = refl
at_eight f (suc (suc (suc (suc zero)))) h = refl
at_eight f (suc (suc (suc (suc (suc zero))))) h = refl
at_eight f (suc (suc (suc (suc (suc (suc zero)))))) h = refl
at_eight f (suc (suc (suc (suc (suc (suc (suc zero))))))) h = refl
at_eight f (suc (suc (suc (suc (suc (suc (suc (suc k)))))))) h = absurd (omega arith)

-- the words of a digest
abbrev pub digest_words : List ℕ → List ℕ
digest_words v = word_at v 0 ∷ word_at v 4 ∷ word_at v 8 ∷ word_at v 12 ∷ word_at v 16 ∷ word_at v 20 ∷ word_at v 24 ∷ word_at v 28 ∷ []

-- a digest has the bytes of its words
pub digest_bytes-of_words : (v : List ℕ) → length v ≡ 32 → ((i : ℕ) → slice_index v i < 256) → digest_bytes (digest_words v) 8 ≡ v
digest_bytes-of_words v lv bytes =
    digest_bytes-word_at _ v 8 (omega arith) lv bytes (λ k h. at_eight (λ i. word_at v (4 * i)) k h) ∙ take_all 32 v (omega arith)

-- vectors whose lanes hold the words of blocks
pub IsBlock-words : (vectors : List (List ℕ)) (block : ℕ → List ℕ) (l : ℕ) → l < 4 → length vectors ≡ 16
    → ((t : ℕ) → t < 16 → HasLanes (get_or vectors t []) (λ l. word_at (block l) (4 * t))) → IsBlock (words_of vectors l) (block l)
IsBlock-words vectors block l h long held =
    let many = length-map vectors (λ (v : List ℕ). slice_index v l) in
    ext_get_or 0 _ _ (many ∙ long ∙ sym (length-first_words (block l) 16))
    (λ t lt.
    let low : t < 16 = omega (arith, many, long, lt) in
    sym (words_of-at vectors t l [] (omega (arith, long, low))) ∙ (held t low).each l h ∙ sym (slice_index-first_words (block l) 16 t low))
