use Rattle.std.proofs.Common.{◌≡◌, List, ℕ, [], ◌∷◌, ap, ◌∙◌}
use Rattle.sha2.specs.Sha256.{digest_bytes}
use Rattle.sha_lanes.specs.Lanes.{one_of}
use Rattle.sha_lanes.proofs.OfBytes.{digest_words, digest_bytes-of_words}
use Rattle.sha_lanes.proofs.OfLanes.{in_lanes}
use Rattle.sha_lanes.proofs.loading.load_digests.Goals as goal

pub returns : goal.returns
returns c = λ l h.
    let p0 = c.load_words.ensures.each l h in
    let p1 = c.load_words-2.ensures.each l h in
    let p2 = c.load_words-3.ensures.each l h in
    let p3 = c.load_words-4.ensures.each l h in
    let p4 = c.load_words-5.ensures.each l h in
    let p5 = c.load_words-6.ensures.each l h in
    let p6 = c.load_words-7.ensures.each l h in
    let p7 = c.load_words-8.ensures.each l h in
    let a = c.args in
    let whole = in_lanes (λ l. digest_bytes (digest_words (one_of a.first.now a.second.now a.third.now a.fourth.now l)) 8 ≡ one_of a.first.now a.second.now a.third.now a.fourth.now l)
    (digest_bytes-of_words a.first.now c.told-first c.fits-first)
    (digest_bytes-of_words a.second.now c.told-second c.fits-second)
    (digest_bytes-of_words a.third.now c.told-third c.fits-third)
    (digest_bytes-of_words a.fourth.now c.told-fourth c.fits-fourth) l h in
    ap (λ (r : List ℕ). digest_bytes r 8) (λ i. p0 i ∷ p1 i ∷ p2 i ∷ p3 i ∷ p4 i ∷ p5 i ∷ p6 i ∷ p7 i ∷ []) ∙ whole
