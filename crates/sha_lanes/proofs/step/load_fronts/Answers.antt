use Rattle.std.proofs.Common.{◌≡◌, ◌<◌, ◌/◌, ◌*◌, ◌%◌, ◌^◌, ℕ, length, slice_index, ◌∙◌}
use Rattle.sha_lanes.specs.Lanes.{one_of}
use Rattle.sha_lanes.proofs.OfLanes.{HasLanes-one, in_lanes}
use Rattle.sha_lanes.proofs.OfSteps.{last_two}
use Rattle.sha_lanes.proofs.step.load_fronts.Goals as goal

pub returns : goal.returns
returns c = λ l h.
    let a = c.args in
    let front = one_of a.first.now a.second.now a.third.now a.fourth.now in
    let long = in_lanes (λ l. length (front l) ≡ 22) c.told-first c.told-second c.told-third c.told-fourth l h in
    let bytes = in_lanes (λ l. (i : ℕ) → slice_index (front l) i < 256) c.fits-first c.fits-second c.fits-third c.fits-fourth l h in
    let left = HasLanes-one (λ n. n * 2 ^ 16 % 2 ^ 32) _ _ _ c.shift_left.ensures c.load_words-ends.ensures in
    let last = HasLanes-one (λ n. n / 2 ^ 8) _ _ _ c.shift_right.ensures left in
    record {
      long = long;
      word_0 = c.load_words.ensures.each l h;
      word_1 = c.load_words-2.ensures.each l h;
      word_2 = c.load_words-3.ensures.each l h;
      word_3 = c.load_words-4.ensures.each l h;
      word_4 = c.load_words-5.ensures.each l h;
      word_5 = last.each l h ∙ last_two (front l) bytes;
      byte_20 = bytes 20;
      byte_21 = bytes 21;
    }
