-- How an image that is read in parts goes on.
use Rattle.std.proofs.Common.{ℕ, ◌<◌, List, [], ◌∷◌, ◌++◌, length, ap, ◌∙◌, sym, append_assoc, arith, length-append}
use Rattle.std.specs.List.{flat_map}
use Rattle.std.proofs.lemmas.Grind.{flat_map-append}
use Rattle.spelling.proofs.Lists.{All-append}
use Rattle.cap_codec.specs.Rows.{RawValue, FitsFrame, frame}
use Rattle.cap_codec.proofs.Frames.{frame_long}
use Rattle.peer_image.specs.ImageOne.{magic_one}
use Rattle.peer_image.specs.ImageOneReading.{IsFront}
use Rattle.peer_image.specs.Parts.{IsHead, IsPart}

-- behind the head no frame was read
pub front_none : (bytes n left : List ℕ) → IsHead bytes n left → IsFront bytes n [] left
front_none bytes n left h = record { key = h.key; fit = tt; parts = h.parts }

-- one part more
pub front_on : (bytes n : List ℕ) (rows : List RawValue) (left : List ℕ) (most : ℕ) (more : List RawValue) (rest : List ℕ) → IsFront bytes n rows left → IsPart left most more rest → IsFront bytes n (rows ++ more) rest
front_on bytes n rows left most more rest f p = record {
  key = f.key;
  fit = All-append FitsFrame rows more f.fit p.fit;
  parts =
      f.parts
      ∙ ap (λ (l : List ℕ). (magic_one ++ n) ++ (flat_map frame rows ++ l)) p.parts
      ∙ ap (λ (l : List ℕ). (magic_one ++ n) ++ l) (sym (append_assoc (flat_map frame rows) (flat_map frame more) rest))
      ∙ ap (λ (l : List ℕ). (magic_one ++ n) ++ (l ++ rest)) (sym (flat_map-append frame rows more));
}

-- a part with a row takes bytes
pub part_shorter : (bytes : List ℕ) (most : ℕ) (rows : List RawValue) (left : List ℕ) → IsPart bytes most rows left → 0 < length rows → length left < length bytes
part_shorter bytes most [] left p some = absurd (omega (arith, some))
part_shorter bytes most (r ∷ rows) left p some =
    omega (arith, ap length p.parts, length-append (frame r ++ flat_map frame rows) left, length-append (frame r) (flat_map frame rows), frame_long r)
