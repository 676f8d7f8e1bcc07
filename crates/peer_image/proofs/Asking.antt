-- Where an image asks for memory.
use Rattle.std.proofs.Common.{◌≡◌, ◌<◌, List, [], ◌∷◌, ◌++◌, ℕ, length, refl, sym, ap, subst, ◌∙◌, append_assoc, arith}
use Rattle.std.specs.List.{flat_map, AllByRecursion}
use Rattle.std.proofs.lemmas.List.{length-append, take_at}
use Rattle.willow_path.specs.Key.{IsKey}
use Rattle.willow_entry.specs.Frame.{FrameAsks}
use Rattle.cap_codec.specs.Rows.{RawValue, FitsFrame, frame}
use Rattle.cap_codec.proofs.Asking.{read_asks}
use Rattle.peer_image.specs.Image.{trailer}
use Rattle.peer_image.specs.ImageOne.{magic_one}
use Rattle.peer_image.specs.ImageOneReading.{header_at, ImageOneAsks, IsImageOne}
use Rattle.peer_image.proofs.OneStops.{header-reads, front_of_image}

-- behind a header, as the frames do
pub header_asks : (bytes n rest : List ℕ) → IsKey n → bytes ≡ (magic_one ++ n) ++ rest → FrameAsks rest → ImageOneAsks bytes
header_asks bytes n rest key parts asks = rw (ap header_at parts ∙ header-reads.again n rest key) asks

framed_asks : (r : RawValue) (rest : List ℕ) → FitsFrame r → FrameAsks (frame r ++ rest)
framed_asks r rest fits = read_asks (frame r ++ rest) r (length (frame r)) (fits, omega (arith, length-append (frame r) rest), take_at (frame r) rest (length (frame r)) refl)

rows_ask : (rows : List RawValue) (end : List ℕ) → AllByRecursion FitsFrame rows → 0 < length rows → FrameAsks (flat_map frame rows ++ end)
rows_ask [] end fit some = absurd (omega (arith, some))
rows_ask (r ∷ rows) end fit some = subst FrameAsks (sym (append_assoc (frame r) (flat_map frame rows) end)) (framed_asks r (flat_map frame rows ++ end) fit.0)

-- bytes that are an image with rows did
pub whole_asks : (bytes n : List ℕ) (rows : List RawValue) → IsImageOne bytes n rows → 0 < length rows → ImageOneAsks bytes
whole_asks bytes n rows i some =
    header_asks bytes n (flat_map frame rows ++ trailer (length rows)) i.key (front_of_image bytes n rows i).parts (rows_ask rows (trailer (length rows)) i.fit some)
