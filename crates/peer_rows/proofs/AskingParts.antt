-- Where the parts of an image, and the log that they make, ask for memory.
use Rattle.std.proofs.Common.{◌≡◌, ◌⊎◌, inl, inr, ℕ, ◌<◌, ◌≤◌, Bool, List, [], ◌∷◌, ◌++◌, length, take, Result, Ok, Err, refl, sym, ap, ◌∙◌, append_assoc, arith, length-append}
use Rattle.std.specs.Prelude.{OnErr}
use Rattle.std.specs.List.{AllByRecursion, flat_map}
use Rattle.std.proofs.lemmas.List.{length-map, take_at}
use Rattle.mc_cap.specs.declared.capability.Capability.{Capability}
use Rattle.willow_entry.specs.Frame.{FrameAsks}
use Rattle.cap_codec.specs.declared.numbered.NumberedRow.{NumberedRow}
use Rattle.cap_codec.specs.Numbered.{numbered_frame}
use Rattle.cap_codec.specs.Rows.{RawValue, frame}
use Rattle.cap_codec.proofs.Asking.{read_asks}
use Rattle.peer_image.specs.declared.known.ImageHead.{ImageHead}
use Rattle.peer_image.specs.ImageOneReading.{header_at}
use Rattle.peer_image.specs.ImageTwoParts.{IsPartTwo}
use Rattle.peer_image.specs.ImageTwoReading.{AreToldInFront, FirstIsWhole, FitsBelow, IsImageHead, head_two_at, head_two_spelling, row_among}
use Rattle.peer_image.specs.Parts.{IsHead, IsPart}
use Rattle.peer_image.proofs.OneStops.{header-reads}
use Rattle.peer_image.proofs.TwoHeads.{head-reads}
use Rattle.peer_image.proofs.TwoReading.{row_asked, some_told}
use Rattle.peer_rows.specs.Parts.{OpeningOneAsks, OpeningTwoAsks}

-- what is so however a call ends, is so where it failed
pub on_err : {A E P : Type 0} (result : Result A E) → P → OnErr result P
on_err (Ok x) p = tt
on_err (Err e) p = p

-- ---- a part

-- what stands in front, taken
taken_front : (bytes front more left : List ℕ) → bytes ≡ (front ++ more) ++ left → take (length front) bytes ≡ front
taken_front bytes front more left parts = ap (take (length front)) (parts ∙ append_assoc front more left) ∙ take_at front (more ++ left) (length front) refl

-- a part with a row asked where its first frame does
pub part_asks : (bytes : List ℕ) (most : ℕ) (rows : List RawValue) (left : List ℕ) → IsPart bytes most rows left → 0 < length rows → FrameAsks bytes
part_asks bytes most [] left p some = absurd (omega (arith, some))
part_asks bytes most (r ∷ rows) left p some =
    let within : length (frame r) ≤ length bytes = omega (arith, ap length p.parts, length-append (frame r ++ flat_map frame rows) left, length-append (frame r) (flat_map frame rows)) in
    read_asks bytes r (length (frame r)) (p.fit.0, within, taken_front bytes (frame r) (flat_map frame rows) left p.parts)

numbered_asks : (bytes : List ℕ) (count : ℕ) (numbered : List NumberedRow) (left : List ℕ) → AllByRecursion (FitsBelow count) numbered → bytes ≡ flat_map numbered_frame numbered ++ left → 0 < length numbered → FrameAsks bytes
numbered_asks bytes count [] left fit parts some = absurd (omega (arith, some))
numbered_asks bytes count (r ∷ rows) left fit parts some = row_asked bytes r (length (numbered_frame r)) fit.0.fits (taken_front bytes (numbered_frame r) (flat_map numbered_frame rows) left parts)

pub part_two_asks : (told : List Capability) (bytes : List ℕ) (most : ℕ) (old : List Bool) (rows : List RawValue) (marks : List Bool) (left : List ℕ) → IsPartTwo told bytes most old rows marks left → 0 < length rows → FrameAsks bytes
part_two_asks told bytes most old rows marks left p some =
    numbered_asks bytes (length told) p.so.numbered left p.so.fit p.so.parts (omega (arith, some, ap length p.so.rows_are, length-map p.so.numbered (row_among told)))

-- ---- the log

-- behind a header
pub head_opens : (bytes n left : List ℕ) → IsHead bytes n left → OpeningOneAsks bytes
head_opens bytes n left head = rw (ap header_at head.parts ∙ header-reads.again n left head.key) tt

-- behind a head, where no capability is counted or the first frame is whole
pub head_two_opens : (bytes : List ℕ) (h : ImageHead) (behind : List ℕ) → IsImageHead h → bytes ≡ head_two_spelling h ++ behind → (h.count ≡ 0) ⊎ FirstIsWhole behind → OpeningTwoAsks bytes
head_two_opens bytes h behind fits parts asks = rw (ap head_two_at parts ∙ head-reads.again h behind fits) asks

-- behind all capabilities
pub told_opens : (bytes : List ℕ) (h : ImageHead) (behind : List ℕ) (told : List Capability) (middle : List ℕ) → IsImageHead h → bytes ≡ head_two_spelling h ++ behind → AreToldInFront behind h.count told middle → length told ≡ h.count → OpeningTwoAsks bytes
told_opens bytes h behind [] middle fits parts are all = head_two_opens bytes h behind fits parts (inl (sym all))
told_opens bytes h behind (c ∷ told) middle fits parts are all = head_two_opens bytes h behind fits parts (inr (some_told behind (c ∷ told) middle are.fit are.parts (omega arith)))
