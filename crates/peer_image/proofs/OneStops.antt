-- Bytes have one front of frames that nothing goes on from, so they are one image, or go wrong at one place.
use Rattle.std.proofs.Common.{◌≡◌, inl, inr, ℕ, ◌<◌, ◌^◌, List, [], ◌∷◌, ◌++◌, length, refl, sym, ap, subst, ◌∙◌, append_assoc, arith}
use Rattle.std.specs.List.{flat_map}
use Rattle.std.specs.Int.{w32, to_be_bytes}
use Rattle.std.proofs.lemmas.List.{length-append, length-map, append_cancel_left}
use Rattle.spelling.specs.Front.{Whole}
use Rattle.spelling.specs.Form.{IsForm}
use Rattle.spelling.specs.Reader.{IsReader}
use Rattle.spelling.specs.Reading.{Fails}
use Rattle.spelling.specs.declared.input.Unread.{Unread}
use Rattle.spelling.specs.declared.input.Unread.TheVariants as unread
use Rattle.spelling.proofs.Reader.{reader}
use Rattle.spelling.proofs.Joining.{Reads, Reads-then, Reads-is, any_follows, one_spelling, whole_value, whole_not_part, whole_not_wrong}
use Rattle.spelling.proofs.Exact.{exactly-reads}
use Rattle.spelling.proofs.Repeated.{text-reads}
use Rattle.willow_path.specs.Key.{IsKey, key_at}
use Rattle.willow_path.proofs.PathReads.{key-reads}
use Rattle.willow_entry.specs.EntryForm.{entry_spelling}
use Rattle.willow_entry.specs.Frame.{row_frame}
use Rattle.willow_entry.specs.RowBody.{row_body}
use Rattle.willow_entry.specs.declared.frame.TheConstants.{MAX_FRAME}
use Rattle.cap_codec.specs.Rows.{RawValue, IsRaw, row_of, raw_spelling, frame}
use Rattle.cap_codec.specs.Streams.{HasNoFrame, AreAllFrames}
use Rattle.cap_codec.proofs.CapReads.{zero_key, zero_key_fits}
use Rattle.cap_codec.proofs.Frames.{length-reads, body_at, frame_again, same_frames}
use Rattle.peer_image.specs.Image.{trailer}
use Rattle.peer_image.specs.ImageOne.{image_one, magic_one}
use Rattle.peer_image.specs.ImageOneReading.{header_at, header_spelling, raw_rows, image_one_spelling, HasNoHeader, FitsImage, IsImageOne, IsFront, ImageStopsAt, IsWrongOne, Told}

-- ---- the header

pub header-reads : Reads header_at (λ n. magic_one ++ n) IsKey
unfolding header_at
header-reads =
    Reads-is (Reads-then (λ (t : Unit {0} × List ℕ). key_at t.1) (λ (n : List ℕ). tt) (exactly-reads magic_one) (λ t. key-reads) (λ t n f. refl) (any_follows (exactly-reads magic_one) (λ t f. (zero_key, zero_key_fits))))
    (λ n. refl) (λ n f. f.1) (λ n f. (tt, f))

pub header_reader : IsReader header_at header_spelling IsKey
header_reader = reader header-reads

-- where none was read, none is there
pub headless : (u : Unread) (bytes input : List ℕ) → input ≡ bytes → (u ≡ unread.NoMemory → ⊥) → Fails u (header_at input) → HasNoHeader bytes
headless unread.NoMemory bytes input is sure e n left key parts = sure refl
headless unread.Part bytes input is sure e n left key parts =
    whole_not_part n left (header_at bytes) (ap header_at parts ∙ header-reads.again n left key) (ap header_at (sym is) ∙ e)
headless unread.Wrong bytes input is sure e n left key parts =
    whole_not_wrong n left (header_at bytes) (ap header_at parts ∙ header-reads.again n left key) (ap header_at (sym is) ∙ e)

-- a header that is read is there
pub headed : (bytes n rest : List ℕ) → IsKey n → bytes ≡ (magic_one ++ n) ++ rest → HasNoHeader bytes → ⊥
headed bytes n rest key parts none = none n rest key parts

-- ---- what begins with no frame

pub behind_key : (a b c : List ℕ) → length a ≡ 33 → [] ≡ (a ++ b) ++ c → ⊥
behind_key a b c h e = omega (arith, h, ap length e, length-append (a ++ b) c, length-append a b)

body_some : (r : RawValue) → IsRaw r → [] ≡ raw_spelling r → ⊥
unfolding entry_spelling
body_some r f e = behind_key r.entry.namespace _ _ f.entry_fits.namespace.whole e

pub zero_body : (rest : List ℕ) → body_at (0 ∷ 0 ∷ 0 ∷ 0 ∷ rest) ≡ Whole [] rest
zero_body rest = (text-reads MAX_FRAME (omega arith) length-reads).again [] rest (omega arith, tt)

-- four bytes 00
pub zeros_left : (rest : List ℕ) → HasNoFrame (0 ∷ 0 ∷ 0 ∷ 0 ∷ rest)
zeros_left rest r others f e = body_some r f.raw (whole_value [] (raw_spelling r) rest others (sym (zero_body rest) ∙ ap body_at e ∙ frame_again r others f))

-- the end of an image
pub trailer_left : (k : ℕ) → HasNoFrame (trailer k)
trailer_left k = zeros_left (to_be_bytes w32 k)

-- ---- fronts

pub record SameFronts (n m : List ℕ) (rows others : List RawValue) (a b : List ℕ) : Type 0 where
  pub namespace : n ≡ m
  pub rows_same : rows ≡ others
  pub left_same : a ≡ b

pub same_fronts : (bytes n m : List ℕ) (rows others : List RawValue) (a b : List ℕ) → IsFront bytes n rows a → IsFront bytes m others b → HasNoFrame a → HasNoFrame b → SameFronts n m rows others a b
same_fronts bytes n m rows others a b f g na nb =
    let both = one_spelling header-reads n m (flat_map frame rows ++ a) (flat_map frame others ++ b) f.key g.key (sym f.parts ∙ g.parts) in
    let more = same_frames rows others a b f.fit g.fit na nb both.1 in
    record { namespace = both.0; rows_same = more.0; left_same = more.1 }

-- ---- images

framed : (rows : List RawValue) → flat_map row_frame (raw_rows rows) ≡ flat_map frame rows
unfolding row_body
framed [] = refl
framed (r ∷ rows) = ap (λ (l : List ℕ). frame r ++ l) (framed rows)

pub image_is : (n : List ℕ) (rows : List RawValue) → image_one n (raw_rows rows) ≡ (magic_one ++ n) ++ (flat_map frame rows ++ trailer (length rows))
unfolding image_one
image_is n rows =
    ap (λ (l : List ℕ). (magic_one ++ n) ++ (l ++ trailer (length (raw_rows rows)))) (framed rows)
    ∙ ap (λ (k : ℕ). (magic_one ++ n) ++ (flat_map frame rows ++ trailer k)) (length-map rows row_of)

pub front_of_image : (bytes n : List ℕ) (rows : List RawValue) → IsImageOne bytes n rows → IsFront bytes n rows (trailer (length rows))
front_of_image bytes n rows i = record { key = i.key; fit = i.fit; parts = i.spelled ∙ image_is n rows }

pub image_of_front : (bytes n : List ℕ) (rows : List RawValue) (left : List ℕ) → IsFront bytes n rows left → length rows < 2 ^ 32 → left ≡ trailer (length rows) → IsImageOne bytes n rows
image_of_front bytes n rows left f few is = record {
  key = f.key;
  fit = f.fit;
  count = few;
  spelled = f.parts ∙ ap (λ (l : List ℕ). (magic_one ++ n) ++ (flat_map frame rows ++ l)) is ∙ sym (image_is n rows);
}

-- an image has a header
pub image_headed : (bytes n : List ℕ) (rows : List RawValue) → IsImageOne bytes n rows → HasNoHeader bytes → ⊥
image_headed bytes n rows i none = none n _ i.key (front_of_image bytes n rows i).parts

-- the frames behind a header
pub front_behind : (bytes n behind : List ℕ) (rows : List RawValue) (left : List ℕ) → IsKey n → bytes ≡ (magic_one ++ n) ++ behind → AreAllFrames behind rows left → IsFront bytes n rows left
front_behind bytes n behind rows left key is all = record { key = key; fit = all.fit; parts = is ∙ ap (λ (l : List ℕ). (magic_one ++ n) ++ l) all.parts }

-- ---- the laws

image_in_front : (n : List ℕ) (rows : List RawValue) (a : List ℕ) → image_one n (raw_rows rows) ++ a ≡ (magic_one ++ n) ++ (flat_map frame rows ++ (trailer (length rows) ++ a))
image_in_front n rows a =
    ap (λ (l : List ℕ). l ++ a) (image_is n rows)
    ∙ append_assoc (magic_one ++ n) (flat_map frame rows ++ trailer (length rows)) a
    ∙ ap (λ (l : List ℕ). (magic_one ++ n) ++ l) (append_assoc (flat_map frame rows) (trailer (length rows)) a)

pub told_same : (t u : Told) → t.namespace ≡ u.namespace → t.rows ≡ u.rows → t ≡ u
told_same t u n r = λ i. record { namespace = n i; rows = r i }

-- an image in front tells what it tells, and what stands behind it
pub image_form : IsForm image_one_spelling FitsImage
image_form t u a b f g e =
    let both = one_spelling header-reads t.namespace u.namespace (flat_map frame t.rows ++ (trailer (length t.rows) ++ a)) (flat_map frame u.rows ++ (trailer (length u.rows) ++ b)) f.key g.key
    (sym (image_in_front t.namespace t.rows a) ∙ e ∙ image_in_front u.namespace u.rows b) in
    let same = same_frames t.rows u.rows (trailer (length t.rows) ++ a) (trailer (length u.rows) ++ b) f.fit g.fit
    (zeros_left (to_be_bytes w32 (length t.rows) ++ a)) (zeros_left (to_be_bytes w32 (length u.rows) ++ b)) both.1 in
    (told_same t u both.0 same.0, append_cancel_left (trailer (length t.rows)) a b (same.1 ∙ ap (λ (l : List RawValue). trailer (length l) ++ b) (sym same.0)))

pub one_image : (bytes n m : List ℕ) (rows others : List RawValue) → IsImageOne bytes n rows → IsImageOne bytes m others → (n ≡ m) × (rows ≡ others)
one_image bytes n m rows others i j =
    let same = same_fronts bytes n m rows others _ _ (front_of_image bytes n rows i) (front_of_image bytes m others j) (trailer_left (length rows)) (trailer_left (length others)) in
    (same.namespace, same.rows_same)

-- what stops is no image
stuck_image : (bytes n : List ℕ) (rows : List RawValue) (at : ℕ) → IsImageOne bytes n rows → ImageStopsAt bytes at → ⊥
stuck_image bytes n rows at i s =
    let same = same_fronts bytes n s.namespace rows s.rows (trailer (length rows)) s.left (front_of_image bytes n rows i) s.front (trailer_left (length rows)) s.stuck.no_frame in
    s.stuck.no_trailer (subst (λ (l : List RawValue). length l < 2 ^ 32) same.rows_same i.count)
    (sym same.left_same ∙ ap (λ (l : List RawValue). trailer (length l)) same.rows_same)

pub never_both : (bytes n : List ℕ) (rows : List RawValue) (at : ℕ) → IsImageOne bytes n rows → IsWrongOne bytes at → ⊥
never_both bytes n rows at i (inl w) = w.0 n _ i.key (front_of_image bytes n rows i).parts
never_both bytes n rows at i (inr s) = stuck_image bytes n rows at i s

pub one_place : (bytes : List ℕ) (at other : ℕ) → IsWrongOne bytes at → IsWrongOne bytes other → at ≡ other
one_place bytes at other (inl w) (inl v) = w.1 ∙ sym v.1
one_place bytes at other (inl w) (inr s) = absurd (w.0 s.namespace _ s.front.key s.front.parts)
one_place bytes at other (inr s) (inl v) = absurd (v.0 s.namespace _ s.front.key s.front.parts)
one_place bytes at other (inr s) (inr t) =
    let same = same_fronts bytes s.namespace t.namespace s.rows t.rows s.left t.left s.front t.front s.stuck.no_frame t.stuck.no_frame in
    omega (arith, s.place, t.place, ap length same.left_same)
