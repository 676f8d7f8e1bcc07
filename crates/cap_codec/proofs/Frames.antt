-- Frames: each row has one, and a stream of them has one reading.
use Rattle.std.proofs.Common.{◌≡◌, ℕ, ◌-◌, ◌<◌, ◌≤◌, ◌^◌, false, ltb, List, [], ◌∷◌, ◌++◌, length, take, drop, Result, Ok, Err, refl, sym, ap, subst, ◌∙◌, append_assoc, arith}
use Rattle.std.specs.List.{AllByRecursion, flat_map}
use Rattle.std.specs.Int.{w32, to_be_bytes}
use Rattle.std.specs.Result.{IsErrAnd}
use Rattle.std.proofs.lemmas.Bool.{le-ltb}
use Rattle.std.proofs.lemmas.List.{append-nil, length-append, take_at, drop_at, take-append-drop}
use Rattle.std.proofs.lemmas.Grind.{flat_map-append}
use Rattle.std.proofs.lemmas.Result.{err_from_is_err_and}
use Rattle.spelling.specs.Front.{Front, Whole, ◌>>=◌}
use Rattle.spelling.specs.Form.{AreBytes, IsForm, Decodes}
use Rattle.spelling.specs.Spelling.{text_spelling}
use Rattle.spelling.specs.Reading.{bytes_at, number_up_to, text_at, Fails, IsEndOf}
use Rattle.spelling.specs.declared.ending.End.{End}
use Rattle.spelling.specs.declared.ending.End.TheVariants.{Refused, NoMemory}
use Rattle.spelling.specs.declared.ending.NotHere.{NotHere}
use Rattle.spelling.specs.declared.input.Unread.{Unread}
use Rattle.spelling.specs.declared.input.Unread.TheVariants as unread
use Rattle.spelling.proofs.Lists.{All-append, take_front}
use Rattle.spelling.proofs.Joining.{Reads, one_spelling, whole_value, whole_rest, whole_not_part, whole_not_wrong}
use Rattle.spelling.proofs.Fields.{u32_up_to-reads}
use Rattle.spelling.proofs.Repeated.{text-reads}
use Rattle.willow_entry.specs.RowBody.{row_body}
use Rattle.willow_entry.specs.declared.frame.TheConstants.{MAX_FRAME}
use Rattle.cap_codec.specs.Rows.{RawValue, raw_spelling, ReadsWhole, FitsFrame, frame, HaveOneReading}
use Rattle.cap_codec.specs.Streams.{HasNoFrame, FramesNeverStop, HaveOneStop}
use Rattle.cap_codec.proofs.RowReads.{raw-reads}

-- ---- a frame

-- what reads the length of a body, and the body
abbrev pub body_at : List ℕ → Front (List ℕ)
body_at = text_at (number_up_to w32 MAX_FRAME)

pub length-reads : Reads (number_up_to w32 MAX_FRAME) (to_be_bytes w32) (λ n. (n ≤ MAX_FRAME) × (n < 2 ^ 32))
length-reads = u32_up_to-reads MAX_FRAME (omega arith)

bytes_again : (x rest : List ℕ) → bytes_at (length x) (x ++ rest) ≡ Whole x rest
bytes_again x rest =
    let long : ltb (length (x ++ rest)) (length x) ≡ false = le-ltb _ _ (omega (arith, length-append x rest)) in
    rw (long, take_at x rest (length x) refl, drop_at x rest (length x) refl) refl

pub text_again : (x rest : List ℕ) → length x ≤ MAX_FRAME → body_at (text_spelling (to_be_bytes w32) x ++ rest) ≡ Whole x rest
unfolding text_at
text_again x rest short =
    ap body_at (append_assoc (to_be_bytes w32 (length x)) x rest)
    ∙ ap (λ (q : Front ℕ). q >>= λ n. bytes_at n.0 n.1) (length-reads.again (length x) (x ++ rest) (short, omega (arith, short)))
    ∙ bytes_again x rest

-- in front of anything, a frame gives its row's body
pub frame_again : (r : RawValue) (rest : List ℕ) → FitsFrame r → body_at (frame r ++ rest) ≡ Whole (raw_spelling r) rest
unfolding row_body
frame_again r rest fits = text_again (raw_spelling r) rest fits.short

pub frame_form : IsForm frame FitsFrame
frame_form r s a b fr fs e =
    let same = sym (frame_again r a fr) ∙ ap body_at e ∙ frame_again s b fs in
    let bodies : raw_spelling r ≡ raw_spelling s = whole_value (raw_spelling r) (raw_spelling s) a b same in
    let both = one_spelling raw-reads r s [] [] fr.raw fs.raw (append-nil (raw_spelling r) ∙ bodies ∙ sym (append-nil (raw_spelling s))) in
    (both.0, whole_rest (raw_spelling r) (raw_spelling s) a b same)

-- ---- what a decoder of a frame answers

not_framed : (u : Unread) (e : End NotHere) (bytes : List ℕ) → Fails u (body_at bytes) → IsEndOf u e → Decodes frame FitsFrame bytes (Err e)
not_framed unread.NoMemory e bytes h is = subst (λ (d : End NotHere). Decodes frame FitsFrame bytes (Err d)) (sym is) tt
not_framed unread.Part e bytes h is =
    subst (λ (d : End NotHere). Decodes frame FitsFrame bytes (Err d)) (sym is) (λ r rest fits parts. whole_not_part (raw_spelling r) rest (body_at bytes) (ap body_at parts ∙ frame_again r rest fits) h)
not_framed unread.Wrong e bytes h is =
    subst (λ (d : End NotHere). Decodes frame FitsFrame bytes (Err d)) (sym is) (λ r rest fits parts. whole_not_wrong (raw_spelling r) rest (body_at bytes) (ap body_at parts ∙ frame_again r rest fits) h)

-- no body was read
pub frame_end : (bytes input : List ℕ) (u : Unread) (result : Result (RawValue × ℕ) (End NotHere)) → input ≡ bytes → Fails u (body_at input) → IsErrAnd result (IsEndOf u) → Decodes frame FitsFrame bytes result
frame_end bytes input u result is h err =
    let p = err_from_is_err_and result err in
    subst (λ (r : Result (RawValue × ℕ) (End NotHere)). Decodes frame FitsFrame bytes r) (sym p.1) (not_framed u p.0 bytes (subst (λ (l : List ℕ). Fails u (body_at l)) is h) p.2)

-- the body that was read is no row's
pub frame_not : (bytes body left : List ℕ) (e : End NotHere) → body_at bytes ≡ Whole body left → ReadsWhole body (Err e) → Decodes frame FitsFrame bytes (Err e)
frame_not bytes body left NoMemory h none = tt
frame_not bytes body left (Refused e) h none =
    λ r rest fits parts. none r fits.raw (whole_value body (raw_spelling r) left rest (sym h ∙ ap body_at parts ∙ frame_again r rest fits))

-- the body that was read is a row's
pub frame_whole : (bytes input body left : List ℕ) (r : RawValue) (taken : ℕ) → AreBytes bytes → input ≡ bytes → body_at input ≡ Whole body left → ReadsWhole body (Ok r) → taken ≡ length bytes - length left
    → Decodes frame FitsFrame bytes (Ok (r, taken))
unfolding row_body
frame_whole bytes input body left r taken are same h is n =
    let t = (text-reads MAX_FRAME (omega arith) length-reads).takes bytes body left are (ap body_at (sym same) ∙ h) in
    let parts : bytes ≡ frame r ++ left = t.parts ∙ ap (λ (l : List ℕ). text_spelling (to_be_bytes w32) l ++ left) is.1 in
    let short : length (raw_spelling r) ≤ MAX_FRAME = subst (λ (l : List ℕ). length l ≤ MAX_FRAME) is.1 t.fits.0 in
    (record { raw = is.0; short = short }, omega (arith, n), ap (λ (k : ℕ). take k bytes) n ∙ take_front bytes (frame r) left parts)

-- ---- a stream of frames

pub frame_long : (r : RawValue) → 4 ≤ length (frame r)
unfolding row_body
frame_long r = omega (arith, length-append (to_be_bytes w32 (length (raw_spelling r))) (raw_spelling r))

nothing_left : HasNoFrame []
nothing_left r rest fits e = omega (arith, ap length e, length-append (frame r) rest, frame_long r)

-- what stands in front up to where no frame goes on is the same
pub same_frames : (rows others : List RawValue) (a b : List ℕ) → AllByRecursion FitsFrame rows → AllByRecursion FitsFrame others → HasNoFrame a → HasNoFrame b
    → flat_map frame rows ++ a ≡ flat_map frame others ++ b → (rows ≡ others) × (a ≡ b)
same_frames [] [] a b f g na nb e = (refl, e)
same_frames [] (s ∷ others) a b f g na nb e = absurd (na s (flat_map frame others ++ b) g.0 (e ∙ append_assoc (frame s) (flat_map frame others) b))
same_frames (r ∷ rows) [] a b f g na nb e = absurd (nb r (flat_map frame rows ++ a) f.0 (sym e ∙ append_assoc (frame r) (flat_map frame rows) a))
same_frames (r ∷ rows) (s ∷ others) a b f g na nb e =
    let both = frame_form r s (flat_map frame rows ++ a) (flat_map frame others ++ b) f.0 g.0
    (sym (append_assoc (frame r) (flat_map frame rows) a) ∙ e ∙ append_assoc (frame s) (flat_map frame others) b) in
    let more = same_frames rows others a b f.1 g.1 na nb both.1 in
    (ap (λ (x : RawValue). x ∷ rows) both.0 ∙ ap (λ (l : List RawValue). s ∷ l) more.0, more.1)

pub same_rows : (rows others : List RawValue) → AllByRecursion FitsFrame rows → AllByRecursion FitsFrame others → flat_map frame rows ≡ flat_map frame others → rows ≡ others
same_rows rows others f g e =
    (same_frames rows others [] [] f g nothing_left nothing_left (append-nil (flat_map frame rows) ∙ e ∙ sym (append-nil (flat_map frame others)))).0

pub one_stream : HaveOneReading
one_stream bytes rows others f g = same_rows rows others f.fit g.fit (sym f.spelled ∙ g.spelled)

pub never_both : FramesNeverStop
never_both bytes at rows s are =
    let same = same_frames s.rows rows s.left [] s.frames.fit are.fit s.frames.no_frame nothing_left (sym s.frames.parts ∙ are.spelled ∙ sym (append-nil (flat_map frame rows))) in
    omega (arith, s.more, ap length same.1)

pub one_stop : HaveOneStop
one_stop bytes at other s t =
    let same = same_frames s.rows t.rows s.left t.left s.frames.fit t.frames.fit s.frames.no_frame t.frames.no_frame (sym s.frames.parts ∙ t.frames.parts) in
    sym s.place ∙ ap (λ (l : List RawValue). length (flat_map frame l)) same.0 ∙ t.place

-- the frames of rows behind which bytes are left
pub record FramesSo (bytes : List ℕ) (rows : List RawValue) (left : List ℕ) : Type 0 where
  pub fit : AllByRecursion FitsFrame rows
  pub parts : bytes ≡ flat_map frame rows ++ left

-- one more frame
pub frame_on : (bytes left : List ℕ) (rows : List RawValue) (r : RawValue) (taken : ℕ) → FramesSo bytes rows left → Decodes frame FitsFrame left (Ok (r, taken)) → FramesSo bytes (rows ++ r ∷ []) (drop taken left)
frame_on bytes left rows r taken so one =
    let on : left ≡ frame r ++ drop taken left = sym (take-append-drop taken left) ∙ ap (λ (l : List ℕ). l ++ drop taken left) one.2 in
    let all : flat_map frame (rows ++ r ∷ []) ≡ flat_map frame rows ++ frame r = flat_map-append frame rows (r ∷ []) ∙ ap (λ (l : List ℕ). flat_map frame rows ++ l) (append-nil (frame r)) in
    record {
      fit = All-append FitsFrame rows (r ∷ []) so.fit (one.0, tt);
      parts = so.parts ∙ ap (λ (l : List ℕ). flat_map frame rows ++ l) on ∙ sym (append_assoc (flat_map frame rows) (frame r) (drop taken left)) ∙ ap (λ (l : List ℕ). l ++ drop taken left) (sym all);
    }

-- ---- errors that are handed on

-- the body that was read is no row's, and the decoder hands that on
pub frame_err : (bytes input body left : List ℕ) (e : End NotHere) (result : Result (RawValue × ℕ) (End NotHere)) → input ≡ bytes → body_at input ≡ Whole body left → ReadsWhole body (Err e) → IsErrAnd result (λ d. d ≡ e)
    → Decodes frame FitsFrame bytes result
frame_err bytes input body left e result is h none err =
    let p = err_from_is_err_and result err in
    subst (λ (r : Result (RawValue × ℕ) (End NotHere)). Decodes frame FitsFrame bytes r) (ap (λ (d : End NotHere). Err d) (sym p.2) ∙ sym p.1) (frame_not bytes body left e (ap body_at (sym is) ∙ h) none)
