-- The reader of a row's body goes with its spelling, and what a whole body tells.
use Rattle.std.proofs.Common.{◌≡◌, ℕ, ◌-◌, ◌≤◌, ◌<◌, List, [], ◌∷◌, ◌++◌, length, take, drop, Result, Ok, Err, refl, sym, ap, subst, ◌∙◌, arith}
use Rattle.std.proofs.lemmas.List.{append-nil, length-append, take_at, drop_at}
use Rattle.std.specs.Result.{IsErrAnd}
use Rattle.std.proofs.lemmas.Result.{err_from_is_err_and}
use Rattle.spelling.specs.Front.{Front, Whole, ◌>>=◌}
use Rattle.spelling.specs.Form.{AreBytes}
use Rattle.spelling.specs.Reading.{Fails, IsEndOf}
use Rattle.spelling.specs.declared.ending.End.{End}
use Rattle.spelling.specs.declared.ending.End.TheVariants.{Refused}
use Rattle.spelling.specs.declared.ending.NotHere.{NotHere}
use Rattle.spelling.specs.declared.input.Unread.{Unread}
use Rattle.spelling.specs.declared.input.Unread.TheVariants as unread
use Rattle.spelling.proofs.Joining.{Reads, Reads-then, Reads-last, Reads-is, any_follows, alone, whole_rest, whole_not_part, whole_not_wrong}
use Rattle.willow_entry.specs.EntryForm.{entry_spelling, entry_at}
use Rattle.willow_entry.specs.declared.entry.Entry.{Entry}
use Rattle.willow_entry.specs.Row.{RowValue}
use Rattle.willow_entry.specs.RowBody.{row_body}
use Rattle.willow_entry.specs.Frame.{row_frame}
use Rattle.willow_entry.proofs.EntryReads.{entry-reads}
use Rattle.mc_cap.specs.Forms.{capability_spelling}
use Rattle.mc_cap.specs.Signature.{signature_spelling}
use Rattle.cap_codec.specs.declared.token.WriteToken.{WriteToken}
use Rattle.willow_entry.specs.declared.frame.TheConstants.{MAX_FRAME}
use Rattle.cap_codec.specs.Reading.{token_at, raw_at}
use Rattle.cap_codec.specs.Rows.{RawValue, IsRaw, IsRawRow, IsToken, row_of, token_spelling, raw_spelling, frame, FitsFrame, ReadsWhole}
use Rattle.cap_codec.proofs.CapReads.{token-reads, some_token, some_token_fits}

abbrev raw : Entry → WriteToken → RawValue
raw entry token = record { entry = entry; token = token }

from_entry : (e : Entry) → Reads (λ bytes. token_at bytes >>= λ t. Whole (raw e t.0) t.1) (λ (r : RawValue). token_spelling r.token)
    (λ r. IsToken r.token × (r ≡ raw e r.token))
from_entry e = Reads-last (λ (r : RawValue). r.token) (raw e) token-reads (λ t. refl)

pub raw-reads : Reads raw_at raw_spelling IsRaw
unfolding raw_at
raw-reads =
    let joined = Reads-then (λ (e : Entry × List ℕ). token_at e.1 >>= λ t. Whole (raw e.0 t.0) t.1) (λ (r : RawValue). r.entry) entry-reads from_entry (λ e r f. ap (λ (x : RawValue). x.entry) f.1)
    (any_follows entry-reads (λ e f. (raw e some_token, (some_token_fits, refl)))) in
    Reads-is joined (λ r. refl) (λ r f. record { entry_fits = f.0; token_fits = f.1.0 }) (λ r f. (f.entry_fits, (f.token_fits, refl)))

-- ---- what was not read

-- no entry, no row
no_entry : (u : Unread) (body : List ℕ) → Fails u (entry_at body) → Fails u (raw_at body)
unfolding raw_at
no_entry unread.NoMemory body h = tt
no_entry unread.Part body h = ap (λ (q : Front Entry). q >>= λ e. token_at e.1 >>= λ t. Whole (raw e.0 t.0) t.1) h
no_entry unread.Wrong body h = ap (λ (q : Front Entry). q >>= λ e. token_at e.1 >>= λ t. Whole (raw e.0 t.0) t.1) h

-- the input is the whole body
pub fails_entry : (u : Unread) (body input : List ℕ) → input ≡ body → Fails u (entry_at input) → Fails u (raw_at body)
fails_entry u body input is h = no_entry u body (subst (λ (l : List ℕ). Fails u (entry_at l)) is h)

token_next : (body : List ℕ) (e : Entry) (rest : List ℕ) → entry_at body ≡ Whole e rest → raw_at body ≡ (token_at rest >>= λ t. Whole (raw e t.0) t.1)
unfolding raw_at
token_next body e rest h = ap (λ (q : Front Entry). q >>= λ e. token_at e.1 >>= λ t. Whole (raw e.0 t.0) t.1) h

-- no token behind the entry, no row
no_token : (u : Unread) (body : List ℕ) (e : Entry) (rest : List ℕ) → entry_at body ≡ Whole e rest → Fails u (token_at rest) → Fails u (raw_at body)
no_token unread.NoMemory body e rest h k = tt
no_token unread.Part body e rest h k = token_next body e rest h ∙ ap (λ (q : Front WriteToken). q >>= λ t. Whole (raw e t.0) t.1) k
no_token unread.Wrong body e rest h k = token_next body e rest h ∙ ap (λ (q : Front WriteToken). q >>= λ t. Whole (raw e t.0) t.1) k

pub fails_token : (u : Unread) (body input : List ℕ) (e : Entry) (rest : List ℕ) → input ≡ body → entry_at input ≡ Whole e rest → Fails u (token_at rest) → Fails u (raw_at body)
fails_token u body input e rest is h k = no_token u body e rest (ap entry_at (sym is) ∙ h) k

whole_not : (u : Unread) (e : End NotHere) (body : List ℕ) → Fails u (raw_at body) → IsEndOf u e → ReadsWhole body (Err e)
whole_not unread.NoMemory e body h is = subst (λ (d : End NotHere). ReadsWhole body (Err d)) (sym is) tt
whole_not unread.Part e body h is =
    subst (λ (d : End NotHere). ReadsWhole body (Err d)) (sym is) (λ r fits spelled. whole_not_part r [] (raw_at body) (ap raw_at spelled ∙ alone raw-reads r fits) h)
whole_not unread.Wrong e body h is =
    subst (λ (d : End NotHere). ReadsWhole body (Err d)) (sym is) (λ r fits spelled. whole_not_wrong r [] (raw_at body) (ap raw_at spelled ∙ alone raw-reads r fits) h)

-- a body of which no row was read
pub whole_end : (body : List ℕ) (u : Unread) (result : Result RawValue (End NotHere)) → Fails u (raw_at body) → IsErrAnd result (IsEndOf u) → ReadsWhole body result
whole_end body u result h err =
    let p = err_from_is_err_and result err in
    subst (λ (r : Result RawValue (End NotHere)). ReadsWhole body r) (sym p.1) (whole_not u p.0 body h p.2)

-- ---- what was read

pub raw_whole : (body : List ℕ) (e : Entry) (rest : List ℕ) (t : WriteToken) (left : List ℕ) → entry_at body ≡ Whole e rest → token_at rest ≡ Whole t left → raw_at body ≡ Whole (raw e t) left
raw_whole body e rest t left h k = token_next body e rest h ∙ ap (λ (q : Front WriteToken). q >>= λ t. Whole (raw e t.0) t.1) k

-- no row is spelled by a body that goes on behind one
pub whole_more : (body input : List ℕ) (e : Entry) (rest : List ℕ) (t : WriteToken) (left : List ℕ) (why : NotHere) → input ≡ body → entry_at input ≡ Whole e rest → token_at rest ≡ Whole t left → 0 < length left → ReadsWhole body (Err (Refused why))
whole_more body input e rest t left why is h k more =
    λ r fits spelled.
    let whole = raw_whole body e rest t left (ap entry_at (sym is) ∙ h) k in
    let nothing : left ≡ [] = whole_rest (raw e t) r left [] (sym whole ∙ ap raw_at spelled ∙ alone raw-reads r fits) in
    omega (arith, more, ap length nothing)

pub empty : (left : List ℕ) → length left ≤ 0 → left ≡ []
empty [] h = refl
empty (b ∷ left) h = absurd (omega (arith, h))

-- a body that is a row, whose entry has so many bytes
pub record Parts (body : List ℕ) (e : Entry) (t : WriteToken) (n : ℕ) : Type 0 where
  pub fits : IsRaw (raw e t)
  pub spelled : body ≡ raw_spelling (raw e t)
  pub entry_long : n ≡ length (entry_spelling e)
  pub within : n ≤ length body

-- a body read to its end, of which so many bytes were the entry's
pub parts : (body input : List ℕ) (e : Entry) (rest : List ℕ) (t : WriteToken) (left : List ℕ) (n : ℕ) → AreBytes body → input ≡ body → entry_at input ≡ Whole e rest → token_at rest ≡ Whole t left
    → length left ≤ 0 → n ≡ length body - length rest → Parts body e t n
parts body input e rest t left n are same h k end is =
    let entry = entry-reads.takes body e rest are (ap entry_at (sym same) ∙ h) in
    let token = token-reads.takes rest t left entry.rest_are k in
    let rest_is : rest ≡ token_spelling t = token.parts ∙ ap (λ (l : List ℕ). token_spelling t ++ l) (empty left end) ∙ append-nil (token_spelling t) in
    record {
      fits = record { entry_fits = entry.fits; token_fits = token.fits };
      spelled = entry.parts ∙ ap (λ (l : List ℕ). entry_spelling e ++ l) rest_is;
      entry_long = omega (arith, is, ap length entry.parts, length-append (entry_spelling e) rest);
      within = omega (arith, is);
    }

-- the entry's bytes stand in front of a body
pub entry_part : (body : List ℕ) (r : RawValue) (n : ℕ) → body ≡ raw_spelling r → n ≡ length (entry_spelling r.entry) → take n body ≡ entry_spelling r.entry
entry_part body r n spelled long = ap (λ (l : List ℕ). take n l) spelled ∙ take_at (entry_spelling r.entry) (token_spelling r.token) n (sym long)

-- and the token's behind them
pub token_part : (body : List ℕ) (r : RawValue) (n : ℕ) → body ≡ raw_spelling r → n ≡ length (entry_spelling r.entry) → drop n body ≡ token_spelling r.token
token_part body r n spelled long = ap (λ (l : List ℕ). drop n l) spelled ∙ drop_at (entry_spelling r.entry) (token_spelling r.token) n (sym long)

pub entry_within : (body : List ℕ) (r : RawValue) (n : ℕ) → body ≡ raw_spelling r → n ≡ length (entry_spelling r.entry) → n ≤ length body
entry_within body r n spelled long = omega (arith, long, ap length spelled, length-append (entry_spelling r.entry) (token_spelling r.token))

-- the capability's bytes stand in front of a token
pub capability_part : (bytes : List ℕ) (t : WriteToken) (n : ℕ) → bytes ≡ token_spelling t → n ≡ length (capability_spelling t.capability) → take n bytes ≡ capability_spelling t.capability
capability_part bytes t n spelled long = ap (λ (l : List ℕ). take n l) spelled ∙ take_at (capability_spelling t.capability) (signature_spelling t.signature) n (sym long)

pub capability_within : (bytes : List ℕ) (t : WriteToken) (n : ℕ) → bytes ≡ token_spelling t → n ≡ length (capability_spelling t.capability) → n ≤ length bytes
capability_within bytes t n spelled long = omega (arith, long, ap length spelled, length-append (capability_spelling t.capability) (signature_spelling t.signature))

-- ---- rows as a store sees them

-- a row that the body spells, as a store sees it
pub body_there : (body : List ℕ) (r : RawValue) → ReadsWhole body (Ok r) → IsRawRow (row_of r) × (body ≡ row_body (row_of r))
unfolding row_body
body_there body r h = (record { entry_fits = h.0.entry_fits; read_out = r.token; token_fits = h.0.token_fits; spelled = refl }, h.1)

-- no row of a store is spelled where none was read
pub body_none : (body : List ℕ) → ((r : RawValue) → IsRaw r → body ≡ raw_spelling r → ⊥) → (r : RowValue) → IsRawRow r → body ≡ row_body r → ⊥
unfolding row_body
body_none body none r fits spelled =
    none (raw r.entry fits.read_out) (record { entry_fits = fits.entry_fits; token_fits = fits.token_fits }) (spelled ∙ ap (λ (t : List ℕ). entry_spelling r.entry ++ t) fits.spelled)

-- what a refusal says of the body
pub not_read : (body : List ℕ) (e : End NotHere) (why : NotHere) → e ≡ Refused why → ReadsWhole body (Err e) → (r : RawValue) → IsRaw r → body ≡ raw_spelling r → ⊥
not_read body e why is none = let P : End NotHere → Type 0 = λ d. ReadsWhole body (Err d) in subst P is none

-- a row's frame is that of the row as a store sees it
pub frame_same : (r : RawValue) → row_frame (row_of r) ≡ frame r
unfolding row_body
frame_same r = refl

-- a row that fits a frame has a short body, as a store sees it
pub body_short : (r : RawValue) → FitsFrame r → length (row_body (row_of r)) ≤ MAX_FRAME
unfolding row_body
body_short r fits = fits.short
