-- Where memory was asked for, from what was read.
use Rattle.std.proofs.Common.{◌≡◌, ℕ, Bool, true, false, List, [], ◌∷◌, ◌++◌, drop, Option, None, Some, Ok, refl, sym, ap, subst, ◌∙◌, append_assoc, ◌⊎◌, inl, inr}
use Rattle.std.proofs.lemmas.List.{take-append-drop}
use Rattle.std.specs.List.{flat_map}
use Rattle.spelling.specs.Front.{Front, Whole, Part, Wrong, ◌>>=◌}
use Rattle.spelling.specs.Form.{Decodes}
use Rattle.spelling.proofs.Joining.{bind_whole, whole_rest}
use Rattle.spelling.proofs.Loop.{behind}
use Rattle.willow_path.specs.Key.{key_at}
use Rattle.willow_area.specs.AreaSpelling.{AreaAsks, area_at}
use Rattle.willow_area.proofs.AreaReads.{whole_asks as area_asks}
use Rattle.willow_entry.specs.EntryForm.{EntryAsks}
use Rattle.willow_entry.specs.Frame.{FrameAsks}
use Rattle.willow_entry.proofs.EntryReads.{entry-reads, whole_asks as entry_asks}
use Rattle.mc_cap.specs.declared.chain.Delegation.{Delegation}
use Rattle.cap_codec.specs.Reading.{signature_at, initial_at, delegation_at}
use Rattle.cap_codec.specs.Rows.{RawValue, FitsFrame, frame, raw_spelling, token_spelling}
use Rattle.cap_codec.specs.Memory.{AsksBehindKeys, ChainAsks}
use Rattle.cap_codec.proofs.Frames.{FramesSo, frame_again}

-- what asks behind an initial signature, asks behind the keys
pub behind_initial : (owned : Bool) (bytes : List ℕ) (initial : Option (List ℕ)) (rest : List ℕ) → initial_at owned bytes ≡ Whole initial rest → ChainAsks rest → AsksBehindKeys owned bytes
unfolding initial_at
behind_initial false bytes initial rest e asks = subst ChainAsks (sym (whole_rest None initial bytes rest e)) asks
behind_initial true bytes initial rest e asks = let signature = bind_whole (signature_at bytes) (λ x. Whole (Some x.0) x.1) initial rest e in rw signature.2 tt

-- ---- delegations

-- before anything was read
pub nothing_read : {A : Type 0} (front : Front (List A)) → behind [] front ≡ front
nothing_read (Whole xs rest) = refl
nothing_read Part = refl
nothing_read Wrong = refl

-- nothing was read yet, or the first area asked
abbrev pub HasAsked : List ℕ → List ℕ → Type 0
HasAsked start left = (left ≡ start) ⊎ AreaAsks start

-- what asks now is the first, or the first did
pub asks_now : (start left : List ℕ) → HasAsked start left → AreaAsks left → AreaAsks start
asks_now start left (inl is) asks = subst AreaAsks is asks
asks_now start left (inr asked) asks = asked

-- a delegation that was read asked
pub delegation_asks : (bytes : List ℕ) (d : Delegation) (rest : List ℕ) → delegation_at bytes ≡ Whole d rest → AreaAsks bytes
unfolding delegation_at
delegation_asks bytes d rest e =
    let area = bind_whole (area_at bytes) (λ a. key_at a.1 >>= λ u. signature_at u.1 >>= λ s. Whole (record { area = a.0; user = u.0; signature = s.0 }) s.1) d rest e in
    area_asks bytes area.0 area.1 area.2

-- ---- frames

-- a body that spells a row asked
body_asks : (r : RawValue) → FitsFrame r → EntryAsks (raw_spelling r)
body_asks r fits = entry_asks (raw_spelling r) r.entry (token_spelling r.token) (entry-reads.again r.entry (token_spelling r.token) fits.raw.entry_fits)

-- a row's frame in front asked
frame_asks : (r : RawValue) (rest : List ℕ) → FitsFrame r → FrameAsks (frame r ++ rest)
frame_asks r rest fits = rw (frame_again r rest fits) (body_asks r fits)

-- a frame that was read asked
pub read_asks : (bytes : List ℕ) (r : RawValue) (taken : ℕ) → Decodes frame FitsFrame bytes (Ok (r, taken)) → FrameAsks bytes
read_asks bytes r taken h =
    subst FrameAsks (ap (λ (front : List ℕ). front ++ drop taken bytes) (sym h.2) ∙ take-append-drop taken bytes) (frame_asks r (drop taken bytes) h.0)

-- where the next frame asks, the first did
pub first_asks : (bytes : List ℕ) (rows : List RawValue) (left : List ℕ) → FramesSo bytes rows left → FrameAsks left → FrameAsks bytes
first_asks bytes [] left so asks = subst FrameAsks (sym so.parts) asks
first_asks bytes (r ∷ rows) left so asks =
    subst FrameAsks (sym (so.parts ∙ append_assoc (frame r) (flat_map frame rows) left)) (frame_asks r (flat_map frame rows ++ left) so.fit.0)
