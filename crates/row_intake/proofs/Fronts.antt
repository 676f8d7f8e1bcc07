-- What readers find at the front of bytes, told byte by byte.
use Rattle.std.proofs.Common.{◌≡◌, ◌⊎◌, inl, inr, ℕ, List, [], ◌∷◌, ◌++◌, append_assoc, append-nil, Option, Some, None, refl, sym, ap, ◌∙◌}
use Rattle.std.specs.Prelude.{option_map}
use Rattle.spelling.specs.Front.{Front}
use Rattle.spelling.specs.Front as front
use Rattle.spelling.specs.Form.{AreBytes}
use Rattle.spelling.proofs.Joining.{Reads, alone, part_before}
use Rattle.willow_entry.specs.EntryForm.{entry_spelling}
use Rattle.willow_entry.specs.Row.{RowValue}
use Rattle.willow_entry.specs.RowBody.{row_body, ReadsBody}
use Rattle.cap_codec.specs.Reading.{raw_at}
use Rattle.cap_codec.specs.Rows.{RawValue, IsRawRow, raw_spelling, row_of}
use Rattle.cap_codec.proofs.RowReads.{raw-reads}
use Rattle.session_rules.specs.Machine.{Seen, Whole, Part, Wrong}
use Rattle.session_rules.specs.Messages.{ArePart}
use Rattle.row_intake.specs.Readers.{all_read, row_spelled_as}
use Rattle.row_intake.specs.Found.{GoWrong}

-- ---- any reader

module _ {M : Type 0} (sees : List ℕ → Seen M) where
  -- bytes that are of no message go wrong at one of them
  module _ (bytes : List ℕ) (none_whole : (held rest : List ℕ) (m : M) → bytes ≡ held ++ rest → sees held ≡ Whole m → ⊥) (no_part : sees bytes ≡ Part → ⊥) where
    wrong_by : (held rest : List ℕ) → bytes ≡ held ++ rest → sees held ≡ Part → GoWrong sees held rest
    wrong_by held [] e part = no_part (ap sees (e ∙ append-nil held) ∙ part)
    wrong_by held (byte ∷ rest) e part =
        let now = held ++ byte ∷ [] in
        let joined : bytes ≡ now ++ rest = e ∙ sym (append_assoc held (byte ∷ []) rest) in
        by_seen (wrong_by now rest joined) (sees now) refl joined
      where
        by_seen : (sees (held ++ byte ∷ []) ≡ Part → GoWrong sees (held ++ byte ∷ []) rest) → (s : Seen M) → sees (held ++ byte ∷ []) ≡ s → bytes ≡ (held ++ byte ∷ []) ++ rest
            → (sees (held ++ byte ∷ []) ≡ Wrong) ⊎ ((sees (held ++ byte ∷ []) ≡ Part) × GoWrong sees (held ++ byte ∷ []) rest)
        by_seen later (Whole m) is joined = absurd (none_whole (held ++ byte ∷ []) rest m joined is)
        by_seen later Part is joined = inr (is, later is)
        by_seen later Wrong is joined = inl is

    pub all_wrong : sees [] ≡ Part → GoWrong sees [] bytes
    all_wrong empty = wrong_by [] bytes refl empty

-- bytes that are a part are one from the first on
pub parts_by : {A M : Type 0} {at : List ℕ → Front A} {spell : A → List ℕ} {fits : A → Type 0} → Reads at spell fits → (sees : List ℕ → Seen M) → ((held : List ℕ) → at held ≡ front.Part → sees held ≡ Part)
    → (held rest : List ℕ) → at (held ++ rest) ≡ front.Part → ArePart sees held rest
parts_by reads sees is held [] part = tt
parts_by {at = at} reads sees is held (byte ∷ rest) part =
    let now = held ++ byte ∷ [] in
    let whole : at (now ++ rest) ≡ front.Part = ap at (append_assoc held (byte ∷ []) rest) ∙ part in
    (is now (part_before reads now rest whole), parts_by reads sees is now rest whole)

-- ---- what all of some bytes spell

pub all_front : {A : Type 0} (f : Front A) (x : A) → all_read f ≡ Some x → f ≡ front.Whole x []
all_front (front.Whole y []) x e =
    let same : y ≡ x = cc in
    ap (λ z. front.Whole z []) same
all_front (front.Whole y (byte ∷ behind)) x e = absurd cc
all_front front.Part x e = absurd cc
all_front front.Wrong x e = absurd cc

-- ---- the bodies of rows

module _ {M : Type 0} (message : RowValue → M) where
  -- a body is the message of its row
  pub body_spelled : (row : RowValue) → IsRawRow row → row_spelled_as message (row_body row) ≡ Some (message row)
  unfolding row_body
  body_spelled row f =
      let raw : RawValue = record { entry = row.entry; token = f.read_out } in
      let whole = alone raw-reads raw (record { entry_fits = f.entry_fits; token_fits = f.token_fits }) in
      ap (λ token. row_spelled_as message (entry_spelling row.entry ++ token)) f.spelled
      ∙ ap (λ o. option_map (λ r. message (row_of r)) (all_read o)) whole
      ∙ ap (λ token. Some (message (record row { token = token }))) (sym f.spelled)

  -- bytes that are the message of a row are its body
  pub body_back : (body : List ℕ) (m : M) → AreBytes body → row_spelled_as message body ≡ Some m → (row : RowValue) × IsRawRow row × (body ≡ row_body row) × (message row ≡ m)
  unfolding row_body
  body_back body m are e = by_raw (all_read (raw_at body)) refl e
    where
      same_some : (x y : M) → Some x ≡ Some y → x ≡ y
      same_some x y h = cc

      by_raw : (o : Option RawValue) → all_read (raw_at body) ≡ o → option_map (λ raw. message (row_of raw)) o ≡ Some m → (row : RowValue) × IsRawRow row × (body ≡ row_body row) × (message row ≡ m)
      by_raw None is h = absurd cc
      by_raw (Some raw) is h =
          let t = raw-reads.takes body raw [] are (all_front (raw_at body) raw is) in
          let fits : IsRawRow (row_of raw) = record { entry_fits = t.fits.entry_fits; read_out = raw.token; token_fits = t.fits.token_fits; spelled = refl } in
          (row_of raw, fits, t.parts ∙ append-nil (raw_spelling raw), same_some (message (row_of raw)) m h)

  -- a body that no row has is no message
  pub body_none : (body : List ℕ) → AreBytes body → ReadsBody IsRawRow body None → row_spelled_as message body ≡ None
  body_none body are none = by_option (row_spelled_as message body) refl
    where
      by_option : (o : Option M) → row_spelled_as message body ≡ o → o ≡ None
      by_option None is = refl
      by_option (Some m) is = let b = body_back body m are is in absurd (none b.0 b.1 b.2)
