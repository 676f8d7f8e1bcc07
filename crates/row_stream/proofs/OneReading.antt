-- Bytes have one reading as a stream.
use Rattle.std.proofs.Common.{◌≡◌, ℕ, ◌+◌, List, [], ◌∷◌, ◌++◌, length, drop, Option, Some, None, refl, sym, ap, subst, ◌∙◌, append_assoc, arith}
use Rattle.std.specs.List.{AllByRecursion}
use Rattle.std.proofs.lemmas.List.{length-append, drop_at}
use Rattle.std.proofs.lemmas.List.Concat.{flat_map-cons}
use Rattle.willow_entry.specs.EntryForm.{IsEntry}
use Rattle.willow_entry.specs.Row.{RowValue}
use Rattle.willow_entry.specs.RowBody.{row_body}
use Rattle.willow_entry.specs.Frame.{row_frame}
use Rattle.willow_entry.proofs.EntryReads.{one_body}
use Rattle.row_stream.specs.declared.refusal.StreamRefusal.{StreamRefusal}
use Rattle.row_stream.specs.declared.refusal.StreamRefusal.TheVariants.{BadFrame, FrameTooLong, CutShort}
use Rattle.row_stream.specs.Places.{length_told, body_told}
use Rattle.row_stream.specs.Streams.{frames_of, IsStreamRow, IsJudged}
use Rattle.row_stream.specs.Pieces.{HaveOneStream}
use Rattle.row_stream.proofs.Frames.{told_back, frame_long, body_back}

-- bytes behind the same bytes
behind_same : (front a b : List ℕ) → front ++ a ≡ front ++ b → a ≡ b
behind_same front a b e = sym (drop_at front a (length front) refl) ∙ ap (drop (length front)) e ∙ drop_at front b (length front) refl

module _ (IsRow : RowValue → Type 0) (fit : (r : RowValue) → IsRow r → IsEntry r.entry) where
  -- where a row's frame stands, nothing else is judged
  pub no_frame : (here : ℕ) (r : RowValue) (rest left : List ℕ) (why : Option StreamRefusal) → IsStreamRow IsRow r → left ≡ row_frame r ++ rest → IsJudged IsRow here left why → ⊥
  no_frame here r rest left None f is late =
      let told : length_told left ≡ length (row_body r) = ap length_told is ∙ told_back r f.framed rest in
      let long : length left ≡ length (row_frame r) + length rest = ap length is ∙ length-append (row_frame r) rest in
      let whole = frame_long r f.framed rest in
      omega (arith, told, long, whole, (late (omega (arith, long, whole))).1)
  no_frame here r rest left (Some (BadFrame at)) f is bad = bad.0.no_row r f.fits (ap body_told is ∙ body_back r f.framed rest)
  no_frame here r rest left (Some (FrameTooLong at)) f is long =
      let told : length_told left ≡ length (row_body r) = ap length_told is ∙ told_back r f.framed rest in
      omega (arith, told, long.0.beyond, f.framed)
  no_frame here r rest left (Some (CutShort at)) f is cut = cut

  one_row : (r s : RowValue) (a b : List ℕ) → IsStreamRow IsRow r → IsStreamRow IsRow s → row_frame r ++ a ≡ row_frame s ++ b → (r ≡ s) × (a ≡ b)
  one_row r s a b f g e =
      let bodies : row_body r ≡ row_body s = sym (body_back r f.framed a) ∙ ap body_told e ∙ body_back s g.framed b in
      let same : r ≡ s = one_body r s (fit r f.fits) (fit s g.fits) bodies in
      (same, behind_same (row_frame s) a b (ap (λ (x : RowValue). row_frame x ++ a) (sym same) ∙ e))

  front_of : (r : RowValue) (rows : List RowValue) (left : List ℕ) → frames_of (r ∷ rows) ++ left ≡ row_frame r ++ (frames_of rows ++ left)
  front_of r rows left = ap (λ (l : List ℕ). l ++ left) (flat_map-cons row_frame r rows) ∙ append_assoc (row_frame r) (frames_of rows) left

  same_rows : (here there : ℕ) (rows others : List RowValue) (left rest : List ℕ) (why because : Option StreamRefusal) → AllByRecursion (IsStreamRow IsRow) rows → AllByRecursion (IsStreamRow IsRow) others
      → IsJudged IsRow here left why → IsJudged IsRow there rest because → frames_of rows ++ left ≡ frames_of others ++ rest → (rows ≡ others) × (left ≡ rest)
  same_rows here there [] [] left rest why because f g j k e = (refl, e)
  same_rows here there [] (s ∷ others) left rest why because f g j k e = absurd (no_frame here s (frames_of others ++ rest) left why g.0 (e ∙ front_of s others rest) j)
  same_rows here there (r ∷ rows) [] left rest why because f g j k e = absurd (no_frame there r (frames_of rows ++ left) rest because f.0 (sym e ∙ front_of r rows left) k)
  same_rows here there (r ∷ rows) (s ∷ others) left rest why because f g j k e =
      let both = one_row r s (frames_of rows ++ left) (frames_of others ++ rest) f.0 g.0 (sym (front_of r rows left) ∙ e ∙ front_of s others rest) in
      let more = same_rows here there rows others left rest why because f.1 g.1 j k both.1 in
      (ap (λ (x : RowValue). x ∷ rows) both.0 ∙ ap (λ (l : List RowValue). s ∷ l) more.0, more.1)

  one_verdict : (here : ℕ) (left : List ℕ) (why because : Option StreamRefusal) → IsJudged IsRow here left why → IsJudged IsRow here left because → why ≡ because
  one_verdict here left None None j k = refl
  one_verdict here left None (Some (BadFrame at)) j k = absurd (omega (arith, (j k.0.field_there).1, k.0.whole))
  one_verdict here left None (Some (FrameTooLong at)) j k = absurd (omega (arith, (j k.0.field_there).0, k.0.beyond))
  one_verdict here left None (Some (CutShort at)) j k = absurd k
  one_verdict here left (Some (BadFrame at)) None j k = absurd (omega (arith, (k j.0.field_there).1, j.0.whole))
  one_verdict here left (Some (BadFrame at)) (Some (BadFrame place)) j k = ap (λ (n : ℕ). Some (BadFrame n)) (j.1 ∙ sym k.1)
  one_verdict here left (Some (BadFrame at)) (Some (FrameTooLong place)) j k = absurd (omega (arith, j.0.within, k.0.beyond))
  one_verdict here left (Some (BadFrame at)) (Some (CutShort place)) j k = absurd k
  one_verdict here left (Some (FrameTooLong at)) None j k = absurd (omega (arith, (k j.0.field_there).0, j.0.beyond))
  one_verdict here left (Some (FrameTooLong at)) (Some (BadFrame place)) j k = absurd (omega (arith, k.0.within, j.0.beyond))
  one_verdict here left (Some (FrameTooLong at)) (Some (FrameTooLong place)) j k = ap (λ (n : ℕ). Some (FrameTooLong n)) (j.1 ∙ sym k.1)
  one_verdict here left (Some (FrameTooLong at)) (Some (CutShort place)) j k = absurd k
  one_verdict here left (Some (CutShort at)) because j k = absurd j

  pub one_reading : HaveOneStream IsRow
  one_reading from bytes rows others left rest refusal because s t =
      let same = same_rows (from + length (frames_of rows)) (from + length (frames_of others)) rows others left rest refusal because s.fit t.fit s.judged t.judged (sym s.parts ∙ t.parts) in
      let judged : IsJudged IsRow (from + length (frames_of rows)) left because =
      subst (λ (l : List ℕ). IsJudged IsRow (from + length (frames_of rows)) l because) (sym same.1) (subst (λ (xs : List RowValue). IsJudged IsRow (from + length (frames_of xs)) rest because) (sym same.0) t.judged) in
      (same.0, same.1, one_verdict (from + length (frames_of rows)) left refusal because s.judged judged)
