-- The same bytes in other pieces end alike.
use Rattle.std.proofs.Common.{◌≡◌, ℕ, List, ◌++◌, length, Option, Some, None, refl, sym, ap, subst, ◌∙◌}
use Rattle.willow_entry.specs.EntryForm.{IsEntry}
use Rattle.willow_entry.specs.Row.{RowValue}
use Rattle.row_stream.specs.declared.refusal.StreamRefusal.{StreamRefusal}
use Rattle.row_stream.specs.Streams.{frames_of, IsStream}
use Rattle.row_stream.specs.Feeding.{StreamState}
use Rattle.row_stream.specs.Pieces.{HandsOutAll, EndAlike, EndAlikeInAnyPieces, all_taken, all_rows}
use Rattle.row_stream.proofs.OneReading.{one_reading}
use Rattle.row_stream.proofs.Cutting.{any_cutting}

module _ (IsRow : RowValue → Type 0) (fit : (r : RowValue) → IsRow r → IsEntry r.entry) (bytes : List ℕ) where
  -- how the bytes stand, whatever is handed out
  record Reading (state : StreamState) : Type 0 where
    pub all : List RowValue
    pub left : List ℕ
    pub stream : IsStream IsRow 0 bytes all left state.refusal

  reading : (rows : List RowValue) (state : StreamState) → HandsOutAll IsRow bytes rows state → (o : Option StreamRefusal) → state.refusal ≡ o → Reading state
  reading rows state h None is = record { all = rows; left = state.begun; stream = subst (λ (o : Option StreamRefusal). IsStream IsRow 0 bytes rows state.begun o) (sym is) (h.unrefused is).0 }
  reading rows state h (Some refusal) is =
      let f = h.refused refusal is in
      record { all = rows ++ f.more; left = f.left; stream = subst (λ (o : Option StreamRefusal). IsStream IsRow 0 bytes (rows ++ f.more) f.left o) (sym is) f.stream }

  made : List ℕ → ℕ → Option StreamRefusal → StreamState
  made begun at refusal = record { begun = begun; at = at; refusal = refusal }

  same_state : (s t : StreamState) → s.begun ≡ t.begun → s.at ≡ t.at → s.refusal ≡ t.refusal → s ≡ t
  unfolding made
  same_state s t b a r =
      ap (λ (x : List ℕ). made x s.at s.refusal) b ∙ ap (λ (x : ℕ). made t.begun x s.refusal) a ∙ ap (λ (x : Option StreamRefusal). made t.begun t.at x) r

  both_same : (rows others : List RowValue) (s t : StreamState) → HandsOutAll IsRow bytes rows s → HandsOutAll IsRow bytes others t → s.refusal ≡ t.refusal → s.refusal ≡ None → (rows ≡ others) × (s ≡ t)
  both_same rows others s t h k refusals none =
      let a = h.unrefused none in
      let b = k.unrefused (sym refusals ∙ none) in
      let one = one_reading IsRow fit 0 bytes rows others s.begun t.begun None None a.0 b.0 in
      (one.0, same_state s t one.1 (a.1 ∙ ap (λ (xs : List RowValue). length (frames_of xs)) one.0 ∙ sym b.1) refusals)

  alike : (rows others : List RowValue) (s t : StreamState) → HandsOutAll IsRow bytes rows s → HandsOutAll IsRow bytes others t → EndAlike rows others s t
  alike rows others s t h k =
      let a = reading rows s h s.refusal refl in
      let b = reading others t k t.refusal refl in
      let refusals : s.refusal ≡ t.refusal = (one_reading IsRow fit 0 bytes a.all b.all a.left b.left s.refusal t.refusal a.stream b.stream).2 in
      record {
        same_refusal = refusals;
        same_rows = λ none. (both_same rows others s t h k refusals none).0;
        same_state = λ none. (both_same rows others s t h k refusals none).1;
      }

pub alike_in_any_pieces : (IsRow : RowValue → Type 0) → ((r : RowValue) → IsRow r → IsEntry r.entry) → EndAlikeInAnyPieces IsRow
alike_in_any_pieces IsRow fit fed others s t runs also same =
    alike IsRow fit (all_taken others) (all_rows fed) (all_rows others) s t (subst (λ (b : List ℕ). HandsOutAll IsRow b (all_rows fed) s) same (any_cutting IsRow fed s runs)) (any_cutting IsRow others t also)
