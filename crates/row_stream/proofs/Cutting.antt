-- Streams in any pieces.
use Rattle.std.proofs.Common.{◌≡◌, ℕ, ◌+◌, List, [], ◌∷◌, ◌++◌, length, Option, Some, None, Result, refl, sym, ap, subst, ◌∙◌, append_assoc, arith, inl, inr}
use Rattle.std.specs.Prelude.{Ok, Err}
use Rattle.std.proofs.lemmas.List.{append-nil}
use Rattle.std.proofs.lemmas.List.Concat.{flat_map-cons}
use Rattle.spelling.specs.declared.ending.End.{End}
use Rattle.spelling.specs.declared.ending.End.TheVariants.{Refused, NoMemory}
use Rattle.willow_entry.specs.Row.{RowValue}
use Rattle.row_stream.specs.declared.refusal.StreamRefusal.{StreamRefusal}
use Rattle.row_stream.specs.Streams.{frames_of, IsStream}
use Rattle.row_stream.specs.Feeding.{StreamState, nothing_fed, Feeds, HandsOutRows, Breaks}
use Rattle.row_stream.specs.Pieces.{Fed, Runs, taken_of, rows_answered, all_taken, all_rows, AreFirst, HandsOutAll, HoldsForAnyCutting}
use Rattle.row_stream.proofs.Longer.{stream_more, stream_on, frames_longer}

none_is_not_some : {A : Type 0} (o : Option A) (x : A) → o ≡ None → o ≡ Some x → ⊥
none_is_not_some o x e f = cc

same_some : {A : Type 0} (o : Option A) (x y : A) → o ≡ Some x → o ≡ Some y → x ≡ y
same_some o x y e f = cc

module _ (IsRow : RowValue → Type 0) where
  at_first : HandsOutAll IsRow [] [] nothing_fed
  at_first = record {
    unrefused = λ none. (record { fit = tt; parts = refl; judged = λ there. absurd (omega (arith, there)) }, refl);
    refused = λ refusal is. absurd (none_is_not_some None refusal refl is);
  }

  module _ (bytes : List ℕ) (rows : List RowValue) (old new : StreamState) (so_far : HandsOutAll IsRow bytes rows old) where
    -- where the stream goes on, it stands at the offset behind all rows
    from_start : (piece : List ℕ) (others : List RowValue) (left : List ℕ) (why : Option StreamRefusal) → old.refusal ≡ None → IsStream IsRow old.at (old.begun ++ piece) others left why
        → IsStream IsRow 0 (bytes ++ piece) (rows ++ others) left why
    from_start piece others left why none next =
        let was = so_far.unrefused none in
        let here : old.at ≡ 0 + length (frames_of rows) = omega (arith, was.1) in
        stream_on IsRow 0 bytes rows old.begun was.0 piece others left why (subst (λ (n : ℕ). IsStream IsRow n (old.begun ++ piece) others left why) here next)

    handed : (piece : List ℕ) (others : List RowValue) → HandsOutRows IsRow old new piece others → HandsOutAll IsRow (bytes ++ piece) (rows ++ others) new
    handed piece others h = record {
      unrefused = λ none. (
        from_start piece others new.begun None h.unrefused h.stream,
        omega (arith, h.moved_on, (so_far.unrefused h.unrefused).1, frames_longer IsRow 0 bytes rows old.begun (so_far.unrefused h.unrefused).0 others),
      );
      refused = λ refusal is. absurd (none_is_not_some new.refusal refusal h.goes_on is);
    }

    -- a refused stream takes further bytes, and the rows of it stay the first
    still_first : (piece : List ℕ) (refusal : StreamRefusal) → AreFirst IsRow bytes rows refusal → AreFirst IsRow (bytes ++ piece) rows refusal
    still_first piece refusal f = record { more = f.more; left = f.left ++ piece; stream = stream_more IsRow 0 bytes (rows ++ f.more) f.left piece refusal f.stream }

    broken : (piece : List ℕ) (refusal : StreamRefusal) → Breaks IsRow old piece refusal → AreFirst IsRow (bytes ++ piece) rows refusal
    broken piece refusal b = record { more = b.wrong.rows; left = b.wrong.left; stream = from_start piece b.wrong.rows b.wrong.left (Some refusal) b.unrefused b.wrong.stream }

    step : (piece : List ℕ) (answer : Result (List RowValue) (End StreamRefusal)) → Feeds IsRow old new piece answer → HandsOutAll IsRow (bytes ++ taken_of piece answer) (rows ++ rows_answered answer) new
    step piece (Ok others) h = handed piece others h
    step piece (Err (Refused refusal)) h = record {
      unrefused = λ none. absurd (none_is_not_some new.refusal refusal none h.0);
      refused = λ because is.
          let same : refusal ≡ because = same_some new.refusal refusal because h.0 is in
          let first : AreFirst IsRow (bytes ++ piece) rows refusal = elim h.1 [ inl was ↦ still_first piece refusal (so_far.refused refusal was) | inr now ↦ broken piece refusal now ] in
          subst (λ (r : StreamRefusal). AreFirst IsRow (bytes ++ piece) (rows ++ []) r) same (subst (λ (xs : List RowValue). AreFirst IsRow (bytes ++ piece) xs refusal) (sym (append-nil rows)) first);
    }
    step piece (Err NoMemory) h =
        subst (λ (s : StreamState). HandsOutAll IsRow (bytes ++ []) (rows ++ []) s) (sym h.1)
        (subst (λ (b : List ℕ). HandsOutAll IsRow b (rows ++ []) old) (sym (append-nil bytes)) (subst (λ (xs : List RowValue). HandsOutAll IsRow bytes xs old) (sym (append-nil rows)) so_far))

  all_steps : (bytes : List ℕ) (rows : List RowValue) (old new : StreamState) (fed : List Fed) → HandsOutAll IsRow bytes rows old → Runs IsRow old fed new → HandsOutAll IsRow (bytes ++ all_taken fed) (rows ++ all_rows fed) new
  all_steps bytes rows old new [] so_far is =
      subst (λ (s : StreamState). HandsOutAll IsRow (bytes ++ []) (rows ++ []) s) (sym is)
      (subst (λ (b : List ℕ). HandsOutAll IsRow b (rows ++ []) old) (sym (append-nil bytes)) (subst (λ (xs : List RowValue). HandsOutAll IsRow bytes xs old) (sym (append-nil rows)) so_far))
  all_steps bytes rows old new (f ∷ more) so_far runs =
      let next = all_steps (bytes ++ taken_of f.piece f.answer) (rows ++ rows_answered f.answer) runs.0 new more (step bytes rows old runs.0 so_far f.piece f.answer runs.1) runs.2 in
      let taken : (bytes ++ taken_of f.piece f.answer) ++ all_taken more ≡ bytes ++ all_taken (f ∷ more) =
      append_assoc bytes (taken_of f.piece f.answer) (all_taken more) ∙ ap (λ (l : List ℕ). bytes ++ l) (sym (flat_map-cons (λ (x : Fed). taken_of x.piece x.answer) f more)) in
      let out : (rows ++ rows_answered f.answer) ++ all_rows more ≡ rows ++ all_rows (f ∷ more) =
      append_assoc rows (rows_answered f.answer) (all_rows more) ∙ ap (λ (l : List RowValue). rows ++ l) (sym (flat_map-cons (λ (x : Fed). rows_answered x.answer) f more)) in
      subst (λ (b : List ℕ). HandsOutAll IsRow b (rows ++ all_rows (f ∷ more)) new) taken (subst (λ (xs : List RowValue). HandsOutAll IsRow ((bytes ++ taken_of f.piece f.answer) ++ all_taken more) xs new) out next)

  pub any_cutting : HoldsForAnyCutting IsRow
  any_cutting fed state runs = all_steps [] [] nothing_fed state fed at_first runs
