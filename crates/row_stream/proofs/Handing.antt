-- What was added is handed out.
use Rattle.std.proofs.Common.{◌≡◌, ℕ, ◌+◌, List, [], ◌++◌, length, map, None, sym, ap, subst, ◌∙◌, arith}
use Rattle.std.proofs.lemmas.List.{length-append}
use Rattle.willow_entry.specs.Row.{RowValue}
use Rattle.row_stream.specs.Streams.{frames_of, IsStream}
use Rattle.row_stream.specs.Feeding.{StreamState, HandsOutRows}
use Rattle.row_stream.specs.Steps.{Adds}

pub handed_out : {R : Type 0} (IsRow : RowValue → Type 0) (value : R → RowValue) (old new : StreamState) (piece : List ℕ) (rows : List R) → old.refusal ≡ None → new.refusal ≡ None
    → Adds IsRow value old.at (old.begun ++ piece) [] rows new.at new.begun → HandsOutRows IsRow old new piece (map value rows)
handed_out IsRow value old new piece rows unrefused goes_on a =
    let same : map value a.more ≡ map value rows = ap (map value) (sym a.added) in
    record {
      unrefused = unrefused;
      goes_on = goes_on;
      stream = subst (λ (xs : List RowValue). IsStream IsRow old.at (old.begun ++ piece) xs new.begun None) same a.stream;
      moved_on = a.place ∙ ap (λ (xs : List RowValue). old.at + length (frames_of xs)) same;
      none_lost = omega (arith, a.place, ap length a.stream.parts, length-append old.begun piece, length-append (frames_of (map value a.more)) new.begun);
    }
