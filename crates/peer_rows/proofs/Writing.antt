-- How the writing of bytes in pieces goes on, and how it ends.
use Rattle.std.proofs.Common.{◌≡◌, ℕ, zero, suc, ◌+◌, ◌<◌, List, [], ◌∷◌, ◌++◌, length, get_or, take, refl, sym, ap, subst, ◌∙◌, append_assoc, append-nil, arith, length-append}
use Rattle.std.specs.Prelude.{Result, Err}
use Rattle.std.specs.Io.KnownBytes.{Appends}
use Rattle.std.proofs.KnownBytes.{Appends-nil, Appends-trans}
use Rattle.std.proofs.Math.Seq.{take-append-add, take-append_seam}
use Rattle.std.proofs.lemmas.List.{length-map, take-append-le}
use Rattle.std.proofs.lemmas.List.Concat.{flat_map-cons}
use Rattle.std.specs.List.{flat_map}
use Rattle.willow_entry.specs.Row.{RowValue}
use Rattle.peer_image.specs.Image.{bytes_frame, capabilities, head_two, image, placed_frame, trailer}
use Rattle.peer_image.proofs.TwoPlaces.{Text, now_of}
use Rattle.willow_outside.specs.Facts.{SinkFacts}
use Rattle.peer_stage.specs.Stages.{IsWritten, IsPartlyWritten, WritesOutput}
use Rattle.peer_stage.specs.declared.outcome.Stop.{Stop}
use Rattle.peer_stage.specs.declared.outcome.Stop.TheVariants as stop
use Rattle.peer_stage.proofs.Pieces.{both_end}
use Rattle.peer_rows.specs.Writing.{IsWritingOut}

pub nothing_written : (output : SinkFacts) (whole piece rest : List ℕ) → whole ≡ piece ++ rest → IsWritingOut output output whole piece rest
nothing_written output whole piece rest parts = record { written = []; appended = Appends-nil output.held; parts = parts; no_fault = refl }

module _ (old now : SinkFacts) (whole piece : List ℕ) where
  -- some of the rest came into the piece
  pub piece_grows : (grown more rest : List ℕ) → IsWritingOut old now whole piece (more ++ rest) → grown ≡ piece ++ more → IsWritingOut old now whole grown rest
  piece_grows grown more rest w goes = record {
    written = w.written;
    appended = w.appended;
    parts = w.parts ∙ ap (λ (l : List ℕ). w.written ++ l) (sym (append_assoc piece more rest) ∙ ap (λ (l : List ℕ). l ++ rest) (sym goes));
    no_fault = w.no_fault;
  }

  -- the piece was written, and emptied
  pub piece_written : (new : SinkFacts) (given emptied rest : List ℕ) → IsWritingOut old now whole piece rest → given ≡ piece → IsWritten now new given → new.faults ≡ now.faults → emptied ≡ [] → IsWritingOut old new whole emptied rest
  piece_written new given emptied rest w same goes faults none = record {
    written = w.written ++ piece;
    appended = Appends-trans old.held now.held new.held w.written piece w.appended (subst (λ (bytes : List ℕ). IsWritten now new bytes) same goes);
    parts = w.parts ∙ sym (append_assoc w.written piece rest) ∙ ap (λ (l : List ℕ). (w.written ++ piece) ++ (l ++ rest)) (sym none);
    no_fault = faults ∙ w.no_fault;
  }

  -- there was no memory, and there is more to write
  pub writing_unpaid : (rest : List ℕ) → IsWritingOut old now whole piece rest → 0 < length rest → IsPartlyWritten old now whole
  writing_unpaid rest w more = record {
    count = length w.written;
    within = omega (arith, more, ap length w.parts, length-append w.written (piece ++ rest), length-append piece rest);
    written = subst (λ (bytes : List ℕ). Appends old.held now.held bytes) (sym (ap (take (length w.written)) w.parts ∙ take-append_seam w.written (piece ++ rest))) w.appended;
  }

  partly : (new : SinkFacts) (rest : List ℕ) → IsWritingOut old now whole piece rest → IsPartlyWritten now new piece → IsPartlyWritten old new whole
  partly new rest w h = record {
    count = length w.written + h.count;
    within = omega (arith, h.within, ap length w.parts, length-append w.written (piece ++ rest), length-append piece rest);
    written =
        subst (λ (bytes : List ℕ). Appends old.held new.held bytes)
        (sym (ap (take (length w.written + h.count)) w.parts ∙ take-append-add w.written (piece ++ rest) h.count ∙ ap (λ (l : List ℕ). w.written ++ l) (take-append-le h.count piece rest (omega (arith, h.within)))))
        (Appends-trans old.held now.held new.held w.written (take h.count piece) w.appended h.written);
  }

  -- the piece's writing was stopped
  stops : (new : SinkFacts) (rest : List ℕ) (e : Stop) → IsWritingOut old now whole piece rest → WritesOutput now new piece (Err e) → WritesOutput old new whole (Err e)
  stops new rest stop.WriteFault w h = (partly new rest w h.0, omega (arith, w.no_fault, h.1))
  stops new rest stop.NoMemory w h = partly new rest w h
  stops new rest e w h = absurd h

  pub writing_stops : (new : SinkFacts) (given rest : List ℕ) (e : Stop) → IsWritingOut old now whole piece rest → given ≡ piece → WritesOutput now new given (Err e) → WritesOutput old new whole (Err e)
  writing_stops new given rest e w same h = stops new rest e w (subst (λ (bytes : List ℕ). WritesOutput now new bytes (Err e)) same h)

  -- nothing is left of it
  pub writing_rest : (rest : List ℕ) → IsWritingOut old now whole piece rest → rest ≡ [] → IsWritingOut old now whole piece []
  writing_rest rest w none = subst (λ (l : List ℕ). IsWritingOut old now whole piece l) none w

  -- all was written
  pub all_written : (rest : List ℕ) → IsWritingOut old now whole piece rest → piece ++ rest ≡ [] → IsWritten old now whole
  all_written rest w none =
      subst (λ (l : List ℕ). Appends old.held now.held l) (sym (w.parts ∙ ap (λ (l : List ℕ). w.written ++ l) none ∙ append-nil w.written)) w.appended

  -- the last piece decides
  pub writing_ends : (new : SinkFacts) (given : List ℕ) (result : Result (Unit {0}) Stop) → IsWritingOut old now whole piece [] → given ≡ piece → WritesOutput now new given result → WritesOutput old new whole result
  writing_ends new given result w same h =
      subst (λ (bytes : List ℕ). WritesOutput old new bytes result) (sym (w.parts ∙ ap (λ (l : List ℕ). w.written ++ l) (append-nil piece)))
      (both_end old now new w.written piece result w.appended w.no_fault (subst (λ (bytes : List ℕ). WritesOutput now new bytes result) same h))

-- ---- the frames of rows, and what comes behind

module _ {R : Type 0} (frame : R → List ℕ) where
  pub frames_left : (left more : List R) (row : R) (behind : List ℕ) → left ≡ row ∷ more → flat_map frame left ++ behind ≡ frame row ++ (flat_map frame more ++ behind)
  frames_left left more row behind is =
      ap (λ (rows : List R). flat_map frame rows ++ behind) is
      ∙ ap (λ (l : List ℕ). l ++ behind) (flat_map-cons frame row more)
      ∙ append_assoc (frame row) (flat_map frame more) behind

  pub no_frames_left : (left : List R) (behind : List ℕ) → left ≡ [] → flat_map frame left ++ behind ≡ behind
  no_frames_left left behind none = ap (λ (rows : List R). flat_map frame rows ++ behind) none

-- within a list no default is read
pub same_item : {X : Type 0} (xs : List X) (k : ℕ) (d e : X) → k < length xs → get_or xs k d ≡ get_or xs k e
same_item [] k d e below = absurd (omega (arith, below))
same_item (x ∷ xs) zero d e below = refl
same_item (x ∷ xs) (suc k) d e below = same_item xs k d e (omega (arith, below))

pub some_behind : (front behind : List ℕ) → 0 < length behind → 0 < length (front ++ behind)
some_behind front behind some = omega (arith, some, length-append front behind)

-- ---- an image

pub trailer_some : (count : ℕ) → 0 < length (trailer count)
trailer_some count = omega arith

-- what comes behind the capabilities: the rows, each with the place of its own, and the end of an image of so many
abbrev pub behind_told : List Text → List RowValue → ℕ → List ℕ
behind_told told rows count = flat_map (placed_frame (now_of told)) rows ++ trailer count

pub behind_told_some : (told : List Text) (rows : List RowValue) (count : ℕ) → 0 < length (behind_told told rows count)
behind_told_some told rows count = some_behind (flat_map (placed_frame (now_of told)) rows) (trailer count) (trailer_some count)

image_parts : (n : List ℕ) (rows same : List RowValue) (told : List Text) (count : ℕ) → now_of told ≡ capabilities rows → count ≡ length (now_of told) → same ≡ rows → image n rows ≡ head_two n count ++ (flat_map bytes_frame (now_of told) ++ behind_told told same (length rows))
unfolding image
image_parts n rows same told count told_is many same_is =
    let end = trailer (length rows) in
    ap (λ (l : List (List ℕ)). head_two n (length l) ++ (flat_map bytes_frame l ++ (flat_map (placed_frame l) rows ++ end))) (sym told_is)
    ∙ ap (λ (k : ℕ). head_two n k ++ (flat_map bytes_frame (now_of told) ++ behind_told told rows (length rows))) (sym many)
    ∙ ap (λ (l : List RowValue). head_two n count ++ (flat_map bytes_frame (now_of told) ++ behind_told told l (length rows))) (sym same_is)

-- its head stands in the piece
pub image_begun : (output : SinkFacts) (n : List ℕ) (rows same : List RowValue) (told : List Text) (count : ℕ) (start piece : List ℕ) → now_of told ≡ capabilities rows → count ≡ length told → same ≡ rows → start ≡ [] → piece ≡ start ++ head_two n count
    → IsWritingOut output output (image n rows) piece (flat_map bytes_frame (now_of told) ++ behind_told told same (length rows))
image_begun output n rows same told count start piece told_is many same_is start_is put =
    let now : Text → List ℕ = λ x. x.now in
    let counted : count ≡ length (now_of told) = omega (arith, many, length-map told now) in
    let rest = flat_map bytes_frame (now_of told) ++ behind_told told same (length rows) in
    nothing_written output (image n rows) piece rest
    (image_parts n rows same told count told_is counted same_is ∙ ap (λ (l : List ℕ). l ++ rest) (sym (put ∙ ap (λ (l : List ℕ). l ++ head_two n count) start_is)))

image_some : (n : List ℕ) (rows : List RowValue) → 0 < length (image n rows)
unfolding image
image_some n rows = omega arith

-- there was no memory to begin with
pub image_unpaid : (output : SinkFacts) (n : List ℕ) (rows : List RowValue) → IsPartlyWritten output output (image n rows)
image_unpaid output n rows = writing_unpaid output output (image n rows) [] (image n rows) (nothing_written output (image n rows) [] (image n rows) refl) (image_some n rows)
