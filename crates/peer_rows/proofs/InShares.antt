-- Bytes that are made by shares, and written one share behind the other.
use Rattle.std.proofs.Common.{◌≡◌, ℕ, ◌+◌, ◌*◌, ◌/◌, ◌%◌, ◌<◌, ◌≤◌, List, [], ◌∷◌, ◌++◌, length, get_or, take, drop, min, Option, Some, None, refl, sym, ap, ◌∙◌, subst, append-nil, arith, length-append, add-mul, one-mul, mul-le-mul_right}
use Rattle.std.specs.Prelude.{Result, Ok, Err, IfOk, IfSome, slice_get}
use Rattle.std.specs.Global.{Vec}
use Rattle.std.specs.List.{flat_map}
use Rattle.std.proofs.lemmas.Grind.{div_ceil_times}
use Rattle.std.proofs.lemmas.List.{take-append-drop, drop-drop, drop_all, length-drop}
use Rattle.std.proofs.lemmas.List.Concat.{flat_map-append}
use Rattle.std.proofs.lemmas.Nat.{row_fits}
use Rattle.std.proofs.lemmas.Option.{slice_get_read}
use Rattle.spelling.specs.declared.ending.NoMemory.{NoMemory}
use Rattle.willow_outside.specs.Facts.{SinkFacts}
use Rattle.peer_listing.specs.Ranges.{frames_between}
use Rattle.peer_listing.proofs.Ranges.{frames_join}
use Rattle.peer_rows.specs.Generate.{AreFrameShares}
use Rattle.peer_rows.specs.Shares.{AreShares}
use Rattle.peer_rows.specs.Writing.{IsWritingOut}
use Rattle.peer_rows.specs.declared.shares.TheConstants.{SHARE, SHARES}
use Rattle.peer_rows.proofs.Generated.{none_left, some_left}
use Rattle.peer_rows.proofs.Writing.{piece_grows}

-- share k is the front of what is left from it on
pub share_left : (left : ℕ → List ℕ) (shares : List (Result (Vec ℕ) NoMemory)) (k : ℕ) (share : Result (Vec ℕ) NoMemory) (bytes : Vec ℕ)
    → AreShares left shares → k < length shares → share ≡ get_or shares k share → share ≡ Ok bytes → left k ≡ bytes.items ++ left (k + 1)
share_left left shares k share bytes are below at made =
    let front : Vec ℕ → Type 0 = λ (v : Vec ℕ). left k ≡ v.items ++ left (k + 1) in
    let one : IfOk share front = subst (λ o. IfSome o (λ (s : Result (Vec ℕ) NoMemory). IfOk s front)) (slice_get_read shares (length shares) k share refl below at) (are.each k below) in
    subst (λ (s : Result (Vec ℕ) NoMemory). IfOk s front) made one

-- the front of what is left is the piece to be written next
pub next_piece : (old now : SinkFacts) (whole left piece rest : List ℕ) → left ≡ piece ++ rest → IsWritingOut old now whole [] left → IsWritingOut old now whole piece rest
next_piece old now whole left piece rest parts w = piece_grows old now whole [] piece piece rest (subst (λ (l : List ℕ). IsWritingOut old now whole [] l) parts w) refl

-- all that is left is the piece to be written next
pub last_piece : (old now : SinkFacts) (whole rest : List ℕ) → IsWritingOut old now whole [] rest → IsWritingOut old now whole rest []
last_piece old now whole rest w = next_piece old now whole rest rest [] (sym (append-nil rest)) w

-- ---- frames of generated rows

-- the frames up to a row are the piece to be written next
pub next_share : (old now : SinkFacts) (whole : List ℕ) (at next to : ℕ) → at ≤ next → next ≤ to → IsWritingOut old now whole [] (frames_between at to) → IsWritingOut old now whole (frames_between at next) (frames_between next to)
next_share old now whole at next to up more w = next_piece old now whole (frames_between at to) (frames_between at next) (frames_between next to) (frames_join at next to up more) w

module _ (from : ℕ) where
  abbrev to : ℕ
  to = from + SHARES * SHARE

  -- what is left from share k on
  abbrev pub shares_left : ℕ → List ℕ
  shares_left k = frames_between (from + k * SHARE) to

  frame_share : (k : ℕ) → k < SHARES → (share : Option (Result (Vec ℕ) NoMemory)) → IfSome share (λ s. IfOk s (λ bytes. bytes.items ≡ frames_between (from + k * SHARE) (from + (k * SHARE + SHARE))))
      → IfSome share (λ s. IfOk s (λ bytes. shares_left k ≡ bytes.items ++ shares_left (k + 1)))
  frame_share k below None is = is
  frame_share k below (Some (Err e)) is = is
  frame_share k below (Some (Ok bytes)) is =
      let at = from + k * SHARE in
      let next = from + (k + 1) * SHARE in
      let step : from + (k * SHARE + SHARE) ≡ next = omega arith in
      frames_join at next to (omega arith) (omega (arith, below)) ∙ ap (λ (l : List ℕ). l ++ frames_between next to) (sym (is ∙ ap (frames_between at) step))

  pub frame_shares : (shares : List (Result (Vec ℕ) NoMemory)) → AreFrameShares from shares → length shares ≡ SHARES → AreShares shares_left shares
  frame_shares shares are many = record {
    some = λ k below. some_left (from + k * SHARE) to (omega (arith, below, many));
    each = λ k below. frame_share k (omega (arith, below, many)) (slice_get shares k) (are k below);
    none = λ k behind. none_left (from + k * SHARE) to (omega (arith, behind, many));
  }

-- ---- lines of rows

-- each row has some text, so rows have
pub some_lines : {X : Type 0} (line : X → List ℕ) (rows : List X) → ((x : X) → 0 < length (line x)) → 0 < length rows → 0 < length (flat_map line rows)
some_lines line [] each some = absurd (omega (arith, some))
some_lines line (x ∷ rows) each some = omega (arith, each x, length-append (line x) (flat_map line rows))

-- those of some rows, and of what comes behind them
pub lines_part : {X : Type 0} (line : X → List ℕ) (at n : ℕ) (rows left part : List X) → left ≡ drop at rows → part ≡ take n left → length part ≡ n
    → flat_map line (drop at rows) ≡ flat_map line part ++ flat_map line (drop (at + length part) rows)
lines_part line at n rows left part left_is part_is long =
    let behind : drop n left ≡ drop (at + length part) rows = ap (drop n) left_is ∙ drop-drop n at rows ∙ ap (λ k. drop (at + k) rows) (sym long) in
    ap (flat_map line) (sym left_is ∙ sym (take-append-drop n left) ∙ ap (λ l. l ++ drop n left) (sym part_is) ∙ ap (λ l. part ++ l) behind) ∙ flat_map-append line part (drop (at + length part) rows)

module _ {X : Type 0} (line : X → List ℕ) (size : ℕ) (rows : List X) where
  -- what is left from share k on
  abbrev pub lines_left : ℕ → List ℕ
  lines_left k = flat_map line (drop (k * size) rows)

  share_lines : (k : ℕ) → lines_left k ≡ flat_map line (take size (drop (k * size) rows)) ++ lines_left (k + 1)
  share_lines k =
      let here = drop (k * size) rows in
      let step : k * size + size ≡ (k + 1) * size = sym (add-mul k 1 size ∙ ap (λ n. k * size + n) (one-mul size)) in
      let behind : drop size here ≡ drop ((k + 1) * size) rows = drop-drop size (k * size) rows ∙ ap (λ n. drop n rows) step in
      ap (flat_map line) (sym (take-append-drop size here) ∙ ap (λ (l : List X). take size here ++ l) behind) ∙ flat_map-append line (take size here) (drop ((k + 1) * size) rows)

  line_share : (k : ℕ) (share : Option (Result (Vec ℕ) NoMemory)) → IfSome share (λ s. IfOk s (λ bytes. bytes.items ≡ flat_map line (take size (drop (k * size) rows))))
      → IfSome share (λ s. IfOk s (λ bytes. lines_left k ≡ bytes.items ++ lines_left (k + 1)))
  line_share k None is = is
  line_share k (Some (Err e)) is = is
  line_share k (Some (Ok bytes)) is = share_lines k ∙ ap (λ (l : List ℕ). l ++ lines_left (k + 1)) (sym is)

  pub line_shares : (shares : List (Result (Vec ℕ) NoMemory)) → ((x : X) → 0 < length (line x)) → 0 < size → length shares ≡ length rows / size + min 1 (length rows % size)
      → ((k : ℕ) → k < length shares → IfSome (slice_get shares k) (λ s. IfOk s (λ bytes. bytes.items ≡ flat_map line (take size (drop (k * size) rows)))))
      → AreShares lines_left shares
  line_shares shares some positive many made =
      let span = subst (λ count. (length rows ≤ count * size) × (count * size < length rows + size)) (sym many) (div_ceil_times (length rows) size positive) in
      record {
        some = λ k below. some_lines line (drop (k * size) rows) some (omega (arith, row_fits k size (length shares) size below (omega arith), span.1, length-drop (k * size) rows));
        each = λ k below. line_share k (slice_get shares k) (made k below);
        none = λ k behind. ap (flat_map line) (drop_all (k * size) rows (omega (arith, span.0, mul-le-mul_right size behind)));
      }
