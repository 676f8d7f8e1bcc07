-- How generated rows that follow one another go on, and what each is.
use Rattle.std.proofs.Common.{◌≡◌, ℕ, zero, suc, ◌+◌, ◌-◌, ◌%◌, ◌<◌, ◌≤◌, List, [], ◌∷◌, ◌++◌, get_or, length, map, map-id, refl, sym, ap, ◌∙◌, arith}
use Rattle.std.specs.List.{All, flat_map, range_with_len}
use Rattle.std.proofs.lemmas.List.{flat_map_more, get_or-map, length-map}
use Rattle.std.proofs.lemmas.List.Concat.{flat_map-append}
use Rattle.std.proofs.lemmas.List.Elements.{All-map, All-same}
use Rattle.std.proofs.lemmas.List.FromFn.{get_or-map-range_with_len, length-map-range_with_len, map-range_with_len_more}
use Rattle.willow_entry.specs.Frame.{HasFrame}
use Rattle.willow_entry.specs.declared.entry.Entry.{Entry}
use Rattle.mc_cap.specs.declared.capability.Capability.{Capability}
use Rattle.cap_codec.specs.Rows.{RawValue, frame, row_of}
use Rattle.cap_codec.specs.declared.token.WriteToken.{WriteToken}
use Rattle.peer_listing.specs.Generator.{generated, generated_entry, generated_token, generator_capability, generator_writer}
use Rattle.peer_listing.specs.Ranges.{entries_between, frames_between, generated_between}
use Rattle.peer_listing.specs.Signing.{own_signature}
use Rattle.peer_listing.proofs.Lengths.{generated_fits}

-- what is made of each number goes on by one
pub made_more : {X : Type 0} (f : ℕ → X) (from i : ℕ) → from ≤ i → map f (range_with_len from ((i + 1) - from)) ≡ map f (range_with_len from (i - from)) ++ f i ∷ []
made_more f from i up =
    let count : (i + 1) - from ≡ (i - from) + 1 = omega arith in
    ap (λ n. map f (range_with_len from n)) count ∙ map-range_with_len_more f from (i - from) i (omega arith)

-- what is made of one of them
pub made_at : {X : Type 0} (f : ℕ → X) (from to i : ℕ) (d : X) → from ≤ i → i < to → get_or (map f (range_with_len from (to - from))) (i - from) d ≡ f i
made_at f from to i d up below = get_or-map-range_with_len f from (to - from) (i - from) i d (omega arith) (omega arith)

-- how many there are, and what is made of the entry of one of them
pub of_entries_long : {Z : Type 0} (h : Entry → Z) (from to : ℕ) → length (map h (entries_between from to)) ≡ to - from
of_entries_long h from to = length-map (entries_between from to) h ∙ length-map-range_with_len generated_entry from (to - from)

pub of_entry_at : {Z : Type 0} (h : Entry → Z) (from to i : ℕ) (e : Z) → from ≤ i → i < to → get_or (map h (entries_between from to)) (i - from) e ≡ h (generated_entry i)
of_entry_at h from to i e up below =
    let within : i - from < length (entries_between from to) = omega (arith, length-map-range_with_len generated_entry from (to - from)) in
    get_or-map h (entries_between from to) (i - from) (generated_entry i) e within ∙ ap h (made_at generated_entry from to i (generated_entry i) up below)

-- the first of what is left, and the others
module _ {X : Type 0} (f : ℕ → X) (i to : ℕ) (x : X) (rest : List X) (is : map f (range_with_len i (to - i)) ≡ x ∷ rest) where
  pub some_between : i < to
  some_between = omega (arith, ap length is, length-map-range_with_len f i (to - i))

  parts : f i ∷ map f (range_with_len (i + 1) (to - (i + 1))) ≡ x ∷ rest
  parts =
      let some = some_between in
      let count : to - i ≡ suc (to - (i + 1)) = omega arith in
      sym (ap (λ n. map f (range_with_len i n)) count) ∙ is

  pub next_is : x ≡ f i
  next_is = let both = parts in cc

  pub others_are : rest ≡ map f (range_with_len (i + 1) (to - (i + 1)))
  others_are = let both = parts in cc

numbers_more : (from i : ℕ) → from ≤ i → range_with_len from (i - from) ++ i ∷ [] ≡ range_with_len from ((i + 1) - from)
numbers_more from i up =
    ap (λ (l : List ℕ). l ++ i ∷ []) (sym (map-id (range_with_len from (i - from))))
    ∙ sym (made_more (λ (k : ℕ). k) from i up)
    ∙ map-id (range_with_len from ((i + 1) - from))

-- the next frame is put behind those before it
pub frames_more : (out : List ℕ) (from i : ℕ) → from ≤ i → (out ++ frames_between from i) ++ frame (generated i) ≡ out ++ frames_between from (i + 1)
frames_more out from i up =
    flat_map_more (λ (k : ℕ). frame (generated k)) out (range_with_len from (i - from)) i
    ∙ ap (λ (l : List ℕ). out ++ flat_map (λ (k : ℕ). frame (generated k)) l) (numbers_more from i up)

-- numbers that follow one another, in two parts
pub ranges_join : (a m n : ℕ) → range_with_len a (m + n) ≡ range_with_len a m ++ range_with_len (a + m) n
ranges_join a zero n =
    let count : zero + n ≡ n = omega arith in
    let at : a ≡ a + zero = omega arith in
    ap (range_with_len a) count ∙ ap (λ (k : ℕ). range_with_len k n) at
ranges_join a (suc m) n =
    let count : suc m + n ≡ suc (m + n) = omega arith in
    let at : (a + 1) + m ≡ a + suc m = omega arith in
    ap (range_with_len a) count
    ∙ ap (λ (l : List ℕ). a ∷ l) (ranges_join (a + 1) m n)
    ∙ ap (λ (k : ℕ). a ∷ (range_with_len (a + 1) m ++ range_with_len k n)) at

-- frames in two parts
pub frames_join : (from mid to : ℕ) → from ≤ mid → mid ≤ to → frames_between from to ≡ frames_between from mid ++ frames_between mid to
frames_join from mid to up more =
    let frame_at = λ (k : ℕ). frame (generated k) in
    let count : to - from ≡ (mid - from) + (to - mid) = omega arith in
    let at : from + (mid - from) ≡ mid = omega arith in
    ap (λ (n : ℕ). flat_map frame_at (range_with_len from n)) count
    ∙ ap (flat_map frame_at) (ranges_join from (mid - from) (to - mid))
    ∙ flat_map-append frame_at (range_with_len from (mid - from)) (range_with_len (from + (mid - from)) (to - mid))
    ∙ ap (λ (n : ℕ). frames_between from mid ++ flat_map frame_at (range_with_len n (to - mid))) at

-- each row fits a frame
pub between_fit : (from to : ℕ) (rows : List RawValue) → rows ≡ generated_between from to → All (λ row. HasFrame (row_of row)) rows
between_fit from to rows is =
    let numbers = range_with_len from (to - from) in
    All-same (λ row. HasFrame (row_of row)) rows (map generated numbers) is
    (All-map (λ row. HasFrame (row_of row)) generated numbers (λ k d below. generated_fits (get_or numbers k d) (generated (get_or numbers k d)) refl refl))

abbrev token_with : Capability → List ℕ → WriteToken
token_with capability signature = record { capability = capability; signature = signature }

abbrev row_with : Entry → WriteToken → RawValue
row_with entry token = record { entry = entry; token = token }

-- an entry, its writer's capability and its signature are the row
pub row_is : (i : ℕ) (row : RawValue) (capability : Capability) (signature : List ℕ) → row.entry ≡ generated_entry i → row.token ≡ token_with capability signature → capability ≡ generator_capability (generator_writer (i % 8)) → signature ≡ own_signature (generated_entry i) → row ≡ generated i
unfolding generated_token generated_entry
row_is i row capability signature entry token own signed =
    ap (λ (e : Entry). row_with e row.token) entry
    ∙ ap (row_with (generated_entry i)) (token ∙ ap (λ (c : Capability). token_with c signature) own ∙ ap (token_with (generator_capability (generator_writer (i % 8)))) signed)
