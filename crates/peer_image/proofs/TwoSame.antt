-- What is written as an image of version 2 is the image of just these rows.
use Rattle.std.proofs.Common.{◌≡◌, inl, inr, ℕ, ◌<◌, ◌≤◌, ◌^◌, List, [], ◌∷◌, ◌++◌, length, map, get_or, refl, sym, ap, subst, ◌∙◌, append-nil, arith}
use Rattle.std.specs.List.{AllByRecursion, flat_map}
use Rattle.std.specs.List.Sorted.{IsStrictlySortedBy}
use Rattle.std.specs.Int.{w32, to_be_bytes}
use Rattle.std.proofs.lemmas.Cmp.{nat_list_cmp_total}
use Rattle.std.proofs.lemmas.List.{get_or_default, length-append, length-map}
use Rattle.std.proofs.Math.ListN.{get_or-map}
use Rattle.spelling.proofs.Joining.{one_spelling}
use Rattle.willow_path.specs.Key.{IsKey}
use Rattle.willow_entry.specs.Entry.{bytes_cmp}
use Rattle.willow_entry.specs.EntryForm.{entry_spelling}
use Rattle.willow_entry.specs.Pruning.{rising}
use Rattle.willow_entry.specs.declared.frame.TheConstants.{MAX_FRAME}
use Rattle.willow_entry.proofs.Members.{Member, contains_from_member, member_from_contains}
use Rattle.willow_entry.proofs.Ranks.{bytes_tie}
use Rattle.willow_entry.proofs.Rising.{member_from_rising, member_rising, rising-rises}
use Rattle.mc_cap.specs.Forms.{IsCapability, capability_spelling}
use Rattle.mc_cap.specs.Signature.{signature_spelling}
use Rattle.mc_cap.specs.declared.capability.Capability.{Capability}
use Rattle.cap_codec.specs.declared.numbered.NumberedRow.{NumberedRow}
use Rattle.cap_codec.specs.Numbered.{FitsCapability, capability_frame, numbered_frame, numbered_spelling, row_with}
use Rattle.cap_codec.specs.Rows.{FitsFrame, RawValue, row_of, token_spelling}
use Rattle.cap_codec.specs.Spelled.{no_token}
use Rattle.cap_codec.proofs.CapReads.{capability-reads}
use Rattle.cap_codec.proofs.Spelled.{capability_again, signature_again}
use Rattle.peer_image.specs.ImageOneReading.{raw_rows}
use Rattle.peer_image.specs.Image.{bytes_frame, capabilities, capability_bytes, head_two, image, numbered_as, place_in, placed_frame, trailer}
use Rattle.peer_image.specs.ImageTwoReading.{AreAllTold, FitsBelow, IsImageTwo, row_among}
use Rattle.peer_image.proofs.TwoRows.{capability_long}
use Rattle.peer_image.proofs.TwoPlaces.{all_at, all_rising, place_at, rising_short}

-- ---- capabilities of spellings

abbrev IsSpelled : List ℕ → Type 0
IsSpelled t = (c : Capability) × FitsCapability c × (capability_spelling c ≡ t)

record Read (texts : List (List ℕ)) : Type 0 where
  told : List Capability
  same : map capability_spelling told ≡ texts
  fit : AllByRecursion FitsCapability told

read : (texts : List (List ℕ)) → AllByRecursion IsSpelled texts → Read texts
read [] all = record { told = []; same = refl; fit = tt }
read (t ∷ texts) all =
    let more = read texts all.1 in
    record {
      told = all.0.0 ∷ more.told;
      same = ap (λ (x : List ℕ). x ∷ map capability_spelling more.told) all.0.2 ∙ ap (λ (l : List (List ℕ)). t ∷ l) more.same;
      fit = (all.0.1, more.fit);
    }

-- ---- rows

abbrev text_of : RawValue → List ℕ
text_of r = capability_spelling r.token.capability

text_short : (r : RawValue) → FitsFrame r → length (text_of r) ≤ MAX_FRAME
text_short r f = omega (arith, f.short, length-append (entry_spelling r.entry) (token_spelling r.token), length-append (text_of r) (signature_spelling r.token.signature))

abbrev numbered_row : ℕ → RawValue → NumberedRow
numbered_row k r = record { entry = r.entry; number = k; signature = r.token.signature }

four : (k : ℕ) → length (to_be_bytes w32 k) ≡ 4
four k = refl

numbered_short : (k : ℕ) (r : RawValue) → FitsFrame r → length (numbered_spelling (numbered_row k r)) ≤ MAX_FRAME
numbered_short k r f =
    omega (
      arith,
      f.short,
      length-append (entry_spelling r.entry) (token_spelling r.token),
      length-append (text_of r) (signature_spelling r.token.signature),
      capability_long r.token.capability f.raw.token_fits.capability_fits,
      length-append (entry_spelling r.entry) (to_be_bytes w32 k ++ signature_spelling r.token.signature),
      length-append (to_be_bytes w32 k) (signature_spelling r.token.signature),
      four k,
    )

texts_are : (rows : List RawValue) → AllByRecursion FitsFrame rows → map capability_bytes (raw_rows rows) ≡ map text_of rows
texts_are [] f = refl
texts_are (r ∷ rows) f =
    ap (λ (x : List ℕ). x ∷ map capability_bytes (raw_rows rows)) (capability_again r.token f.0.raw.token_fits)
    ∙ ap (λ (l : List (List ℕ)). text_of r ∷ l) (texts_are rows f.1)

spelled_texts : (rows : List RawValue) → AllByRecursion FitsFrame rows → AllByRecursion IsSpelled (map text_of rows)
spelled_texts [] f = tt
spelled_texts (r ∷ rows) f = ((r.token.capability, record { value_fits = f.0.raw.token_fits.capability_fits; short = text_short r f.0 }, refl), spelled_texts rows f.1)

pub flat_mapped : {A B : Type 0} (f : B → List ℕ) (g : A → B) (xs : List A) → flat_map f (map g xs) ≡ flat_map (λ x. f (g x)) xs
flat_mapped f g [] = refl
flat_mapped f g (x ∷ xs) = ap (λ (l : List ℕ). f (g x) ++ l) (flat_mapped f g xs)

mapped_member : {A B : Type 0} (g : A → B) (xs : List A) (x : A) → Member xs x → Member (map g xs) (g x)
mapped_member g [] x m = absurd m
mapped_member g (y ∷ xs) x (inl e) = inl (ap g e)
mapped_member g (y ∷ xs) x (inr m) = inr (mapped_member g xs x m)

pub member_mapped : {A B : Type 0} (g : A → B) (xs : List A) (z : B) → Member (map g xs) z → (x : A) × Member xs x × (g x ≡ z)
member_mapped g [] z m = absurd m
member_mapped g (y ∷ xs) z (inl e) = (y, inl refl, e)
member_mapped g (y ∷ xs) z (inr m) = let r = member_mapped g xs z m in (r.0, inr r.1, r.2)

-- ---- with all capabilities that the rows tell

module _ (texts : List (List ℕ)) (told : List Capability) (same : map capability_spelling told ≡ texts) (fit : AllByRecursion FitsCapability told) (up : IsStrictlySortedBy bytes_cmp texts) where
  abbrev numbered_in : RawValue → NumberedRow
  numbered_in r = numbered_row (place_in texts (text_of r)) r

  long : length told ≡ length texts
  long = sym (length-map told capability_spelling) ∙ ap length same

  -- the place of one that is told
  placed_at : (c : List ℕ) → Member texts c → (place_in texts c < length texts) × (get_or texts (place_in texts c) c ≡ c)
  placed_at c m =
      let h = contains_from_member texts c m in
      let k = place_at texts h.0 c up h.1 h.2 in
      (omega (arith, k, h.1), ap (λ (i : ℕ). get_or texts i c) k ∙ h.2)

  same_told : (c : Capability) (k : ℕ) → IsCapability c → k < length told → get_or texts k (capability_spelling c) ≡ capability_spelling c → get_or told k c ≡ c
  same_told c k f below is =
      let spelled : capability_spelling (get_or told k c) ≡ capability_spelling c = sym (get_or-map capability_spelling told k c) ∙ ap (λ (l : List (List ℕ)). get_or l k (capability_spelling c)) same ∙ is in
      let fits : FitsCapability (get_or told k c) = all_at FitsCapability told k (get_or told k c) fit below (get_or_default told k (get_or told k c) c below) in
      (one_spelling capability-reads (get_or told k c) c [] [] fits.value_fits f (append-nil (capability_spelling (get_or told k c)) ∙ spelled ∙ sym (append-nil (capability_spelling c)))).0

  row_back : (r : RawValue) → FitsFrame r → Member texts (text_of r) → row_among told (numbered_in r) ≡ r
  row_back r f m =
      let at = placed_at (text_of r) m in
      let below : place_in texts (text_of r) < length told = omega (arith, at.0, long) in
      let c = same_told r.token.capability (place_in texts (text_of r)) f.raw.token_fits.capability_fits below at.1 in
      let other = get_or_default told (place_in texts (text_of r)) no_token.capability r.token.capability below ∙ c in
      ap (λ (x : Capability). row_with x (numbered_in r)) other

  rows_back : (rows : List RawValue) → AllByRecursion FitsFrame rows → ((r : RawValue) → Member rows r → Member texts (text_of r)) → rows ≡ map (row_among told) (map numbered_in rows)
  rows_back [] f m = refl
  rows_back (r ∷ rows) f m =
      ap (λ (x : RawValue). x ∷ rows) (sym (row_back r f.0 (m r (inl refl)))) ∙ ap (λ (l : List RawValue). row_among told (numbered_in r) ∷ l) (rows_back rows f.1 (λ x h. m x (inr h)))

  numbered_fit : (rows : List RawValue) → length texts < 2 ^ 32 → AllByRecursion FitsFrame rows → ((r : RawValue) → Member rows r → Member texts (text_of r)) → AllByRecursion (FitsBelow (length told)) (map numbered_in rows)
  numbered_fit [] few f m = tt
  numbered_fit (r ∷ rows) few f m =
      let at = placed_at (text_of r) (m r (inl refl)) in (
        record {
          fits = record {
            value_fits = record { entry_fits = f.0.raw.entry_fits; number_fits = omega (arith, at.0, few); signature_fits = f.0.raw.token_fits.signature_fits };
            short = numbered_short (place_in texts (text_of r)) r f.0;
          };
          below = omega (arith, at.0, long);
        },
        numbered_fit rows few f.1 (λ x h. m x (inr h)),
      )

  all_used : (rows : List RawValue) → ((c : List ℕ) → Member texts c → Member (map text_of rows) c) → AreAllTold (length told) (map numbered_in rows)
  all_used rows back k below =
      let t = get_or texts k [] in
      let within : k < length texts = omega (arith, below, long) in
      let here : Member texts t = member_from_contains texts t (k, within, get_or_default texts k t [] within) in
      let r = member_mapped text_of rows t (back t here) in
      let number : place_in texts (text_of r.0) ≡ k = ap (place_in texts) r.2 ∙ place_at texts k t up within (get_or_default texts k t [] within) in
      contains_from_member (map (λ (x : NumberedRow). x.number) (map numbered_in rows)) k
      (subst (Member (map (λ (x : NumberedRow). x.number) (map numbered_in rows))) number (mapped_member (λ (x : NumberedRow). x.number) (map numbered_in rows) (numbered_in r.0) (mapped_member numbered_in rows r.0 r.1)))

  frames_are : (rows : List RawValue) → AllByRecursion FitsFrame rows → flat_map (placed_frame texts) (raw_rows rows) ≡ flat_map numbered_frame (map numbered_in rows)
  frames_are [] f = refl
  frames_are (r ∷ rows) f =
      let capability = capability_again r.token f.0.raw.token_fits in
      let signature = signature_again r.token f.0.raw.token_fits in
      let one : placed_frame texts (row_of r) ≡ numbered_frame (numbered_in r) =
      ap (λ (c : List ℕ). bytes_frame (numbered_as (place_in texts c) (row_of r))) capability
      ∙ ap (λ (s : List ℕ). bytes_frame (entry_spelling r.entry ++ (to_be_bytes w32 (place_in texts (text_of r)) ++ s))) signature in
      ap (λ (l : List ℕ). l ++ flat_map (placed_frame texts) (raw_rows rows)) one ∙ ap (λ (l : List ℕ). numbered_frame (numbered_in r) ++ l) (frames_are rows f.1)

-- ---- all of it

abbrev texts_of : List RawValue → List (List ℕ)
texts_of rows = capabilities (raw_rows rows)

abbrev placed_row : List RawValue → RawValue → NumberedRow
placed_row rows r = numbered_row (place_in (texts_of rows) (text_of r)) r

module _ (rows : List RawValue) (f : AllByRecursion FitsFrame rows) where
  texts_rising : texts_of rows ≡ rising bytes_cmp (map text_of rows)
  texts_rising = ap (rising bytes_cmp) (texts_are rows f)

  texts_read : Read (texts_of rows)
  texts_read = read (texts_of rows) (subst (AllByRecursion IsSpelled) (sym texts_rising) (all_rising bytes_cmp IsSpelled (map text_of rows) (spelled_texts rows f)))

  texts_up : IsStrictlySortedBy bytes_cmp (texts_of rows)
  texts_up = subst (IsStrictlySortedBy bytes_cmp) (sym texts_rising) (rising-rises bytes_cmp nat_list_cmp_total (map text_of rows))

  text_there : (r : RawValue) → Member rows r → Member (texts_of rows) (text_of r)
  text_there r m =
      subst (λ (l : List (List ℕ)). Member l (text_of r)) (sym texts_rising) (member_rising bytes_cmp (map text_of rows) (λ a b p q e. bytes_tie a b e) (text_of r) (mapped_member text_of rows r m))

  text_back : (c : List ℕ) → Member (texts_of rows) c → Member (map text_of rows) c
  text_back c m = member_from_rising bytes_cmp (map text_of rows) c (subst (λ (l : List (List ℕ)). Member l c) texts_rising m)

  texts_few : length (texts_of rows) ≤ length rows
  texts_few = omega (arith, ap length texts_rising, rising_short bytes_cmp (map text_of rows), length-map rows text_of)

pub image_two_here : (n : List ℕ) (rows : List RawValue) → IsKey n → AllByRecursion FitsFrame rows → length rows < 2 ^ 32 → IsImageTwo (image n (raw_rows rows)) n rows
unfolding image
image_two_here n rows key f few =
    let r = texts_read rows f in
    let up = texts_up rows f in
    let as_many : length r.told ≡ length (texts_of rows) = long (texts_of rows) r.told r.same r.fit up in
    record {
      told = r.told;
      numbered = map (placed_row rows) rows;
      key = key;
      told_count = omega (arith, few, texts_few rows f, as_many);
      told_fit = r.fit;
      up = subst (IsStrictlySortedBy bytes_cmp) (sym r.same) up;
      fit = numbered_fit (texts_of rows) r.told r.same r.fit up rows (omega (arith, few, texts_few rows f)) f (text_there rows f);
      used = all_used (texts_of rows) r.told r.same r.fit up rows (text_back rows f);
      count = omega (arith, few, length-map rows (placed_row rows));
      spelled =
          ap (λ (k : ℕ). head_two n k ++ (flat_map bytes_frame (texts_of rows) ++ (flat_map (placed_frame (texts_of rows)) (raw_rows rows) ++ trailer (length (raw_rows rows))))) (sym as_many)
          ∙ ap (λ (l : List ℕ). head_two n (length r.told) ++ (l ++ (flat_map (placed_frame (texts_of rows)) (raw_rows rows) ++ trailer (length (raw_rows rows))))) (ap (flat_map bytes_frame) (sym r.same) ∙ flat_mapped bytes_frame capability_spelling r.told)
          ∙ ap (λ (l : List ℕ). head_two n (length r.told) ++ (flat_map capability_frame r.told ++ (l ++ trailer (length (raw_rows rows))))) (frames_are (texts_of rows) r.told r.same r.fit up rows f)
          ∙ ap (λ (k : ℕ). head_two n (length r.told) ++ (flat_map capability_frame r.told ++ (flat_map numbered_frame (map (placed_row rows) rows) ++ trailer k))) (length-map rows row_of ∙ sym (length-map rows (placed_row rows)));
      rows_are = rows_back (texts_of rows) r.told r.same r.fit up rows f (text_there rows f);
    }
