-- How the reader of an image of version 2 goes on.
use Rattle.std.proofs.Common.{◌≡◌, ◌↔◌, inl, inr, ◌⊎◌, ℕ, zero, suc, ◌-◌, ◌+◌, ◌<◌, ◌≤◌, ◌^◌, Bool, true, false, List, [], ◌∷◌, ◌++◌, length, map, take, drop, set, get_or, Contains, Ok, Err, refl, sym, ap, subst, ◌∙◌, append_assoc, append-nil, arith, Ordering, Less, Equal, Greater, is_lt}
use Rattle.std.specs.Prelude.{IsTrue}
use Rattle.std.specs.List.{flat_map, AllByRecursion, list_all}
use Rattle.std.specs.List.Sorted.{IsStrictlySortedBy}
use Rattle.std.specs.Int.{w32, to_be_bytes}
use Rattle.std.proofs.lemmas.Cmp.{nat_list_cmp_total}
use Rattle.std.proofs.lemmas.List.{length-append, length-map, length-set, map-append, take-append-drop, get_or-set_same, get_or-set_other, get_or_push, get_or_append_left}
use Rattle.std.proofs.lemmas.List.Elements.{Contains-append_left, Contains-push, Contains-push_cases}
use Rattle.std.proofs.lemmas.Bool.{and_parts, and_from, cases_eq, cases_lt}
use Rattle.std.proofs.lemmas.Grind.{flat_map-append}
use Rattle.std.proofs.lemmas.Slice.{between_is}
use Rattle.spelling.specs.Front.{Front, Whole, Part, Wrong}
use Rattle.spelling.specs.Memory.{Behind}
use Rattle.spelling.specs.declared.ending.End.{End}
use Rattle.spelling.proofs.Lists.{All-append}
use Rattle.willow_path.specs.Key.{key_at}
use Rattle.willow_entry.specs.Entry.{bytes_cmp}
use Rattle.willow_entry.specs.EntryForm.{EntryAsks}
use Rattle.willow_entry.proofs.EntryReads.{entry-reads, whole_asks as entry_asks}
use Rattle.willow_entry.specs.Frame.{FrameAsks}
use Rattle.mc_cap.specs.Forms.{IsCapability, capability_spelling}
use Rattle.mc_cap.specs.Signature.{signature_spelling}
use Rattle.mc_cap.specs.declared.capability.Capability.{Capability}
use Rattle.cap_codec.specs.declared.numbered.NumberedRow.{NumberedRow}
use Rattle.cap_codec.specs.Memory.{CapabilityAsks}
use Rattle.cap_codec.specs.Numbered.{CapabilityFrameAsks, FitsCapability, FitsNumbered, IsNumberedRow, capability_frame, numbered_frame, numbered_spelling}
use Rattle.cap_codec.specs.Reading.{form_at}
use Rattle.cap_codec.specs.Rows.{RawValue}
use Rattle.cap_codec.proofs.CapReads.{capability-reads}
use Rattle.cap_codec.proofs.Frames.{body_at}
use Rattle.cap_codec.proofs.Framed.{framed_again, framed_form}
use Rattle.cap_codec.proofs.NumberedReads.{numbered-reads}
use Rattle.peer_image.specs.declared.known.ImageHead.{ImageHead}
use Rattle.peer_image.specs.declared.refusal.ImageRefusal.{ImageRefusal}
use Rattle.peer_image.specs.Image.{head_two, trailer}
use Rattle.peer_image.specs.ImageTwoParts.{AreMarked, GoesBadAt, IsPartTwo, IsRowInFront, RowsSo, TellsNext}
use Rattle.peer_image.specs.ImageTwoReading.{AreRising, AreToldInFront, AreAllTold, FirstIsWhole, FitsBelow, HasNoHigher, HasNoRow, ImageTwoAsks, IsImageHead, IsImageTwo, IsToldBy, ReadsRowsTwo, RowsStopAt, ToldStopAt, head_two_spelling, head_two_at, row_among}
use Rattle.peer_image.proofs.LastFronts.{EndsIn}
use Rattle.peer_image.proofs.TwoHeads.{head-reads}
use Rattle.peer_image.proofs.TwoRising.{rising_by_last, rising_one}

-- ---- capabilities that were told

pub record ToldSo (bytes : List ℕ) (count : ℕ) (told : List Capability) (left : List ℕ) : Type 0 where
  pub fit : AllByRecursion FitsCapability told
  pub up : AreRising told
  pub within : length told ≤ count
  pub parts : bytes ≡ flat_map capability_frame told ++ left

pub told_none : (bytes : List ℕ) (count : ℕ) → ToldSo bytes count [] bytes
unfolding IsStrictlySortedBy
told_none bytes count = record { fit = tt; up = tt; within = omega arith; parts = refl }

flat_push : {A : Type 0} (f : A → List ℕ) (xs : List A) (x : A) → flat_map f (xs ++ x ∷ []) ≡ flat_map f xs ++ f x
flat_push f xs x = flat_map-append f xs (x ∷ []) ∙ ap (λ (l : List ℕ). flat_map f xs ++ l) (append-nil (f x))

-- what was taken stands in front of what is left
parts_on : {A : Type 0} (f : A → List ℕ) (bytes left : List ℕ) (xs : List A) (x : A) (taken : ℕ) → bytes ≡ flat_map f xs ++ left → take taken left ≡ f x → bytes ≡ flat_map f (xs ++ x ∷ []) ++ drop taken left
parts_on f bytes left xs x taken so spelled =
    let on : left ≡ f x ++ drop taken left = sym (take-append-drop taken left) ∙ ap (λ (l : List ℕ). l ++ drop taken left) spelled in
    so ∙ ap (λ (l : List ℕ). flat_map f xs ++ l) on ∙ sym (append_assoc (flat_map f xs) (f x) (drop taken left)) ∙ ap (λ (l : List ℕ). l ++ drop taken left) (sym (flat_push f xs x))

pub told_on : (bytes : List ℕ) (count : ℕ) (told seen : List Capability) (left : List ℕ) (c : Capability) (taken : ℕ) → ToldSo bytes count told left → length told < count → seen ≡ told → TellsNext seen left (Ok (c, taken))
    → ToldSo bytes count (told ++ c ∷ []) (drop taken left)
told_on bytes count told seen left c taken so few same next = record {
  fit = All-append FitsCapability told (c ∷ []) so.fit (next.0, tt);
  up = subst (λ (l : List Capability). AreRising (l ++ c ∷ [])) same next.1;
  within = omega (arith, few, length-append told (c ∷ []));
  parts = parts_on capability_frame bytes left told c taken so.parts next.3;
}

-- ---- where memory is asked for

weaker : {A : Type 0} (front : Front A) (P Q : A → List ℕ → Type 0) → ((x : A) (rest : List ℕ) → P x rest → Q x rest) → Behind front P → Behind front Q
weaker (Whole x rest) P Q f h = f x rest h
weaker Part P Q f h = h
weaker Wrong P Q f h = h

capability_asks_some : (spelled : List ℕ) → CapabilityAsks spelled → 0 < length spelled
unfolding form_at
capability_asks_some [] h = absurd h
capability_asks_some (b ∷ spelled) h = omega arith

entry_asks_some : (body : List ℕ) → EntryAsks body → 0 < length body
unfolding key_at
entry_asks_some [] h = absurd h
entry_asks_some (b ∷ body) h = omega arith

pub capability_whole : (bytes : List ℕ) → CapabilityFrameAsks bytes → FirstIsWhole bytes
capability_whole bytes h = weaker (body_at bytes) (λ spelled rest. CapabilityAsks spelled) (λ first rest. 0 < length first) (λ x rest p. capability_asks_some x p) h

frame_whole : (bytes : List ℕ) → FrameAsks bytes → FirstIsWhole bytes
frame_whole bytes h = weaker (body_at bytes) (λ body rest. EntryAsks body) (λ first rest. 0 < length first) (λ x rest p. entry_asks_some x p) h

capability_some : (c : Capability) → 0 < length (capability_spelling c)
unfolding capability_spelling
capability_some c = omega arith

-- a capability in front is whole
told_whole : (c : Capability) (rest : List ℕ) → FitsCapability c → FirstIsWhole (capability_frame c ++ rest)
told_whole c rest fits = rw (framed_again {spell = capability_spelling} {fits = IsCapability} c rest fits) (capability_some c)

pub some_told : (bytes : List ℕ) (told : List Capability) (left : List ℕ) → AllByRecursion FitsCapability told → bytes ≡ flat_map capability_frame told ++ left → 0 < length told → FirstIsWhole bytes
some_told bytes [] left fit parts some = absurd (omega (arith, some))
some_told bytes (c ∷ told) left fit parts some =
    subst FirstIsWhole (sym (parts ∙ append_assoc (capability_frame c) (flat_map capability_frame told) left)) (told_whole c (flat_map capability_frame told ++ left) fit.0)

-- where the next capability asks, the first is whole
pub told_asks : (bytes : List ℕ) (count : ℕ) (told : List Capability) (left : List ℕ) → ToldSo bytes count told left → CapabilityFrameAsks left → FirstIsWhole bytes
told_asks bytes count [] left so asks = subst FirstIsWhole (sym so.parts) (capability_whole left asks)
told_asks bytes count (c ∷ told) left so asks = some_told bytes (c ∷ told) left so.fit so.parts (omega arith)

-- where the rows ask, the first frame behind the head is whole
pub rows_ask_whole : (bytes : List ℕ) (count : ℕ) (told : List Capability) (middle : List ℕ) → AreToldInFront bytes count told middle → (0 < length told) ⊎ FrameAsks middle → FirstIsWhole bytes
rows_ask_whole bytes count told middle are (inl some) = some_told bytes told middle are.fit are.parts some
rows_ask_whole bytes count [] middle are (inr asks) = subst FirstIsWhole (sym are.parts) (frame_whole middle asks)
rows_ask_whole bytes count (c ∷ told) middle are (inr asks) = some_told bytes (c ∷ told) middle are.fit are.parts (omega arith)

-- ---- marks

abbrev numbers : List NumberedRow → List ℕ
numbers = map (λ (r : NumberedRow). r.number)

none_used : (k : ℕ) → IsToldBy [] k → ⊥
none_used k u = omega (arith, u.1)

false_not_true : false ≡ true → ⊥
false_not_true e = cc

pub marks_none : AreMarked [] 0 []
marks_none = record { long = refl; marked = λ k below. absurd (omega (arith, below)) }

-- one mark more, not set
pub marks_push : (marks : List Bool) (n : ℕ) → AreMarked marks n [] → AreMarked (marks ++ false ∷ []) (n + 1) []
marks_push marks n m = record {
  long = omega (arith, m.long, length-append marks (false ∷ []));
  marked = λ k below. (λ e. absurd (unmarked k below e), λ u. absurd (none_used k u));
} where
  unmarked : (k : ℕ) → k < n + 1 → get_or (marks ++ false ∷ []) k false ≡ true → ⊥
  unmarked k below e = elim (cases_lt k n) [
    | inl before ↦ none_used k ((m.marked k before).0 (sym (get_or_append_left marks (false ∷ []) false k (omega (arith, before, m.long))) ∙ e))
    | inr last ↦ false_not_true (sym (get_or_push marks false false k (omega (arith, below, last, m.long))) ∙ e)
  ]

-- one row more: its capability is marked
used_on : (rows : List NumberedRow) (r : NumberedRow) (k : ℕ) → IsToldBy rows k → IsToldBy (rows ++ r ∷ []) k
used_on rows r k u = subst (λ (l : List ℕ). Contains l k) (sym (map-append (λ (x : NumberedRow). x.number) rows (r ∷ []))) (Contains-append_left (numbers rows) (r.number ∷ []) k u)

used_here : (rows : List NumberedRow) (r : NumberedRow) → IsToldBy (rows ++ r ∷ []) r.number
used_here rows r = subst (λ (l : List ℕ). Contains l r.number) (sym (map-append (λ (x : NumberedRow). x.number) rows (r ∷ []))) (Contains-push (numbers rows) r.number)

used_cases : (rows : List NumberedRow) (r : NumberedRow) (k : ℕ) → IsToldBy (rows ++ r ∷ []) k → IsToldBy rows k ⊎ (r.number ≡ k)
used_cases rows r k u = Contains-push_cases (numbers rows) r.number k (subst (λ (l : List ℕ). Contains l k) (map-append (λ (x : NumberedRow). x.number) rows (r ∷ [])) u)

marks_on : (marks : List Bool) (count : ℕ) (rows : List NumberedRow) (r : NumberedRow) (number : ℕ) → AreMarked marks count rows → r.number < count → number ≡ r.number → AreMarked (set marks number true) count (rows ++ r ∷ [])
marks_on marks count rows r number m below is = record {
  long = length-set marks number true ∙ m.long;
  marked = λ k within. (one k within, other k within);
} where
  here : number < length marks
  here = omega (arith, below, is, m.long)

  one : (k : ℕ) → k < count → get_or (set marks number true) k false ≡ true → IsToldBy (rows ++ r ∷ []) k
  one k within e = elim (cases_eq k number) [
    | inl same ↦ subst (λ (n : ℕ). IsToldBy (rows ++ r ∷ []) n) (sym (same ∙ is)) (used_here rows r)
    | inr differ ↦ used_on rows r k ((m.marked k within).0 (sym (get_or-set_other marks number k true false differ) ∙ e))
  ]

  other : (k : ℕ) → k < count → IsToldBy (rows ++ r ∷ []) k → get_or (set marks number true) k false ≡ true
  other k within u = elim (cases_eq k number) [
    | inl same ↦ ap (λ (n : ℕ). get_or (set marks number true) n false) same ∙ get_or-set_same marks number true false here
    | inr differ ↦ elim (used_cases rows r k u) [
      | inl before ↦ get_or-set_other marks number k true false differ ∙ (m.marked k within).1 before
      | inr now ↦ absurd (differ (sym now ∙ sym is))
    ]
  ]

-- ---- rows that were read

pub rows_none : (told : List Capability) (bytes : List ℕ) (marks : List Bool) → RowsSo told bytes marks [] marks bytes
rows_none told bytes marks = record {
  numbered = [];
  fit = tt;
  parts = refl;
  rows_are = refl;
  marked = λ before m. subst (AreMarked marks (length told)) (sym (append-nil before)) m;
}

-- one row more
pub rows_on : (told : List Capability) (bytes : List ℕ) (old : List Bool) (rows : List RawValue) (marks : List Bool) (left : List ℕ) (row : RawValue) (number taken : ℕ) → RowsSo told bytes old rows marks left → IsRowInFront told left row number taken
    → RowsSo told bytes old (rows ++ row ∷ []) (set marks number true) (drop taken left)
rows_on told bytes old rows marks left row number taken so next = record {
  numbered = so.numbered ++ next.numbered ∷ [];
  fit = All-append (FitsBelow (length told)) so.numbered (next.numbered ∷ []) so.fit (next.fits, tt);
  parts = parts_on numbered_frame bytes left so.numbered next.numbered taken so.parts next.spelled;
  rows_are =
      ap (λ (l : List RawValue). l ++ row ∷ []) so.rows_are
      ∙ ap (λ (x : RawValue). map (row_among told) so.numbered ++ x ∷ []) next.row_is
      ∙ sym (map-append (row_among told) so.numbered (next.numbered ∷ []));
  marked = λ before m.
      subst (AreMarked (set marks number true) (length told)) (append_assoc before so.numbered (next.numbered ∷ []))
      (marks_on marks (length told) (before ++ so.numbered) next.numbered number (so.marked before m) next.fits.below next.number_is);
}

-- further rows
pub rows_more : (told : List Capability) (bytes : List ℕ) (old : List Bool) (rows : List RawValue) (marks : List Bool) (left : List ℕ) (more : List RawValue) (new : List Bool) (rest : List ℕ) → RowsSo told bytes old rows marks left → RowsSo told left marks more new rest
    → RowsSo told bytes old (rows ++ more) new rest
rows_more told bytes old rows marks left more new rest a b = record {
  numbered = a.numbered ++ b.numbered;
  fit = All-append (FitsBelow (length told)) a.numbered b.numbered a.fit b.fit;
  parts =
      a.parts
      ∙ ap (λ (l : List ℕ). flat_map numbered_frame a.numbered ++ l) b.parts
      ∙ sym (append_assoc (flat_map numbered_frame a.numbered) (flat_map numbered_frame b.numbered) rest)
      ∙ ap (λ (l : List ℕ). l ++ rest) (sym (flat_map-append numbered_frame a.numbered b.numbered));
  rows_are =
      ap (λ (l : List RawValue). l ++ more) a.rows_are
      ∙ ap (λ (l : List RawValue). map (row_among told) a.numbered ++ l) b.rows_are
      ∙ sym (map-append (row_among told) a.numbered b.numbered);
  marked = λ before m. subst (AreMarked new (length told)) (append_assoc before a.numbered b.numbered) (b.marked (before ++ a.numbered) (a.marked before m));
}

-- a row's number has a mark
pub mark_there : (told : List Capability) (marks : List Bool) (left : List ℕ) (row : RawValue) (number taken : ℕ) → length marks ≡ length told → IsRowInFront told left row number taken → number < length marks
mark_there told marks left row number taken long next = omega (arith, next.fits.below, next.number_is, long)

numbered_long : (r : NumberedRow) → 4 ≤ length (numbered_frame r)
numbered_long r = omega (arith, length-append (to_be_bytes w32 (length (numbered_spelling r))) (numbered_spelling r))

frames_long : (rows : List NumberedRow) → length rows ≤ length (flat_map numbered_frame rows)
frames_long [] = omega arith
frames_long (r ∷ rows) = omega (arith, numbered_long r, frames_long rows, length-append (numbered_frame r) (flat_map numbered_frame rows))

rows_short : (told : List Capability) (bytes : List ℕ) (old : List Bool) (rows : List RawValue) (marks : List Bool) (left : List ℕ) (so : RowsSo told bytes old rows marks left) → length rows + length left ≤ length bytes
rows_short told bytes old rows marks left so =
    omega (arith, ap length so.rows_are, length-map so.numbered (row_among told), frames_long so.numbered, ap length so.parts, length-append (flat_map numbered_frame so.numbered) left)

-- a part with a row takes bytes
pub part_two_shorter : (told : List Capability) (bytes : List ℕ) (most : ℕ) (old : List Bool) (rows : List RawValue) (marks : List Bool) (left : List ℕ) → IsPartTwo told bytes most old rows marks left → 0 < length rows → length left < length bytes
part_two_shorter told bytes most old rows marks left p some = omega (arith, some, rows_short told bytes old rows marks left p.so)

-- a part that may have more rows than there are bytes ends where no row stands
pub part_whole : (told : List Capability) (bytes : List ℕ) (most : ℕ) (old : List Bool) (rows : List RawValue) (marks : List Bool) (left : List ℕ) → IsPartTwo told bytes most old rows marks left → length bytes < most → HasNoRow (length told) left
part_whole told bytes most old rows marks left p above = p.ended (omega (arith, above, rows_short told bytes old rows marks left p.so))

-- where a row was read, there is a capability
pub row_told : (told : List Capability) (left : List ℕ) (row : RawValue) (number taken : ℕ) → IsRowInFront told left row number taken → 0 < length told
row_told told left row number taken next = omega (arith, next.fits.below)

numbered_asks : (r : NumberedRow) (rest : List ℕ) → FitsNumbered r → FrameAsks (numbered_frame r ++ rest)
numbered_asks r rest fits =
    let behind = to_be_bytes w32 r.number ++ signature_spelling r.signature in
    rw (framed_again {spell = numbered_spelling} {fits = IsNumberedRow} r rest fits)
    (entry_asks (numbered_spelling r) r.entry behind (entry-reads.again r.entry behind fits.value_fits.entry_fits))

-- a row that was read asked
pub row_asked : (bytes : List ℕ) (r : NumberedRow) (taken : ℕ) → FitsNumbered r → take taken bytes ≡ numbered_frame r → FrameAsks bytes
row_asked bytes r taken fits spelled =
    subst FrameAsks (ap (λ (l : List ℕ). l ++ drop taken bytes) (sym spelled) ∙ take-append-drop taken bytes) (numbered_asks r (drop taken bytes) fits)

-- where a row asks, the first does
asks_by : (told : List Capability) (bytes left : List ℕ) (rows : List NumberedRow) → AllByRecursion (FitsBelow (length told)) rows → bytes ≡ flat_map numbered_frame rows ++ left → FrameAsks left → FrameAsks bytes
asks_by told bytes left [] fit parts asks = subst FrameAsks (sym parts) asks
asks_by told bytes left (r ∷ rows) fit parts asks =
    subst FrameAsks (sym (parts ∙ append_assoc (numbered_frame r) (flat_map numbered_frame rows) left)) (numbered_asks r (flat_map numbered_frame rows ++ left) fit.0.fits)

pub rows_ask : (told : List Capability) (bytes : List ℕ) (old : List Bool) (rows : List RawValue) (marks : List Bool) (left : List ℕ) → RowsSo told bytes old rows marks left → FrameAsks left → FrameAsks bytes
rows_ask told bytes old rows marks left so asks = asks_by told bytes left so.numbered so.fit so.parts asks

-- ---- marks that are all set

all_at : (marks : List Bool) (k : ℕ) → list_all (λ x. x) marks ≡ true → k < length marks → get_or marks k false ≡ true
all_at [] k e below = absurd (omega (arith, below))
all_at (m ∷ marks) zero e below = (and_parts m (list_all (λ x. x) marks) e).0
all_at (m ∷ marks) (suc k) e below = all_at marks k (and_parts m (list_all (λ x. x) marks) e).1 (omega (arith, below))

all_from : (marks : List Bool) → ((k : ℕ) → k < length marks → get_or marks k false ≡ true) → list_all (λ x. x) marks ≡ true
all_from [] f = refl
all_from (m ∷ marks) f = and_from m (list_all (λ x. x) marks) (f 0 (omega arith)) (all_from marks (λ k below. f (suc k) (omega (arith, below))))

pub used_from_set : (marks : List Bool) (count : ℕ) (rows : List NumberedRow) → AreMarked marks count rows → list_all (λ x. x) marks ≡ true → AreAllTold count rows
used_from_set marks count rows m e = λ k below. (m.marked k below).0 (all_at marks k e (omega (arith, below, m.long)))

pub set_from_used : (marks : List Bool) (count : ℕ) (rows : List NumberedRow) → AreMarked marks count rows → AreAllTold count rows → list_all (λ x. x) marks ≡ true
set_from_used marks count rows m u = all_from marks (λ k below. let within : k < count = omega (arith, below, m.long) in (m.marked k within).1 (u k within))

-- ---- the next capability

lt_tells : (o : Ordering) (t : Bool) → t ≡ is_lt o → IsTrue t ↔ (o ≡ Less)
lt_tells Less true e = (λ yes. refl, λ less. refl)
lt_tells Less false e = absurd cc
lt_tells Equal true e = absurd cc
lt_tells Equal false e = (λ yes. absurd cc, λ less. absurd cc)
lt_tells Greater true e = absurd cc
lt_tells Greater false e = (λ yes. absurd cc, λ less. absurd cc)

-- it is told whether it stands above the last
pub above_tells : (told : List Capability) (last next : Capability) (a b : List ℕ) (o : Ordering) (t : Bool) → AreRising told → EndsIn told last → a ≡ capability_spelling last → b ≡ capability_spelling next → o ≡ bytes_cmp a b → t ≡ is_lt o
    → IsTrue t ↔ AreRising (told ++ next ∷ [])
above_tells told last next a b o t up end a_is b_is o_is t_is =
    let by = rising_by_last told last next end nat_list_cmp_total up in
    let tells = lt_tells o t t_is in
    let compared : o ≡ bytes_cmp (capability_spelling last) (capability_spelling next) = o_is ∙ ap (λ (l : List ℕ). bytes_cmp l b) a_is ∙ ap (bytes_cmp (capability_spelling last)) b_is in (
      λ yes. by.0 (sym compared ∙ tells.0 yes),
      λ all. tells.1 (compared ∙ by.1 all),
    )

pub above_none : (told : List Capability) (next : Capability) → told ≡ [] → IsTrue true ↔ AreRising (told ++ next ∷ [])
above_none told next none = (λ yes. subst (λ (l : List Capability). AreRising (l ++ next ∷ [])) (sym none) (rising_one next), λ all. refl)

-- ---- the next row

-- a row in front that tells no capability among those told is the only one that could stand there
pub no_row_at : (told : List Capability) (bytes : List ℕ) (r : NumberedRow) (taken : ℕ) → FitsNumbered r → take taken bytes ≡ numbered_frame r → length told ≤ r.number → HasNoRow (length told) bytes
no_row_at told bytes r taken fits spelled above s rest f parts =
    let here : numbered_frame r ++ drop taken bytes ≡ numbered_frame s ++ rest = ap (λ (l : List ℕ). l ++ drop taken bytes) (sym spelled) ∙ take-append-drop taken bytes ∙ parts in
    let same = framed_form numbered-reads r s (drop taken bytes) rest fits f.fits here in
    omega (arith, above, f.below, ap (λ (x : NumberedRow). x.number) same.0)

-- ---- what the reader answers

-- a spelling behind its length
pub spelled_there : (bytes : List ℕ) (c : Capability) (taken : ℕ) → take taken bytes ≡ capability_frame c → take (taken - 4) (drop 4 bytes) ≡ capability_spelling c
spelled_there bytes c taken spelled = between_is bytes 4 taken ∙ ap (λ (l : List ℕ). drop 4 l) spelled

-- a capability in front that does not stand above those told is the only one that could stand there
pub none_higher : (told : List Capability) (bytes : List ℕ) (c : Capability) (taken : ℕ) (above : Bool) → FitsCapability c → take taken bytes ≡ capability_frame c → above ≡ false → IsTrue above ↔ AreRising (told ++ c ∷ []) → HasNoHigher told bytes
none_higher told bytes c taken above fits spelled below tells d rest f up parts =
    let here : capability_frame c ++ drop taken bytes ≡ capability_frame d ++ rest = ap (λ (l : List ℕ). l ++ drop taken bytes) (sym spelled) ∙ take-append-drop taken bytes ∙ parts in
    let same = framed_form capability-reads c d (drop taken bytes) rest fits f here in
    false_not_true (sym below ∙ tells.1 (subst (λ (x : Capability). AreRising (told ++ x ∷ [])) (sym same.0) up))

-- behind a head
pub head_asks : (bytes : List ℕ) (h : ImageHead) (behind : List ℕ) → IsImageHead h → bytes ≡ head_two_spelling h ++ behind → FirstIsWhole behind → ImageTwoAsks bytes
head_asks bytes h behind fits parts whole = rw (ap head_two_at parts ∙ head-reads.again h behind fits) whole

rows_some : (told : List Capability) (numbered : List NumberedRow) (rows : List RawValue) → AllByRecursion (FitsBelow (length told)) numbered → rows ≡ map (row_among told) numbered → 0 < length rows → 0 < length told
rows_some told [] rows fit is some = absurd (omega (arith, some, ap length is))
rows_some told (r ∷ numbered) rows fit is some = omega (arith, fit.0.below)

-- an image with rows asked
pub image_asks : (bytes n : List ℕ) (rows : List RawValue) → IsImageTwo bytes n rows → 0 < length rows → ImageTwoAsks bytes
image_asks bytes n rows i some =
    let behind = flat_map capability_frame i.told ++ (flat_map numbered_frame i.numbered ++ trailer (length i.numbered)) in
    let h : ImageHead = record { namespace = n; count = length i.told } in
    head_asks bytes h behind (record { key = i.key; count_fits = i.told_count }) i.spelled
    (some_told behind i.told (flat_map numbered_frame i.numbered ++ trailer (length i.numbered)) i.told_fit refl (rows_some i.told i.numbered rows i.fit i.rows_are some))

module _ (bytes : List ℕ) (h : ImageHead) (behind : List ℕ) (told : List Capability) (middle : List ℕ) (old : List Bool) (rows : List RawValue) (marks : List Bool) (left : List ℕ)
    (fits : IsImageHead h) (parts : bytes ≡ head_two_spelling h ++ behind) (are : AreToldInFront behind h.count told middle) (all : length told ≡ h.count) (unset : AreMarked old (length told) []) (so : RowsSo told middle old rows marks left) where
  as_many : length rows ≡ length so.numbered
  as_many = ap length so.rows_are ∙ length-map so.numbered (row_among told)

  -- all was read to the end
  pub image_from : (flags : List Bool) (count : ℕ) → flags ≡ marks → count ≡ length rows → (count < 2 ^ 32) × (left ≡ trailer count) × (list_all (λ x. x) flags ≡ true) → IsImageTwo bytes h.namespace rows
  image_from flags count flags_are count_is e = record {
    told = told;
    numbered = so.numbered;
    key = fits.key;
    told_count = omega (arith, fits.count_fits, all);
    told_fit = are.fit;
    up = are.up;
    fit = so.fit;
    used = used_from_set marks (length told) so.numbered (so.marked [] unset) (sym (ap (list_all (λ x. x)) flags_are) ∙ e.2);
    count = omega (arith, e.0, count_is, as_many);
    spelled =
        parts
        ∙ ap (λ (k : ℕ). head_two h.namespace k ++ behind) (sym all)
        ∙ ap (λ (l : List ℕ). head_two h.namespace (length told) ++ l) are.parts
        ∙ ap (λ (l : List ℕ). head_two h.namespace (length told) ++ (flat_map capability_frame told ++ l)) so.parts
        ∙ ap (λ (l : List ℕ). head_two h.namespace (length told) ++ (flat_map capability_frame told ++ (flat_map numbered_frame so.numbered ++ l))) (e.1 ∙ ap trailer (count_is ∙ as_many));
    rows_are = so.rows_are;
  }

  -- what is left is not the end
  pub wrong_from : (flags : List Bool) (count : ℕ) (e : End ImageRefusal) → HasNoRow (length told) left → flags ≡ marks → count ≡ length rows → (count < 2 ^ 32 → left ≡ trailer count → list_all (λ x. x) flags ≡ true → ⊥) → GoesBadAt bytes left e → ReadsRowsTwo bytes (Err e)
  wrong_from flags count e none_there flags_are count_is none bad =
      let same : count ≡ length so.numbered = count_is ∙ as_many in
      let stop : RowsStopAt bytes bad.at = record {
        head = h;
        behind = behind;
        told = told;
        middle = middle;
        numbered = so.numbered;
        left = left;
        head_fits = fits;
        parts = parts;
        are_told = are;
        all = all;
        are_numbered = record { fit = so.fit; parts = so.parts; no_row = none_there };
        no_end = λ few used is. none (omega (arith, few, same)) (is ∙ ap trailer (sym same)) (ap (list_all (λ x. x)) flags_are ∙ set_from_used marks (length told) so.numbered (so.marked [] unset) used);
        place = bad.place;
      } in
      subst (λ (x : End ImageRefusal). ReadsRowsTwo bytes (Err x)) (sym bad.is) (inr (inr stop))

-- fewer capabilities are told than are counted
pub too_few : (bytes : List ℕ) (h : ImageHead) (behind : List ℕ) (told : List Capability) (left : List ℕ) (e : End ImageRefusal) → IsImageHead h → bytes ≡ head_two_spelling h ++ behind → AreToldInFront behind h.count told left → length told < h.count → GoesBadAt bytes left e
    → ReadsRowsTwo bytes (Err e)
too_few bytes h behind told left e fits parts are few bad =
    let stop : ToldStopAt bytes bad.at = record { head = h; behind = behind; told = told; left = left; head_fits = fits; parts = parts; are_told = are; few = few; place = bad.place } in
    subst (λ (x : End ImageRefusal). ReadsRowsTwo bytes (Err x)) (sym bad.is) (inr (inl stop))
