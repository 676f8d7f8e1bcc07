-- Notes that are given one after the other.
use Rattle.std.proofs.Common.{◌≡◌, ◌<◌, ℕ, ◌+◌, Bool, true, false, cond, List, [], ◌∷◌, ◌++◌, length, take, drop, get_or, Option, Some, None, refl, sym, ap, subst, ◌∙◌, inl, inr, ⊎_elim, true≢false, add-zero, append-nil, append_assoc, arith, length-take, take-append-drop}
use Rattle.std.proofs.lemmas.List.{take_more, get_or-map, length-map}
use Rattle.willow_outside.specs.Counts.{HasRisen}
use Rattle.willow_entry.specs.declared.entry.Entry.{Entry}
use Rattle.willow_entry.specs.declared.row.LogRow.{LogRow}
use Rattle.willow_entry.specs.Row.{RowValue}
use Rattle.willow_area.specs.declared.area.Area.{Area}
use Rattle.sub_hub.specs.Heard.{Note, in_both, note_of, notes_from, slice_rows}
use Rattle.sub_hub.specs.Watchers.{WatcherFacts, with_notes, KeepsNote, CountsLeave, HearsEach, HearsUntil, HearsNotes, IsToldOf}
use Rattle.sub_hub.specs.declared.watcher.Wish.{Wish}
use Rattle.sub_hub.specs.declared.watcher.Wish.TheVariants.{Stay, Leave}

-- ---- told notes that grow

with_none : (told : Option (List Note)) → told ≡ with_notes [] told
with_none None = refl
with_none (Some xs) = ap (λ (l : List Note). Some l) (sym (append-nil xs))

with_both : (told : Option (List Note)) (xs ys : List Note) → with_notes ys (with_notes xs told) ≡ with_notes (xs ++ ys) told
with_both None xs ys = refl
with_both (Some told) xs ys = ap (λ (l : List Note). Some l) (append_assoc told xs ys)

grown_on : (a b c : Option (List Note)) (xs ys : List Note) → b ≡ with_notes xs a → c ≡ with_notes ys b → c ≡ with_notes (xs ++ ys) a
grown_on a b c xs ys p q = q ∙ ap (with_notes ys) p ∙ with_both a xs ys

-- ---- several notes

pub hears_nothing : (f : WatcherFacts) → HearsEach f f []
hears_nothing f = record { kept = with_none f.heard; stays = refl }

pub hears_both : (a b c : WatcherFacts) (xs ys : List Note) → HearsEach a b xs → HearsEach b c ys → HearsEach a c (xs ++ ys)
hears_both a b c xs ys p q = record { kept = grown_on a.heard b.heard c.heard xs ys p.kept q.kept; stays = q.stays ∙ p.stays }

pub hears_then_leaves : (a b c : WatcherFacts) (xs ys : List Note) → HearsEach a b xs → HearsUntil b c ys → HearsUntil a c (xs ++ ys)
hears_then_leaves a b c xs ys p q =
    record {
      front = xs ++ q.front;
      last = q.last;
      behind = q.behind;
      parts = ap (λ (l : List Note). xs ++ l) q.parts ∙ sym (append_assoc xs q.front (q.last ∷ q.behind));
      kept =
          ⊎_elim
          (λ e. inl (grown_on a.heard b.heard c.heard xs (q.front ++ q.last ∷ []) p.kept e ∙ ap (λ (l : List Note). with_notes l a.heard) (sym (append_assoc xs q.front (q.last ∷ [])))))
          (λ e. inr (grown_on a.heard b.heard c.heard xs q.front p.kept e))
          q.kept;
      leaves = subst (λ (n : ℕ). HasRisen n c.leaves) p.stays q.leaves;
    }

pub leaves_before : (a b : WatcherFacts) (xs ys : List Note) → HearsUntil a b xs → HearsUntil a b (xs ++ ys)
leaves_before a b xs ys p =
    record {
      front = p.front;
      last = p.last;
      behind = p.behind ++ ys;
      parts = ap (λ (l : List Note). l ++ ys) p.parts ∙ append_assoc p.front (p.last ∷ p.behind) ys;
      kept = p.kept;
      leaves = p.leaves;
    }

pub told_nothing : (b : Bool) (f : WatcherFacts) → IsToldOf b b f f []
told_nothing true f = (refl, refl)
told_nothing false f = hears_nothing f

pub told_both : (b b' b'' : Bool) (f f' f'' : WatcherFacts) (xs ys : List Note) → IsToldOf b b' f f' xs → IsToldOf b' b'' f' f'' ys → IsToldOf b b'' f f'' (xs ++ ys)
told_both true true b'' f f' f'' xs ys p q = (q.0, q.1 ∙ p.1)
told_both true false b'' f f' f'' xs ys p q = absurd (true≢false (sym p.0))
told_both false true b'' f f' f'' xs ys p q = subst (λ (b : Bool). IsToldOf false b f f'' (xs ++ ys)) (sym q.0) (subst (λ (g : WatcherFacts). HearsUntil f g (xs ++ ys)) (sym q.1) (leaves_before f f' xs ys p))
told_both false false true f f' f'' xs ys p q = hears_then_leaves f f' f'' xs ys p q
told_both false false false f f' f'' xs ys p q = hears_both f f' f'' xs ys p q

-- ---- one note

one_note : (n : Note) (old new : WatcherFacts) (wish : Wish) → KeepsNote old.heard new.heard n wish → CountsLeave old.leaves new.leaves wish → HearsNotes old new (n ∷ []) wish
one_note n old new Stay k c = record { kept = k; stays = c }
one_note n old new Leave k c =
    record {
      front = [];
      last = n;
      behind = [];
      parts = refl;
      kept = ⊎_elim (λ e. inl e) (λ e. inr (e ∙ with_none old.heard)) k;
      leaves = c;
    }

is_noted : (own served : Area) (at : ℕ) (e : Entry) → in_both own served e ≡ true → record { at = at; entry = e } ∷ [] ≡ note_of own served at e
is_noted own served at e is = ap (λ (b : Bool). cond b (record { at = at; entry = e } ∷ []) []) (sym is)

pub hears_note : (own served : Area) (at : ℕ) (e : Entry) (old new : WatcherFacts) (wish : Wish) → in_both own served e ≡ true → KeepsNote old.heard new.heard (record { at = at; entry = e }) wish → CountsLeave old.leaves new.leaves wish → HearsNotes old new (note_of own served at e) wish
hears_note own served at e old new wish is k c = subst (λ (l : List Note). HearsNotes old new l wish) (is_noted own served at e is) (one_note (record { at = at; entry = e }) old new wish k c)

pub hears_no_note : (own served : Area) (at : ℕ) (e : Entry) (f : WatcherFacts) → in_both own served e ≡ false → HearsNotes f f (note_of own served at e) Stay
hears_no_note own served at e f is = subst (λ (l : List Note). HearsEach f f l) (ap (λ (b : Bool). cond b (record { at = at; entry = e } ∷ []) []) (sym is)) (hears_nothing f)

-- ---- the notes of a slice

pub heard_behind : (own served : Area) (at : ℕ) (xs ys : List RowValue) → notes_from own served at (xs ++ ys) ≡ notes_from own served at xs ++ notes_from own served (at + length xs) ys
heard_behind own served at [] ys = ap (λ k. notes_from own served k ys) (sym (add-zero at))
heard_behind own served at (r ∷ xs) ys =
    let shift : at + 1 + length xs ≡ at + length (r ∷ xs) = omega arith in
    ap (λ (l : List Note). note_of own served at r.entry ++ l) (heard_behind own served (at + 1) xs ys ∙ ap (λ k. notes_from own served (at + 1) xs ++ notes_from own served k ys) shift)
    ∙ sym (append_assoc (note_of own served at r.entry) (notes_from own served (at + 1) xs) (notes_from own served (at + length (r ∷ xs)) ys))

module _ {R : Type 0} (value : R → RowValue) (own served : Area) (front : ℕ) (slice : List (LogRow R)) (i : ℕ) (d : LogRow R) where
  -- the notes of one row more
  heard_more : i < length slice → notes_from own served front (take (i + 1) (slice_rows value slice)) ≡ notes_from own served front (take i (slice_rows value slice)) ++ note_of own served (front + i) (value (get_or slice i d).row).entry
  heard_more within =
      let rows = slice_rows value slice in
      let r = value (get_or slice i d).row in
      let many : length rows ≡ length slice = length-map slice (λ (l : LogRow R). value l.row) in
      let more : take (i + 1) rows ≡ take i rows ++ r ∷ [] = take_more rows i r (omega (arith, many)) ∙ ap (λ (x : RowValue). take i rows ++ x ∷ []) (get_or-map (λ (l : LogRow R). value l.row) slice i d r within) in
      let at : front + length (take i rows) ≡ front + i = ap (λ k. front + k) (length-take-of rows (omega (arith, many))) in
      ap (notes_from own served front) more
      ∙ heard_behind own served front (take i rows) (r ∷ [])
      ∙ ap (λ k. notes_from own served front (take i rows) ++ (note_of own served k r.entry ++ [])) at
      ∙ ap (λ (l : List Note). notes_from own served front (take i rows) ++ l) (append-nil (note_of own served (front + i) r.entry))
    where
      length-take-of : (xs : List RowValue) → i < length xs → length (take i xs) ≡ i
      length-take-of xs lt = omega (arith, length-take i xs)

  pub goes_on : (old mid new : WatcherFacts) → i < length slice → HearsEach old mid (notes_from own served front (take i (slice_rows value slice))) → HearsEach mid new (note_of own served (front + i) (value (get_or slice i d).row).entry) → HearsEach old new (notes_from own served front (take (i + 1) (slice_rows value slice)))
  goes_on old mid new within p q = subst (λ (l : List Note). HearsEach old new l) (sym (heard_more within)) (hears_both old mid new _ _ p q)

  pub stops : (old mid new : WatcherFacts) → i < length slice → HearsEach old mid (notes_from own served front (take i (slice_rows value slice))) → HearsUntil mid new (note_of own served (front + i) (value (get_or slice i d).row).entry) → HearsUntil old new (notes_from own served front (slice_rows value slice))
  stops old mid new within p q =
      let rows = slice_rows value slice in
      let parts : notes_from own served front (take (i + 1) rows) ++ notes_from own served (front + length (take (i + 1) rows)) (drop (i + 1) rows) ≡ notes_from own served front rows =
      sym (heard_behind own served front (take (i + 1) rows) (drop (i + 1) rows)) ∙ ap (notes_from own served front) (take-append-drop (i + 1) rows) in
      subst (λ (l : List Note). HearsUntil old new l) parts (leaves_before old new _ _ (subst (λ (l : List Note). HearsUntil old new l) (sym (heard_more within)) (hears_then_leaves old mid new _ _ p q)))
