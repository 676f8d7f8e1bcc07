-- The rows of a log that are fed, one after the other, and their bytes.
use Rattle.std.proofs.Common.{◌≡◌, ◌<◌, ◌≤◌, ℕ, ◌+◌, ◌-◌, List, [], ◌∷◌, ◌++◌, length, map, filter, take, drop, get_or, sym, ap, ◌∙◌, append_assoc, arith, length-append, length-take}
use Rattle.std.proofs.lemmas.List.{take_more, length-map, get_or-map, map-append, length-drop, take_all, drop-map, take-append-drop}
use Rattle.std.proofs.lemmas.List.Elements.{filter-append}
use Rattle.std.proofs.lemmas.List.Concat.{flat_map-append}
use Rattle.std.specs.List.{flat_map}
use Rattle.cap_codec.specs.Rows.{RawValue, FitsFrame, row_of}
use Rattle.mc_cap.specs.Forms.{capability_spelling}
use Rattle.mc_cap.specs.Signature.{signature_spelling}
use Rattle.willow_entry.specs.EntryForm.{entry_spelling}
use Rattle.willow_entry.specs.Frame.{HasFrame}
use Rattle.willow_entry.specs.RowBody.{row_body}
use Rattle.willow_entry.specs.Row.{RowValue}
use Rattle.willow_entry.specs.LogRow.{LogValue, log_value}
use Rattle.willow_entry.specs.declared.row.LogRow.{LogRow}
use Rattle.willow_area.specs.declared.area.Area.{Area}
use Rattle.ns_state.specs.Log.{logged}
use Rattle.session_rules.specs.Rounds.{IsFront}
use Rattle.session_rules.proofs.Growing.{front_by}
use Rattle.sync_follow.specs.Feeds.{is_fed, fed_of, fed, fed_row, feed_end, feed_spelling}

pub has_frame : (r : RawValue) → FitsFrame r → HasFrame (row_of r)
unfolding row_body
has_frame r fits = omega (arith, fits.short, ap length (append_assoc (entry_spelling r.entry) (capability_spelling r.token.capability) (signature_spelling r.token.signature)))

module _ (area : Area) (own : ℕ) where
  pub fed_joined : (xs ys : List LogValue) → fed_of area own (xs ++ ys) ≡ fed_of area own xs ++ fed_of area own ys
  fed_joined xs ys = ap (map (λ (l : LogValue). l.row)) (filter-append (is_fed area own) xs ys) ∙ map-append (λ (l : LogValue). l.row) (filter (is_fed area own) xs) (filter (is_fed area own) ys)

  abbrev pub fed_bytes : List LogValue → List ℕ
  fed_bytes rows = flat_map fed_row (fed_of area own rows)

  -- the rows of one more
  fed_more : (rows : List LogValue) (i : ℕ) (d : LogValue) → i < length rows → fed_of area own (take (i + 1) rows) ≡ fed_of area own (take i rows) ++ fed_of area own (get_or rows i d ∷ [])
  fed_more rows i d within = ap (fed_of area own) (take_more rows i d within) ∙ fed_joined (take i rows) (get_or rows i d ∷ [])

  bytes_joined : (xs ys : List LogValue) → fed_bytes (xs ++ ys) ≡ fed_bytes xs ++ fed_bytes ys
  bytes_joined xs ys = ap (flat_map fed_row) (fed_joined xs ys) ∙ flat_map-append fed_row (fed_of area own xs) (fed_of area own ys)

  -- the bytes of the first rows stand in front of a feed
  pub front_of_feed : (rows : List LogValue) (i : ℕ) → IsFront (fed_bytes (take i rows)) (feed_spelling (fed_of area own rows))
  front_of_feed rows i =
      let end = feed_end (length (fed_of area own rows)) in
      front_by (fed_bytes (take i rows)) (feed_spelling (fed_of area own rows)) (fed_bytes (drop i rows) ++ end)
      (ap (λ (l : List LogValue). fed_bytes l ++ end) (sym (take-append-drop i rows)) ∙ ap (λ (l : List ℕ). l ++ end) (bytes_joined (take i rows) (drop i rows)) ∙ append_assoc (fed_bytes (take i rows)) (fed_bytes (drop i rows)) end)

-- ---- one row more, seen through two views

module _ {A B : Type 0} (g : A → B) (f : B → LogValue) (area : Area) (own : ℕ) (slice : List A) (i : ℕ) (x : A) (within : i < length slice) (is : x ≡ get_or slice i x) where
  one_seen : get_or (map f (map g slice)) i (f (g x)) ≡ f (g x)
  one_seen = get_or-map f (map g slice) i (g x) (f (g x)) (omega (arith, within, length-map slice g)) ∙ ap f (get_or-map g slice i x (g x) within) ∙ ap (λ (y : A). f (g y)) (sym is)

  more_seen : fed_of area own (take (i + 1) (map f (map g slice))) ≡ fed_of area own (take i (map f (map g slice))) ++ fed_of area own (f (g x) ∷ [])
  more_seen =
      fed_more area own (map f (map g slice)) i (f (g x)) (omega (arith, within, length-map slice g, length-map (map g slice) f))
      ∙ ap (λ (v : LogValue). fed_of area own (take i (map f (map g slice))) ++ fed_of area own (v ∷ [])) one_seen

  pub bytes_on : fed_bytes area own (take (i + 1) (map f (map g slice))) ≡ fed_bytes area own (take i (map f (map g slice))) ++ fed_bytes area own (f (g x) ∷ [])
  bytes_on = ap (flat_map fed_row) more_seen ∙ flat_map-append fed_row (fed_of area own (take i (map f (map g slice)))) (fed_of area own (f (g x) ∷ []))

  pub count_on : (count more : ℕ) → count ≡ length (fed_of area own (take i (map f (map g slice)))) → more ≡ length (fed_of area own (f (g x) ∷ [])) → count + more ≡ length (fed_of area own (take (i + 1) (map f (map g slice))))
  count_on count more p q = omega (arith, p, q, ap length more_seen, length-append (fed_of area own (take i (map f (map g slice)))) (fed_of area own (f (g x) ∷ [])))

-- all of them
pub all_seen_of : {A B : Type 0} (g : A → B) (f : B → LogValue) (slice : List A) (i : ℕ) → length slice ≤ i → take i (map f (map g slice)) ≡ map f (map g slice)
all_seen_of g f slice i le = take_all i (map f (map g slice)) (omega (arith, le, length-map slice g, length-map (map g slice) f))

-- ---- the rows that are read of a log

pub rows_few : {A B : Type 0} (g : A → B) (rows : List A) (n : ℕ) (xs : List B) → map g rows ≡ take n xs → length rows ≤ n
rows_few g rows n xs e = omega (arith, length-map rows g, ap length e, length-take n xs)

-- the rows that are fed of those that are read from a position on are those of the log up to its end
pub fed_is : {R : Type 0} (value : R → RowValue) (area : Area) (own from most : ℕ) (seen rows : List (LogRow R)) → rows ≡ take most (drop from seen) → length seen ≤ most → fed_of area own (logged value rows) ≡ fed (logged value seen) area own from (length seen)
fed_is {R} value area own from most seen rows e few =
    let f = log_value value in
    let all : rows ≡ drop from seen = e ∙ take_all most (drop from seen) (omega (arith, few, length-drop from seen)) in
    let log = map f seen in
    ap (λ (l : List (LogRow R)). fed_of area own (map f l)) all
    ∙ ap (fed_of area own) (sym (drop-map f from seen) ∙ sym (take_all (length seen - from) (drop from log) (omega (arith, length-drop from log, length-map seen f))))

-- the bytes of all of them, and the end behind them
pub spelled_whole : {A B : Type 0} (g : A → B) (f : B → LogValue) (area : Area) (own : ℕ) (slice : List A) (i : ℕ) → length slice ≤ i → (count : ℕ) → count ≡ length (fed_of area own (take i (map f (map g slice))))
    → fed_bytes area own (take i (map f (map g slice))) ++ feed_end count ≡ feed_spelling (fed_of area own (map f (map g slice)))
spelled_whole g f area own slice i le count is =
    ap (λ n. fed_bytes area own (take i (map f (map g slice))) ++ feed_end n) is
    ∙ ap (λ l. feed_spelling (fed_of area own l)) (all_seen_of g f slice i le)

pub count_whole : {A B : Type 0} (g : A → B) (f : B → LogValue) (area : Area) (own : ℕ) (slice : List A) (i : ℕ) → length slice ≤ i → (count : ℕ) → count ≡ length (fed_of area own (take i (map f (map g slice)))) → count ≡ length (fed_of area own (map f (map g slice)))
count_whole g f area own slice i le count is = is ∙ ap (λ l. length (fed_of area own l)) (all_seen_of g f slice i le)
