-- Images whose rows came into a log a part at a time.
use Rattle.std.proofs.Common.{◌≡◌, inl, inr, ℕ, ◌≤◌, ◌<◌, ◌^◌, Bool, true, false, cond, List, [], ◌∷◌, ◌++◌, length, filter, Option, Some, None, refl, sym, ap, ◌∙◌, subst, append-nil, arith}
use Rattle.std.specs.List.{last_or, list_all}
use Rattle.std.proofs.lemmas.List.{length-map, map-append}
use Rattle.willow_entry.specs.Row.{RowValue}
use Rattle.mc_cap.specs.declared.capability.Capability.{Capability}
use Rattle.cap_codec.specs.Rows.{RawValue, row_of}
use Rattle.peer_image.specs.declared.known.ImageHead.{ImageHead}
use Rattle.peer_image.specs.Fronts.{at_prefixes_of, last_fronts}
use Rattle.peer_image.specs.Image.{trailer}
use Rattle.peer_image.specs.ImageOneReading.{IsFront}
use Rattle.peer_image.specs.ImageReading.{raw_rows}
use Rattle.peer_image.specs.Order.{order_refusal, first_fall, pruned_after, IsInnerRising}
use Rattle.peer_image.specs.Parts.{IsHead}
use Rattle.peer_image.proofs.InOrder.{order_decides}
use Rattle.peer_image.proofs.LastFronts.{fronts_decide_order, fronts_go_on}
use Rattle.peer_image.proofs.ReadParts.{front_none, front_on}
use Rattle.peer_image.proofs.TwoParts.{IsFrontRows, front_rows_on, image_of_rows}
use Rattle.peer_image.proofs.OneStops.{image_of_front}
use Rattle.peer_rows.specs.declared.parts.TheConstants.{PART}
use Rattle.peer_rows.specs.declared.parts.Taken.{Taken}
use Rattle.peer_rows.specs.Images.{IsImageInOrder}
use Rattle.peer_rows.specs.Stored.{IsWholeLog}
use Rattle.peer_rows.specs.Parts.{HasTakenPart, HasTakenPartTwo, HasTakenRows, HaveFronts, IsLoggedImage}
use Rattle.peer_rows.proofs.Offered.{IsLogOf-start, no_counts}

-- ---- fronts

filtered_few : {X : Type 0} (p : X → Bool) (xs : List X) → length (filter p xs) ≤ length xs
filtered_few p [] = omega arith
filtered_few {X} p (x ∷ xs) = split (p x) (filtered_few p xs) where
  split : (b : Bool) → length (filter p xs) ≤ length xs → length (cond b (x ∷ filter p xs) (filter p xs)) ≤ length (x ∷ xs)
  split true few = omega (arith, few)
  split false few = omega (arith, few)

fronts_few : (last : Option RowValue) (rows : List RowValue) → length (at_prefixes_of last rows) ≤ length rows
fronts_few None rows = omega arith
fronts_few (Some last) rows = filtered_few _ rows

none_in_order : order_refusal [] ≡ None
unfolding first_fall pruned_after
none_in_order = refl

-- rows in order rise
pub in_order_rise : (rows : List RowValue) → order_refusal rows ≡ None → IsInnerRising rows
in_order_rise rows order = ((order_decides rows).0 order).rising

module _ (rows fronts : List RawValue) (h : HaveFronts rows fronts) where
  -- they are not more than the rows
  pub few_fronts : length fronts ≤ length rows
  few_fronts = omega (arith, ap length h.are_fronts, fronts_few (last_or None (raw_rows rows)) (raw_rows rows), length-map fronts row_of, length-map rows row_of)

  -- and in order as these are
  pub fronts_in_order : order_refusal (raw_rows fronts) ≡ None
  fronts_in_order =
      let whole = subst (λ (l : List RowValue). order_refusal l ≡ None) (sym (append-nil (raw_rows rows))) h.in_order in
      ap order_refusal (h.are_fronts ∙ sym (append-nil (last_fronts (raw_rows rows)))) ∙ (fronts_decide_order (raw_rows rows) [] h.in_order).0 whole

  -- rows that are in order behind them go on, and the fronts of all are found among these
  pub fronts_on : (more fronts' : List RawValue) → order_refusal (raw_rows fronts ++ raw_rows more) ≡ None → raw_rows fronts' ≡ last_fronts (raw_rows fronts ++ raw_rows more) → HaveFronts (rows ++ more) fronts'
  fronts_on more fronts' order are =
      let same = map-append row_of rows more in
      let behind : order_refusal (last_fronts (raw_rows rows) ++ raw_rows more) ≡ None = subst (λ (l : List RowValue). order_refusal (l ++ raw_rows more) ≡ None) h.are_fronts order in
      let all = (fronts_decide_order (raw_rows rows) (raw_rows more) h.in_order).1 behind in
      record {
        in_order = ap order_refusal same ∙ all;
        are_fronts = are ∙ ap (λ (l : List RowValue). last_fronts (l ++ raw_rows more)) h.are_fronts ∙ sym (fronts_go_on (raw_rows rows) (raw_rows more) all) ∙ sym (ap last_fronts same);
      }

  -- where all are in order, the fronts and the others rise
  pub fronts_rise : (more : List RawValue) → order_refusal (raw_rows (rows ++ more)) ≡ None → IsInnerRising (raw_rows fronts ++ raw_rows more)
  fronts_rise more order =
      let ahead = (fronts_decide_order (raw_rows rows) (raw_rows more) h.in_order).0 (ap order_refusal (sym (map-append row_of rows more)) ∙ order) in
      in_order_rise (raw_rows fronts ++ raw_rows more) (ap (λ (l : List RowValue). order_refusal (l ++ raw_rows more)) h.are_fronts ∙ ahead)

pub no_fronts : (fronts : List RawValue) → fronts ≡ [] → HaveFronts [] fronts
no_fronts fronts none = record { in_order = none_in_order; are_fronts = ap raw_rows none }

-- ---- parts

-- the image begins with rows that were taken, of the namespace that the checker judges in, and these bytes are left
pub record HasReadSome (bytes judged_in : List ℕ) (taken : Taken) (left : List ℕ) : Type 0 where
  pub namespace : List ℕ
  pub seen : List RawValue
  pub front : IsFront bytes namespace seen left
  pub all_taken : HasTakenRows namespace seen taken
  pub checks : judged_in ≡ namespace

pub read_none : (bytes n left judged_in : List ℕ) (taken : Taken) → IsHead bytes n left → judged_in ≡ n → taken.log.kept ≡ record { namespace = n; log = [] } → taken.log.counts ≡ no_counts → taken.fronts.items ≡ [] → HasReadSome bytes judged_in taken left
read_none bytes n left judged_in taken head checks empty counts none = record {
  namespace = n;
  seen = [];
  front = front_none bytes n left head;
  all_taken = record { is_log = IsLogOf-start n taken.log empty counts; fits = rw counts (omega arith); fronts = no_fronts taken.fronts.items none };
  checks = checks;
}

-- one part more
pub read_on : (bytes judged_in judged_in' : List ℕ) (taken taken' : Taken) (left rest : List ℕ) (h : HasReadSome bytes judged_in taken left) → judged_in' ≡ judged_in → HasTakenPart h.namespace h.seen left rest taken'
    → HasReadSome bytes judged_in' taken' rest
read_on bytes judged_in judged_in' taken taken' left rest h same part = record {
  namespace = h.namespace;
  seen = h.seen ++ part.rows;
  front = front_on bytes h.namespace h.seen left PART part.rows rest h.front part.part;
  all_taken = part.all_taken;
  checks = same ∙ h.checks;
}

-- where its end is left, all is read
pub read_whole : (bytes judged_in left : List ℕ) (taken : Taken) (many : ℕ) → HasReadSome bytes judged_in taken left → many ≡ taken.log.counts.rows → many < 2 ^ 32 → left ≡ trailer many → IsLoggedImage bytes taken.log
read_whole bytes judged_in left taken many h counted few ends =
    let log = h.all_taken.is_log in
    let long : many ≡ length h.seen = counted ∙ log.counted.all in
    let here : h.namespace ≡ taken.log.kept.namespace = sym log.of_namespace in
    record {
      rows = h.seen;
      is_image = subst (λ (n : List ℕ). IsImageInOrder bytes n h.seen) here
          (record { is_image = inr (image_of_front bytes h.namespace h.seen left h.front (omega (arith, few, long)) (ends ∙ ap trailer long)); in_order = h.all_taken.fronts.in_order });
      whole = subst (λ (n : List ℕ). IsWholeLog n h.seen taken.log) here
          (record { is_log = log; fits_log = omega (arith, h.all_taken.fits, log.counted.stored) });
    }

-- ---- parts of an image of version 2

-- it begins with rows that were taken, in the namespace that the checker judges in; their capabilities are marked, and these
-- bytes are left
pub record HasReadSomeTwo (bytes judged_in : List ℕ) (head : ImageHead) (told : List Capability) (marks : List Bool) (taken : Taken) (left : List ℕ) : Type 0 where
  pub seen : List RawValue
  pub front : IsFrontRows bytes head told seen marks left
  pub all_taken : HasTakenRows head.namespace seen taken
  pub checks : judged_in ≡ head.namespace

pub read_none_two : (bytes judged_in : List ℕ) (head : ImageHead) (told : List Capability) (marks : List Bool) (taken : Taken) (left : List ℕ) → IsFrontRows bytes head told [] marks left → judged_in ≡ head.namespace → taken.log.kept ≡ record { namespace = head.namespace; log = [] }
    → taken.log.counts ≡ no_counts → taken.fronts.items ≡ [] → HasReadSomeTwo bytes judged_in head told marks taken left
read_none_two bytes judged_in head told marks taken left front checks empty counts none = record {
  seen = [];
  front = front;
  all_taken = record { is_log = IsLogOf-start head.namespace taken.log empty counts; fits = rw counts (omega arith); fronts = no_fronts taken.fronts.items none };
  checks = checks;
}

-- one part more
pub read_on_two : (bytes judged_in judged_in' : List ℕ) (head : ImageHead) (told : List Capability) (marks marks' : List Bool) (taken taken' : Taken) (left rest : List ℕ) (h : HasReadSomeTwo bytes judged_in head told marks taken left) → judged_in' ≡ judged_in
    → HasTakenPartTwo told marks head.namespace h.seen left rest marks' taken' → HasReadSomeTwo bytes judged_in' head told marks' taken' rest
read_on_two bytes judged_in judged_in' head told marks marks' taken taken' left rest h same part = record {
  seen = h.seen ++ part.rows;
  front = front_rows_on bytes head told h.seen marks left PART part.rows marks' rest h.front part.part;
  all_taken = part.all_taken;
  checks = same ∙ h.checks;
}

-- where its end is left and all capabilities are marked, all is read
pub read_whole_two : (bytes judged_in : List ℕ) (head : ImageHead) (told : List Capability) (marks : List Bool) (taken : Taken) (left : List ℕ) (flags : List Bool) (many : ℕ) → HasReadSomeTwo bytes judged_in head told marks taken left → flags ≡ marks → many ≡ taken.log.counts.rows
    → (many < 2 ^ 32) × (left ≡ trailer many) × (list_all (λ x. x) flags ≡ true) → IsLoggedImage bytes taken.log
read_whole_two bytes judged_in head told marks taken left flags many h same counted ends =
    let log = h.all_taken.is_log in
    let long : many ≡ length h.seen = counted ∙ log.counted.all in
    let here : head.namespace ≡ taken.log.kept.namespace = sym log.of_namespace in
    record {
      rows = h.seen;
      is_image = subst (λ (n : List ℕ). IsImageInOrder bytes n h.seen) here
          (record { is_image = inl (image_of_rows bytes head told h.seen marks left flags many h.front same long ends); in_order = h.all_taken.fronts.in_order });
      whole = subst (λ (n : List ℕ). IsWholeLog n h.seen taken.log) here
          (record { is_log = log; fits_log = omega (arith, h.all_taken.fits, log.counted.stored) });
    }
