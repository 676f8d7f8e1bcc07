-- The rows of a drill: frames can carry them, and a log has room for all that two sides of it come to hold.
use Rattle.std.proofs.Common.{◌≡◌, ◌≤◌, ◌/◌, ℕ, List, ◌++◌, length, map, take, drop, Option, None, refl, sym, ap, ◌∙◌, subst, arith, inl, inr}
use Rattle.std.specs.List.{AllByRecursion, range_with_len}
use Rattle.std.proofs.lemmas.List.{take-append-drop}
use Rattle.std.proofs.lemmas.List.FromFn.{length-map-range_with_len, take-map-range_with_len}
use Rattle.spelling.proofs.Lists.{All-left}
use Rattle.willow_area.specs.Boxes.{Ranges}
use Rattle.willow_entry.specs.Frame.{HasFrame}
use Rattle.willow_entry.specs.Row.{RowValue}
use Rattle.willow_entry.proofs.Members.{Member}
use Rattle.cap_codec.specs.Rows.{RawValue, row_of}
use Rattle.lms_core.specs.Use.{peer_rules}
use Rattle.auth_entry.specs.Authorised.{row_refusal}
use Rattle.exchange_rules.proofs.Members.{all-map}
use Rattle.exchange_rules.specs.Items.{to_left, to_right}
use Rattle.peer_listing.specs.Generator.{generated, generator_namespace}
use Rattle.peer_listing.specs.declared.generator.TheConstants.{GENERATED_ROWS}
use Rattle.peer_listing.proofs.Lengths.{generated_fits}
use Rattle.peer_image.specs.Order.{AreOf}
use Rattle.sync_core.specs.Flat.{TurnValue}
use Rattle.peer_rows.specs.RowLogs.{ArePastLog}
use Rattle.peer_rows.specs.Logged.{authorised_rows}
use Rattle.peer_rows.specs.Drilled.{generated_rows}
use Rattle.peer_run.specs.Exchanged.{met, IsPastOne}
use Rattle.peer_run.specs.Offered.{no_limits}
use Rattle.peer_rows.proofs.AuthorisedRows.{authorised_all, authorised_parts, authorised_few, of_namespace}
use Rattle.willow_entry.proofs.Fitting.{few_new}
use Rattle.peer_run.proofs.Members.{all_held, all_left, all_right}

-- each of the rows 0 to n - 1
abbrev raw : ℕ → List RawValue
raw n = map generated (range_with_len 0 n)

pub generated_framed : (n : ℕ) → AllByRecursion HasFrame (generated_rows n)
unfolding generated_rows
generated_framed n =
    authorised_all generator_namespace HasFrame (raw n)
    (all-map (λ r. row_refusal peer_rules generator_namespace r ≡ None → HasFrame (row_of r)) generated (λ i e. generated_fits i (generated i) refl refl) (range_with_len 0 n))

pub generated_own : (n : ℕ) → AreOf generator_namespace (generated_rows n)
unfolding generated_rows
generated_own n = of_namespace generator_namespace (raw n)

pub generated_few : (n : ℕ) → length (generated_rows n) ≤ n
unfolding generated_rows
generated_few n = omega (arith, authorised_few generator_namespace (raw n), length-map-range_with_len generated 0 n)

-- the rows below k stand among those below n
front : (k n : ℕ) → k ≤ n → generated_rows n ≡ generated_rows k ++ authorised_rows generator_namespace (drop k (raw n))
unfolding generated_rows
front k n below =
    ap (authorised_rows generator_namespace) (sym (take-append-drop k (raw n)))
    ∙ authorised_parts generator_namespace (take k (raw n)) (drop k (raw n))
    ∙ ap (λ (rows : List RawValue). authorised_rows generator_namespace rows ++ authorised_rows generator_namespace (drop k (raw n))) (take-map-range_with_len generated 0 n k below)

front_held : (k n : ℕ) → k ≤ n → AllByRecursion (Member (generated_rows n)) (generated_rows k)
front_held k n below =
    All-left (Member (generated_rows n)) (generated_rows k) (authorised_rows generator_namespace (drop k (raw n)))
    (subst (λ (rows : List RowValue). AllByRecursion (Member (generated_rows n)) rows) (front k n below) (all_held (generated_rows n)))

-- both sides have room for what comes
module _ (n : ℕ) (area : Option Ranges) where
  abbrev turns : List TurnValue
  turns = met (generated_rows n) (generated_rows (n / 2)) area no_limits

  half : AllByRecursion (Member (generated_rows n)) (generated_rows (n / 2))
  half = front_held (n / 2) n (omega arith)

  held_left : AllByRecursion (Member (generated_rows n)) (generated_rows n ++ to_left turns)
  held_left = all_left (Member (generated_rows n)) (generated_rows n) (generated_rows (n / 2)) area no_limits (all_held (generated_rows n)) half

  held_right : AllByRecursion (Member (generated_rows n)) (generated_rows (n / 2) ++ to_right turns)
  held_right = all_right (Member (generated_rows n)) (generated_rows n) (generated_rows (n / 2)) area no_limits (all_held (generated_rows n)) half

  never : (rows : List RowValue) → n ≤ GENERATED_ROWS → AllByRecursion (Member (generated_rows n)) rows → ArePastLog rows → ⊥
  never rows few all past = absurd (omega (arith, few_new (generated_rows n) rows all, generated_few n, few, past))

  pub drill_fits : n ≤ GENERATED_ROWS → IsPastOne (generated_rows n) (generated_rows (n / 2)) area no_limits → ⊥
  drill_fits few past = elim past [ inl left ↦ never (generated_rows n ++ to_left turns) few held_left left | inr right ↦ never (generated_rows (n / 2) ++ to_right turns) few held_right right ]
