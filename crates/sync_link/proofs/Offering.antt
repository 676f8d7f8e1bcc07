-- What a side offers of its rows: some of them, all live and fit to be told.
use Rattle.std.proofs.Common.{◌≡◌, ℕ, ◌≤◌, List, length, map, get_or, All, Contains, Option, None, Some, Result, Ok, Err, IfOk, refl, sym, ◌∙◌, subst, arith}
use Rattle.std.proofs.lemmas.List.{length-map}
use Rattle.std.proofs.lemmas.List.Elements.{All-contains, All-contains_itself, All-from_recursion, recursion_from_All}
use Rattle.willow_area.specs.Boxes.{Ranges}
use Rattle.willow_entry.specs.Frame.{HasFrame}
use Rattle.willow_entry.specs.Row.{RowValue, AreLive}
use Rattle.block_store.specs.BoxKinds.{IsOfOneNamespace}
use Rattle.block_store.specs.InBox.{rows_in}
use Rattle.area_interest.specs.Interest.{interest}
use Rattle.area_interest.specs.declared.interest.Interest.{Interest}
use Rattle.area_interest.proofs.Offering.{all_among, all_inside, all_live, no_more}
use Rattle.area_interest.proofs.Unlimited.{takes_all}
use Rattle.cap_codec.specs.Rows.{IsRawRow}
use Rattle.range_split.proofs.Rising.{live_rows_rise}
use Rattle.sync_core.specs.Place.{rows_of_area}
use Rattle.session_rules.specs.Session.{OfferSame}
use Rattle.sync_link.specs.Greetings.{greeting}
use Rattle.sync_link.specs.Places.{of_interest, offers_of}
use Rattle.sync_link.specs.Sessions.{Party, AreOfferedTo, agreement_with, box_with, own_part, without_limits}
use Rattle.sync_link.specs.Settling.{IsOpening}
use Rattle.sync_link.specs.Sound.{AreSound}
use Rattle.sync_link.specs.Talking.{AreOffered}

abbrev pub AreAmong : List RowValue → List RowValue → Type 0
AreAmong rows shown = (r : RowValue) → Contains shown r → Contains rows r

all_of : (P : RowValue → Type 0) (rows shown : List RowValue) → AreAmong rows shown → All P rows → All P shown
all_of P rows shown among all k d within =
    All-contains P rows (get_or shown k d) all (among (get_or shown k d) (All-contains_itself shown k d within))

-- ---- the rows of a store

pub offered_among : (limits : Interest) (box : Option Ranges) (rows : List RowValue) → AreAmong rows (of_interest limits box rows)
offered_among limits None rows = λ r c. c
offered_among limits (Some x) rows = λ r c. all_among rows x limits.newest limits.bytes r c

-- a session may begin with them
pub opening_offered : (namespace : List ℕ) (limits : Interest) (box : Option Ranges) (rows : List RowValue) → IsOpening namespace rows → IsOpening namespace (of_interest limits box rows)
opening_offered namespace limits None rows opening = opening
opening_offered namespace limits (Some x) rows opening =
    let shown = interest rows x limits.newest limits.bytes in
    let among : AreAmong rows shown = offered_among limits (Some x) rows in
    record {
      live = all_live rows x limits.newest limits.bytes opening.live;
      own = all_of (λ (row : RowValue). row.entry.namespace ≡ namespace) rows shown among opening.own;
      few = omega (arith, no_more rows x limits.newest limits.bytes, opening.few);
      read_out = all_of IsRawRow rows shown among opening.read_out;
      framed = all_of HasFrame rows shown among opening.framed;
    }

-- of those that are offered one without limits offers all
abbrev all_offered : Interest
all_offered = record { newest = None; bytes = None }

offered_again : (namespace : List ℕ) (limits : Interest) (box : Option Ranges) (rows : List RowValue) → IsOpening namespace rows
    → rows_of_area box (of_interest limits box rows) ≡ rows_of_area box (of_interest all_offered box (of_interest limits box rows))
offered_again namespace limits None rows opening = refl
offered_again namespace limits (Some x) rows opening =
    let shown = interest rows x limits.newest limits.bytes in
    let o : IsOpening namespace shown = opening_offered namespace limits (Some x) rows opening in
    sym (all_inside shown x None None ∙ takes_all shown x o.live (namespace, o.own))

pub offers_same : (p : Party) (rows shown : List RowValue) (bytes : List ℕ) → IsOpening p.namespace rows → AreOfferedTo p bytes rows shown
    → OfferSame (greeting p.rules p.namespace) (own_part p) bytes (offers_of p.interest rows) (offers_of (without_limits p).interest shown)
offers_same p rows shown bytes opening are = λ hello has.
    subst (λ (l : List RowValue). offers_of p.interest rows (agreement_with p hello) ≡ offers_of all_offered l (agreement_with p hello)) (sym (are hello has))
    (offered_again p.namespace p.interest (box_with p hello) rows opening)

-- ---- the rows of a snapshot

-- live rows among some that can be told
sound_among : (rows shown : List RowValue) → AreSound rows → AreLive shown → AreAmong rows shown → length shown ≤ length rows → AreSound shown
sound_among rows shown sound live among few =
    let one : IsOfOneNamespace shown = (sound.one.0, all_of (λ (row : RowValue). row.entry.namespace ≡ sound.one.0) rows shown among sound.one.1) in
    record {
      one = one;
      rise = live_rows_rise shown live one;
      few = omega (arith, few, sound.few);
      framed = recursion_from_All HasFrame shown (all_of HasFrame rows shown among (All-from_recursion HasFrame rows sound.framed));
    }

-- where there is no area
pub offered_nowhere : {R E : Type 0} (value : R → RowValue) (limits : Interest) (rows : List R) (result : Result (List R) E) → AreSound (map value rows) → IfOk result (λ shown. shown ≡ rows)
    → IfOk result (λ shown. AreOffered limits None (map value rows) (map value shown))
offered_nowhere {R = R} value limits rows (Ok shown) sound same = record { inside = refl; sound = subst (λ (l : List R). AreSound (map value l)) (sym same) sound }
offered_nowhere value limits rows (Err e) sound same = tt

-- in the box of an area
pub offered_there : {R E : Type 0} (value : R → RowValue) (limits : Interest) (x : Ranges) (rows : List R) (result : Result (List R) E) → AreSound (map value rows)
    → IfOk result (λ shown. rows_in x (map value shown) ≡ interest (map value rows) x limits.newest limits.bytes) → IfOk result (λ shown. AreLive (map value shown))
    → IfOk result (λ shown. AreAmong (map value rows) (map value shown)) → IfOk result (λ shown. length shown ≤ length rows)
    → IfOk result (λ shown. AreOffered limits (Some x) (map value rows) (map value shown))
offered_there value limits x rows (Ok shown) sound inside live among few = record {
  inside = inside ∙ sym (all_inside (map value rows) x limits.newest limits.bytes);
  sound = sound_among (map value rows) (map value shown) sound live among (omega (arith, few, length-map shown value, length-map rows value));
}
offered_there value limits x rows (Err e) sound inside live among few = tt
