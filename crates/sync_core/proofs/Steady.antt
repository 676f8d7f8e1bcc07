-- What a side keeps to, step by step.
use Rattle.std.proofs.Common.{◌≡◌, ℕ, ◌+◌, ◌*◌, ◌≤◌, Bool, true, false, cond, List, length, nat_le, option_map, Option, None, Some, Result, Ok, Err, refl, sym, ap, ◌∙◌, subst, arith}
use mir.Val.{bool_byte}
use Rattle.std.proofs.lemmas.Bool.{leb-true}
use Rattle.std.specs.Prelude.{IsOk}
use Rattle.spelling.specs.declared.ending.End.{End}
use Rattle.spelling.specs.declared.ending.End.TheVariants as end
use Rattle.willow_area.specs.Boxes.{Ranges}
use Rattle.willow_entry.specs.Row.{RowValue}
use Rattle.sync_msg.specs.Items.{ItemValue, HasPrints, is_counted, item_value}
use Rattle.sync_msg.specs.declared.item.Item.{Item}
use Rattle.sync_msg.specs.declared.refusal.CoreRefusal.{CoreRefusal}
use Rattle.sync_msg.specs.declared.refusal.CoreRefusal.TheVariants.{ItemMismatch, BadCut, EntryOutside, RowsOutOfOrder, TooManyItems}
use Rattle.sync_core.specs.declared.stage.TheConstants.{SNAPSHOT_MAX}
use Rattle.sync_core.specs.declared.work.Work.{Work}
use Rattle.sync_core.specs.Place.{Doing, Place, most_items, rows_of_area}
use Rattle.sync_core.specs.Steps.{count_one, heard, next_heard, next_said}
use Rattle.sync_core.specs.Held.{IsReady, IsSteady, doing_of, item_at, owing}
use Rattle.sync_core.specs.Hears.{Does, within}
use Rattle.sync_core.proofs.Owing.{OwesAtMost, next_owes}
use Rattle.sync_core.proofs.Heard.{MatchesHeard, answer_matches, counted_value}
use Rattle.sync_core.proofs.Spoken.{said_owes}
use Rattle.sync_core.proofs.Telling.{rows_in-le}

own_few : (area : Option Ranges) (rows : List RowValue) → length (rows_of_area area rows) ≤ length rows
own_few None rows = omega arith
own_few (Some area) rows = rows_in-le area rows

-- the limit is a number of 32 bits
pub most_few : (area : Option Ranges) (rows : List RowValue) → length rows ≤ SNAPSHOT_MAX → most_items area rows ≤ 393216
most_few area rows few = omega (arith, own_few area rows, few)

never : (b : Bool) (why : End CoreRefusal) (items : ℕ) → ◌≡◌ {A = Result (Unit {0}) (End CoreRefusal)} (cond b (Err why) (Err (end.Refused (TooManyItems items)))) (Ok tt) → ⊥
never true why items e = cc
never false why items e = cc

-- an item that is taken in may come, and not too many were counted with it
within_ok : (outcome : Result (Unit {0}) (End CoreRefusal)) (items most : ℕ) → within outcome items most ≡ Ok tt → (outcome ≡ Ok tt) × (items ≤ most)
within_ok (Ok done) items most e = by_test (nat_le items most) refl e
  where
    by_test : (b : Bool) → nat_le items most ≡ b → ◌≡◌ {A = Result (Unit {0}) (End CoreRefusal)} (cond b (Ok done) (Err (end.Refused (TooManyItems items)))) (Ok tt) → (◌≡◌ {A = Result (Unit {0}) (End CoreRefusal)} (Ok done) (Ok tt)) × (items ≤ most)
    by_test true t h = (refl, leb-true items most t)
    by_test false t h = absurd cc
within_ok (Err end.NoMemory) items most e = absurd (never (nat_le items most) end.NoMemory items e)
within_ok (Err (end.Refused ItemMismatch)) items most e = absurd cc
within_ok (Err (end.Refused BadCut)) items most e = absurd (never (nat_le items most) (end.Refused BadCut) items e)
within_ok (Err (end.Refused EntryOutside)) items most e = absurd (never (nat_le items most) (end.Refused EntryOutside) items e)
within_ok (Err (end.Refused RowsOutOfOrder)) items most e = absurd (never (nat_le items most) (end.Refused RowsOutOfOrder) items e)
within_ok (Err (end.Refused (TooManyItems n))) items most e = absurd (never (nat_le items most) (end.Refused (TooManyItems n)) items e)

-- a boolean as a number
pub byte_cond : (b : Bool) → bool_byte b ≡ cond b 1 0
byte_cond true = refl
byte_cond false = refl

pub byte_few : (b : Bool) → bool_byte b ≤ 1
byte_few true = omega arith
byte_few false = omega arith

pub byte_counts : {Q : Type 0} (value : Q → RowValue) (item : Item Q) (b : Bool) (n : ℕ) → n ≡ bool_byte b → b ≡ is_counted item → n ≡ count_one (item_value value item)
byte_counts value item b n e same = e ∙ byte_cond b ∙ ap (λ x. cond x 1 0) (same ∙ sym (counted_value value item))

module _ (place : Place) (most : ℕ) (work : Work) (steady : IsSteady place most work) where
  -- so many counted items were sent and read
  pub few_read : place.read ≤ 393216
  few_read = omega (arith, steady.heard, steady.limit, most_few place.area place.rows steady.few)

  pub few_sent : place.sent ≤ 1572865
  few_sent = omega (arith, few_read, steady.said)

  owes : (item : ItemValue) (doing : Doing) → HasPrints item → next_heard place.version place.area place.rows place.doing item ≡ Ok doing → owing doing ≤ owing place.doing + 4 * count_one item
  owes item doing has e = subst (λ o. OwesAtMost (owing place.doing + 4 * count_one item) o) e (next_owes place.version place.area place.rows place.doing item has)

  -- a side that has read an item, which counts so many
  module _ (item : ItemValue) (new : Work) (outcome : Result (Unit {0}) (End CoreRefusal)) (does : Does place.doing (doing_of place.rows new) (next_heard place.version place.area place.rows place.doing item) outcome) (count : ℕ) (counted : count ≡ count_one item) where
    -- its place then
    abbrev behind : ℕ → Place
    behind n = record place { read = place.read + n; doing = doing_of place.rows new }

    -- the outcome, with its number of items
    abbrev told : Result (Unit {0}) (End CoreRefusal)
    told = within outcome (place.sent + place.read + count) most

    abbrev Matches : Result (Unit {0}) (End CoreRefusal) → Type 0
    Matches r = MatchesHeard (heard place item) (behind count) (doing_of place.rows new ≡ place.doing) r

    has_heard : Matches told
    has_heard =
        let P : ℕ → ℕ → Type 0 = λ n m. MatchesHeard (heard place item) (behind n) (doing_of place.rows new ≡ place.doing) (within outcome (place.sent + place.read + n) m) in
        subst (λ m. P count m) (sym steady.limit) (subst (λ n. P n (most_items place.area place.rows)) (sym counted) (answer_matches place item (doing_of place.rows new) outcome does))

    pub heard_ok : told ≡ Ok tt → heard place item ≡ Ok (behind count)
    heard_ok e = subst (λ r. Matches r) e has_heard

    pub heard_refused : (cause : CoreRefusal) → told ≡ Err (end.Refused cause) → heard place item ≡ Err cause
    heard_refused cause e = subst (λ r. Matches r) e has_heard

    pub heard_nothing : told ≡ Err end.NoMemory → (record place { doing = doing_of place.rows new } ≡ place) × IsOk (heard place item)
    heard_nothing e =
        let same : (doing_of place.rows new ≡ place.doing) × IsOk (heard place item) = subst (λ r. Matches r) e has_heard in
        (ap (λ d. record place { doing = d }) same.0, same.1)

    pub steady_heard : HasPrints item → IsReady place.rows new → told ≡ Ok tt → IsSteady (behind count) most new
    steady_heard has ready e =
        let w = within_ok outcome (place.sent + place.read + count) most e in
        let next : next_heard place.version place.area place.rows place.doing item ≡ Ok (doing_of place.rows new) = subst (λ o. Does place.doing (doing_of place.rows new) (next_heard place.version place.area place.rows place.doing item) o) w.0 does in
        record {
          version = steady.version;
          one = steady.one;
          few = steady.few;
          limit = steady.limit;
          ready = ready;
          said = omega (arith, counted, owes item (doing_of place.rows new) has next, steady.said);
          heard = omega (arith, w.1);
        }

  -- a side that has said an item
  pub steady_said : (new : Work) (item : Item ℕ) (sent : ℕ) → IsReady place.rows new → item_at place.rows item ≡ option_map (λ step. step.0) (next_said place.doing) → option_map (λ step. step.1) (next_said place.doing) ≡ Some (doing_of place.rows new)
      → sent ≡ place.sent + cond (is_counted item) 1 0 → IsSteady (record place { sent = sent; doing = doing_of place.rows new }) most new
  steady_said new item sent ready i d e = record {
    version = steady.version;
    one = steady.one;
    few = steady.few;
    limit = steady.limit;
    ready = ready;
    said = omega (arith, e, said_owes place.doing (doing_of place.rows new) place.rows item i d, steady.said);
    heard = steady.heard;
  }
