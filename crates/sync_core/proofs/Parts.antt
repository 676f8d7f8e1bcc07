-- A cut in parts: what a side says of it, and what it makes of one that it reads.
use Rattle.std.proofs.Common.{◌≡◌, ℕ, ◌+◌, true, false, List, [], ◌∷◌, ◌++◌, map, drop, slice_get, Some, None, sym, ap, ap₂, ◌∙◌, append_assoc}
use Rattle.std.specs.Prelude.{unwrap_or}
use Rattle.std.proofs.lemmas.List.{append-nil, map-append}
use Rattle.willow_area.specs.Boxes.{Ranges}
use Rattle.willow_area.specs.declared.cut.CutAt.{CutAt}
use Rattle.willow_entry.specs.Row.{RowValue}
use Rattle.range_split.specs.Parts.{can_cut_at, cut_all}
use Rattle.range_split.proofs.CutTest.{can_cut_test}
use Rattle.range_split.proofs.Pointing.{drop_one}
use Rattle.exchange_rules.specs.AnyPeer.{part_asks}
use Rattle.exchange_rules.specs.Answer.{differing, print_ask}
use Rattle.exchange_rules.specs.Items as rules
use Rattle.exchange_rules.specs.Rules.{box_print}
use Rattle.sync_msg.specs.CutPoints.{are_of_one}
use Rattle.sync_msg.specs.Items.{ItemValue}
use Rattle.sync_core.specs.declared.answer.Turn.{Turn}
use Rattle.sync_core.specs.declared.ask.Ask.{Ask}
use Rattle.sync_core.specs.declared.ask.Ask.TheVariants as ask
use Rattle.sync_core.specs.SyncRules.{sync_rules}
use Rattle.sync_core.specs.Flat.{AskValue, items_of}
use Rattle.sync_core.specs.Held.{ask_value, item_at, owed_value}
use Rattle.sync_core.specs.Answers.{Adds, ReplyValue}
use Rattle.sync_core.proofs.Hearing.{none_from}

-- ---- a cut that is said

-- a cut with its parts
abbrev parts_reply : List RowValue → List CutAt → List Ranges → ReplyValue
parts_reply rows points parts = record { item = rules.Split points (map (λ part. box_print (sync_rules 2) part rows) parts); opens = map (print_ask (sync_rules 2) rows) parts }

not_cut : (area : Ranges) (points : List CutAt) → are_of_one points ≡ true → can_cut_at area points ≡ false → cut_all area points ≡ None
not_cut area points one fails = none_from (cut_all area points) (can_cut_test area points one ∙ fails)

-- nothing is said of one that is not inside
pub adds_nothing : (rows : List RowValue) (area : Ranges) (points : List CutAt) (turn : Turn) → are_of_one points ≡ true → can_cut_at area points ≡ false → Adds 2 rows turn turn (differing (sync_rules 2) rows area (Some points))
adds_nothing rows area points turn one fails =
    let reply : differing (sync_rules 2) rows area (Some points) ≡ parts_reply rows points [] = ap (λ o. parts_reply rows points (unwrap_or o [])) (not_cut area points one fails) in
    record {
      items = sym (append-nil (map (item_at rows) turn.items.items)) ∙ ap (λ r. map (item_at rows) turn.items.items ++ map (λ (i : ItemValue). Some i) (items_of 2 r.item)) (sym reply);
      opens = sym (append-nil (map (owed_value rows) turn.opens.items)) ∙ ap (λ r. map (owed_value rows) turn.opens.items ++ r.opens) (sym reply);
    }

-- ---- a cut that is read

module _ (prints : List (List ℕ)) where
  -- one part more has an ask
  pub asks_one : (old new : List Ask) (before after : List Ranges) (area : Ranges) (i : ℕ) (print : List ℕ) (all : List AskValue) → before ≡ area ∷ after → slice_get prints i ≡ Some print
      → new ≡ old ++ ask.Print area print ∷ [] → map ask_value old ++ part_asks before (drop i prints) ≡ all → map ask_value new ++ part_asks after (drop (i + 1) prints) ≡ all
  asks_one old new before after area i print all split there pushed e =
      let done = map ask_value old in
      let behind : List AskValue = part_asks after (drop (i + 1) prints) in
      ap (λ l. map ask_value l ++ behind) pushed
      ∙ ap (λ l. l ++ behind) (map-append ask_value old (ask.Print area print ∷ []))
      ∙ append_assoc done (rules.Print area print ∷ []) behind
      ∙ sym (ap₂ (λ l p. done ++ part_asks l p) split (drop_one prints i print there)) ∙ e
