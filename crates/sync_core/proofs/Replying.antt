-- A turn that grows by answers.
use Rattle.std.proofs.Common.{◌≡◌, ℕ, ◌+◌, ◌<◌, List, [], ◌∷◌, ◌++◌, map, flat_map, length, take, get_or, Some, sym, ap, ◌∙◌}
use Rattle.std.proofs.lemmas.List.{append-nil, map-append, take_more}
use Rattle.std.proofs.lemmas.List.Concat.{flat_map-append}
use Rattle.willow_entry.specs.Row.{RowValue}
use Rattle.exchange_rules.specs.Answer.{reply, opened, turn}
use Rattle.sync_msg.specs.Items.{ItemValue}
use Rattle.sync_core.specs.declared.answer.Turn.{Turn}
use Rattle.sync_core.specs.declared.ask.Ask.{Ask}
use Rattle.sync_core.specs.SyncRules.{sync_rules}
use Rattle.sync_core.specs.Flat.{AskValue, items_of}
use Rattle.sync_core.specs.Held.{ask_value, item_at, owed_value}
use Rattle.sync_core.specs.Answers.{Adds}

-- the turn has the answers to some asks, and what they open
pub record HasAnswers (version : ℕ) (rows : List RowValue) (made : Turn) (asks : List AskValue) : Type 0 where
  pub items : map (item_at rows) made.items.items ≡ map (λ (i : ItemValue). Some i) (flat_map (items_of version) (turn (sync_rules version) rows asks).items)
  pub opens : map (owed_value rows) made.opens.items ≡ opened (sync_rules version) rows asks

module _ (version : ℕ) (rows : List RowValue) (old new : Turn) where
  pub answers_more : (asks : List AskValue) (ask : AskValue) → HasAnswers version rows old asks → Adds version rows old new (reply (sync_rules version) rows ask) → HasAnswers version rows new (asks ++ ask ∷ [])
  answers_more asks ask h a = record {
    items =
        let item = (reply (sync_rules version) rows ask).item in
        let more : flat_map (items_of version) (turn (sync_rules version) rows (asks ++ ask ∷ [])).items ≡ flat_map (items_of version) (turn (sync_rules version) rows asks).items ++ items_of version item =
        ap (flat_map (items_of version)) (map-append (λ x. (reply (sync_rules version) rows x).item) asks (ask ∷ []))
        ∙ flat_map-append (items_of version) (map (λ x. (reply (sync_rules version) rows x).item) asks) (item ∷ [])
        ∙ ap (λ l. flat_map (items_of version) (turn (sync_rules version) rows asks).items ++ l) (append-nil (items_of version item)) in
        a.items ∙ ap (λ l. l ++ map (λ (i : ItemValue). Some i) (items_of version item)) h.items
        ∙ sym (map-append (λ (i : ItemValue). Some i) (flat_map (items_of version) (turn (sync_rules version) rows asks).items) (items_of version item))
        ∙ ap (map (λ (i : ItemValue). Some i)) (sym more);
    opens =
        let opens = (reply (sync_rules version) rows ask).opens in
        a.opens ∙ ap (λ l. l ++ opens) h.opens
        ∙ sym (flat_map-append (λ x. (reply (sync_rules version) rows x).opens) asks (ask ∷ []) ∙ ap (λ l. opened (sync_rules version) rows asks ++ l) (append-nil opens));
  }

-- the values of one more of some asks
pub asks_more : (asks : List Ask) (i : ℕ) (ask : Ask) → i < length asks → get_or asks i ask ≡ ask → map ask_value (take (i + 1) asks) ≡ map ask_value (take i asks) ++ ask_value ask ∷ []
asks_more asks i ask within here =
    ap (map ask_value) (take_more asks i ask within ∙ ap (λ x. take i asks ++ x ∷ []) here)
    ∙ map-append ask_value (take i asks) (ask ∷ [])
