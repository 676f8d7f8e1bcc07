-- The turns of an exchange of rising rows: items tell them, and each of these has a spelling.
use Rattle.std.proofs.Common.{ℕ, zero, suc, ◌≤◌, List, [], ◌∷◌, map, length, Option, Some, None, All, arith}
use Rattle.std.specs.List.{AllByRecursion}
use Rattle.std.specs.List.Sorted.{IsStrictlySortedBy}
use Rattle.std.proofs.lemmas.List.{length-map}
use Rattle.std.proofs.lemmas.List.Elements.{recursion_from_All}
use Rattle.willow_area.specs.Boxes.{Ranges}
use Rattle.willow_entry.specs.Frame.{HasFrame}
use Rattle.willow_entry.specs.Row.{RowValue, AreLive, inner_place_cmp}
use Rattle.block_store.specs.BoxKinds.{IsOfOneNamespace}
use Rattle.range_split.proofs.Rising.{live_rows_rise}
use Rattle.exchange_rules.specs.Answer.{opened, turn}
use Rattle.exchange_rules.specs.Exchange.{turns, enough, first_asks}
use Rattle.sync_core.specs.declared.stage.TheConstants.{SNAPSHOT_MAX}
use Rattle.sync_core.specs.SyncRules.{sync_rules}
use Rattle.sync_core.specs.Flat.{AskValue, TurnValue, turn_items, IsToldTurn}
use Rattle.sync_core.proofs.SpelledTurns.{AreSpelled, told_turn, spelled_turn}
use Rattle.sync_pair.specs.Meeting.{meeting}

-- a turn that items of a version tell which have spellings
pub record IsPlain (version : ℕ) (t : TurnValue) : Type 0 where
  pub told : IsToldTurn version t
  pub spelled : AreSpelled (turn_items version t)

-- rows that rise, fit frames and are not too many
pub record AreSendable (rows : List RowValue) : Type 0 where
  pub rise : IsStrictlySortedBy inner_place_cmp rows
  pub few : length rows ≤ SNAPSHOT_MAX
  pub framed : AllByRecursion HasFrame rows

-- such are the rows of a snapshot of one namespace
pub sendable : {R : Type 0} (value : R → RowValue) (rows : List R) → length rows ≤ SNAPSHOT_MAX → AreLive (map value rows) → IsOfOneNamespace (map value rows) → All HasFrame (map value rows) → AreSendable (map value rows)
sendable value rows few live one framed = record {
  rise = live_rows_rise (map value rows) live one;
  few = omega (arith, few, length-map rows value);
  framed = recursion_from_All HasFrame (map value rows) framed;
}

module _ (version : ℕ) where
  plain_turn : (rows : List RowValue) → AreSendable rows → (asks : List AskValue) → IsPlain version (turn (sync_rules version) rows asks)
  plain_turn rows s asks = record { told = told_turn version rows s.rise asks; spelled = spelled_turn version rows s.rise s.few s.framed asks }

  plain_turns : (n : ℕ) (l m : List RowValue) → AreSendable l → AreSendable m → (asks : List AskValue) → AllByRecursion (IsPlain version) (turns (sync_rules version) n l m asks)
  unfolding turns
  plain_turns zero l m sl sm asks = tt
  plain_turns (suc n) l m sl sm [] = (plain_turn l sl [], tt)
  plain_turns (suc n) l m sl sm (ask ∷ asks) = (plain_turn l sl (ask ∷ asks), plain_turns n m l sm sl (opened (sync_rules version) l (ask ∷ asks)))

  pub plain_meeting : (a b : List RowValue) → AreSendable a → AreSendable b → (x : Option Ranges) → AllByRecursion (IsPlain version) (meeting version a b x)
  plain_meeting a b sa sb None = (record { told = tt; spelled = (tt, tt) }, (record { told = tt; spelled = (tt, tt) }, tt))
  plain_meeting a b sa sb (Some x) = (
    record { told = (tt, tt); spelled = (tt, (tt, tt)) },
    plain_turns (enough (sync_rules version) a b x) b a sb sa (first_asks (sync_rules version) a x),
  )
