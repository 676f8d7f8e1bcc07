-- A side that says items, and their bytes.
use Rattle.std.proofs.Common.{◌≡◌, ℕ, List, ◌++◌, flat_map, option_map, append_assoc, append-nil, Option, Some, None, refl, sym, ap, ◌∙◌, subst, arith}
use Rattle.std.specs.Prelude.{IsSomeAnd}
use Rattle.sync_msg.specs.Items.{ItemValue, HasSpelling, item_spelling}
use Rattle.sync_core.specs.declared.stage.Stage.TheVariants as stage
use Rattle.sync_core.specs.Place.{Place, stage_of}
use Rattle.sync_core.specs.Steps.{said}
use Rattle.sync_core.specs.Runs.{says_all}
use Rattle.sync_core.proofs.OneByOne.{says_first, says_nothing}
use Rattle.sync_link.specs.Sound.{IsSound}
use Rattle.sync_link.specs.Speaking.{with_speech, SaysOn, SaysAll}
use Rattle.sync_link.proofs.Sound.{sound_said}

-- a side says an item, and then stands so
pub record IsSaid (old new : Place) (named : Option ItemValue) : Type 0 where
  pub item : ItemValue
  pub is : named ≡ Some item
  pub step : said old ≡ Some (item, new)

pub is_said : (old new : Place) (named : Option ItemValue) → named ≡ option_map (λ step. step.0) (said old) → option_map (λ step. step.1) (said old) ≡ Some new → IsSaid old new named
is_said old new named item place = by_step (said old) refl item place
  where
    by_step : (o : Option (ItemValue × Place)) → said old ≡ o → named ≡ option_map (λ step. step.0) o → option_map (λ step. step.1) o ≡ Some new → IsSaid old new named
    by_step None e i p = absurd cc
    by_step (Some step) e i p =
        let then : step.1 ≡ new = cc in
        record { item = step.0; is = i; step = e ∙ ap (λ place. Some (step.0, place)) then }

-- the item that is said has a spelling
pub said_spelled : (old new : Place) (named : Option ItemValue) → IsSound old → IsSaid old new named → IsSomeAnd named HasSpelling
said_spelled old new named sound s = subst (λ o. IsSomeAnd o HasSpelling) (sym s.is) (sound_said old new s.item sound s.step).1

pub says_on : (old new : Place) (named : Option ItemValue) (before after : List ℕ) → IsSound old → IsSaid old new named
    → ((item : ItemValue) → named ≡ Some item → after ≡ before ++ item_spelling item) → SaysOn old new before after
says_on old new named before after sound s wrote =
    let first = says_first old new s.item s.step in
    record {
      bytes =
          ap (λ l. with_speech l new) (wrote s.item s.is)
          ∙ append_assoc before (item_spelling s.item) (flat_map item_spelling (says_all new).0)
          ∙ ap (λ run. before ++ flat_map item_spelling run.0) (sym first.all);
      last = sym (ap (λ run. run.1) first.all);
      fewer = omega (arith, first.fewer);
      sound = (sound_said old new s.item sound s.step).0;
    }

-- a side that has said all
pub said_all : (old now : Place) (before bytes : List ℕ) → IsSound now → with_speech bytes now ≡ with_speech before old → (says_all now).1 ≡ (says_all old).1 → (stage_of now.doing ≡ stage.Writing → ⊥) → SaysAll old now before bytes
said_all old now before bytes sound same last silent =
    let none = says_nothing now silent in
    record {
      place = sym (ap (λ run. run.1) none) ∙ last;
      bytes = sym (append-nil bytes) ∙ ap (λ run. bytes ++ flat_map item_spelling run.0) (sym none) ∙ same;
      sound = sound;
    }
