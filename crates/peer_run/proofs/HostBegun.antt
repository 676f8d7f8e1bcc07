-- What a side got and reserved before it asked for any place, and what it left where it stopped before.
use Rattle.std.proofs.Common.{◌≡◌, ◌∙◌, ℕ, List, Option, replicate, inl, inr, refl, sym, subst, ap}
use Rattle.std.specs.Prelude.{Ok, Err}
use Rattle.std.specs.Global.{Vec}
use Rattle.std.specs.declared.string.String.{String}
use Rattle.std.specs.declared.alloc.Global.{Global}
use Rattle.willow_outside.specs.Facts.{BayFacts, ShelfFacts}
use Rattle.area_interest.specs.declared.interest.Interest.{Interest}
use Rattle.lms_core.specs.Key.{raised}
use Rattle.lms_core.specs.Reserve.{HoldsKey, KeepsNames, PutsKey}
use Rattle.mc_cap.specs.declared.refusal.RowRefusal.{RowRefusal}
use Rattle.sync_hello.specs.declared.hello.Hello.{Hello}
use Rattle.sync_msg.specs.declared.role.Role.{Role}
use Rattle.peer_make.specs.KeySigners.{AreSignersOf, HandsSigners}
use Rattle.peer_make.specs.Signing.{AreUsed, StopsReserving}
use Rattle.peer_make.specs.declared.key_signer.KeySigner.{KeySigner}
use Rattle.peer_make.specs.declared.key_signer.KeySigner.TheVariants.{Open}
use Rattle.peer_stage.specs.Steps.{OnShelf}
use Rattle.peer_stage.specs.World.{World}
use Rattle.peer_stage.specs.declared.outcome.Stop.{Stop}
use Rattle.peer_stage.specs.declared.outcome.Stop.TheVariants as stop
use Rattle.peer_words.specs.Alike.{AreSameSigner}
use Rattle.peer_words.specs.declared.command.AreaWords.{AreaWords}
use Rattle.peer_words.specs.declared.command.SignerWord.{SignerWord}
use Rattle.peer_words.specs.declared.command.SignerWord.TheVariants.{OpenKey, LmsFile}
use Rattle.peer_run.specs.Greeting.{own_hello}
use Rattle.peer_run.specs.Preparing.{no_nonce, plan_of}
use Rattle.peer_run.specs.HostHeadline.{KeepsButKeys}
use Rattle.peer_run.specs.Hosting.{OpensHouse}
use Rattle.peer_run.specs.LogFiles.{FileState}
use Rattle.peer_run.specs.declared.preparing.Prepared.{Prepared}
use Rattle.peer_run.specs.declared.sessions.House as house
use Rattle.peer_run.proofs.NeverStops.{Never, then_never, never_prepared}
use Rattle.peer_run.proofs.SideBegun.{HasPrepared, has_prepared, preparing_keeps}

-- ---- the signers

pub signers_as : (key other : SignerWord) (count : ℕ) (h h' : ShelfFacts) (signers : List KeySigner) → AreSameSigner key other → AreSignersOf other count h h' signers → AreSignersOf key count h h' signers
signers_as (OpenKey a) (OpenKey b) count h h' signers same is = (is.0 ∙ ap (λ (k : List ℕ). replicate count (Open k)) (sym same), is.1)
signers_as (LmsFile a) (LmsFile b) count h h' signers same is = (is.0, is.1, subst (λ (name : List ℕ). AreUsed name count h h' is.0) (sym same) is.2)
signers_as (OpenKey a) (LmsFile b) count h h' signers same is = absurd same
signers_as (LmsFile a) (OpenKey b) count h h' signers same is = absurd same

pub keeps_as : (key other : SignerWord) (count : ℕ) (h h' : ShelfFacts) → AreSameSigner key other → KeepsButKeys other count h h' → KeepsButKeys key count h h'
keeps_as (OpenKey a) (OpenKey b) count h h' same keeps = keeps
keeps_as (LmsFile a) (LmsFile b) count h h' same keeps = elim keeps [ inl kept ↦ inl kept | inr put ↦ inr (put.0, subst (λ (name : List ℕ). HoldsKey h name put.0) (sym same) put.1, subst (λ (name : List ℕ). PutsKey h h' name (raised count put.0)) (sym same) put.2) ]
keeps_as (OpenKey a) (LmsFile b) count h h' same keeps = absurd same
keeps_as (LmsFile a) (OpenKey b) count h h' same keeps = absurd same

-- at most the indices of the signers are used up
signers_keep : (key : SignerWord) (count : ℕ) (h h' : ShelfFacts) (signers : List KeySigner) → AreSignersOf key count h h' signers → KeepsButKeys key count h h'
signers_keep (OpenKey key) count h h' signers is = ap (λ (x : ShelfFacts). x.names) is.1
signers_keep (LmsFile name) count h h' signers is = inr (is.2.key, is.2.handed_out.held, is.2.handed_out.put)

file_keeps : (name : String Global) (count : ℕ) (h h' : ShelfFacts) (e : Stop) → StopsReserving name count h h' e → KeepsButKeys (LmsFile name) count h h'
file_keeps name count h h' stop.ReadFault s = inl s.1.names
file_keeps name count h h' (stop.Missing other) s = inl s.2.names
file_keeps name count h h' (stop.BadInput from at) s = inl s.2.kept.names
file_keeps name count h h' stop.KeySpent s = inl s.spent.kept.names
file_keeps name count h h' stop.WriteFault s = elim s.1.kept_or_put [ inl kept ↦ inl kept | inr put ↦ inr (s.0, s.1.held, put) ]
file_keeps name count h h' stop.NoMemory s = elim s [ inl kept ↦ inl kept | inr used ↦ inr (used.1.key, used.1.handed_out.held, used.1.handed_out.put) ]
file_keeps name count h h' e s = absurd s

reserving_keeps : (key : SignerWord) (count : ℕ) (h h' : ShelfFacts) (e : Stop) → HandsSigners key count h h' (Err e) → KeepsButKeys key count h h'
reserving_keeps (OpenKey key) count h h' stop.NoMemory s = ap (λ (x : ShelfFacts). x.names) s
reserving_keeps (OpenKey key) count h h' e s = absurd s
reserving_keeps (LmsFile name) count h h' e s = file_keeps name count h h' e s

keeps_all : (key : SignerWord) (count : ℕ) (h h' : ShelfFacts) → KeepsNames h h' → KeepsButKeys key count h h'
keeps_all (OpenKey key) count h h' same = same
keeps_all (LmsFile name) count h h' same = inl same

no_refusal : (key : SignerWord) (count : ℕ) (h h' : ShelfFacts) (refusal : RowRefusal) → HandsSigners key count h h' (Err (stop.Refused refusal)) → ⊥
no_refusal (OpenKey key) count h h' refusal s = s
no_refusal (LmsFile name) count h h' refusal s = s

-- ---- all that a side begins with

module _ (role : Role) (image cap : String Global) (key : SignerWord) (links : ℕ) (area : AreaWords) (limits : Interest) (log : Option (String Global)) (file : Option FileState) where
  -- It has what a side brings, the plan says the same of it, and the signers are as many as links are to come, of the one that
  -- the words name.
  pub record HasHouse (old new : World) (s : house.House) : Type 0 where
    pub hello : Hello
    pub prepared : World
    pub front : HasPrepared image cap area log file old prepared (record { opening = s.opening; hello = hello })
    pub plan_is : s.plan ≡ plan_of role hello limits
    pub reserved : AreSignersOf key links old.shelf new.shelf s.signers.items
    pub counted : new.shelf.write_faults ≡ old.shelf.write_faults
    pub bay_is : new.bay ≡ prepared.bay
    pub others : new ≡ record old { shelf = new.shelf; bay = new.bay }

  -- the plan says what the words ask
  pub plan_asks : (old new : World) (s : house.House) (begun : HasHouse old new s) → s.plan ≡ plan_of role (own_hello area begun.front.capability no_nonce) limits
  plan_asks old new s begun = begun.plan_is ∙ ap (λ (h : Hello). plan_of role h limits) begun.front.hello_is

  -- from what was prepared, and what was reserved behind it
  house_of : (old between reserved : World) (r : Prepared) (signers : Vec KeySigner) → HasPrepared image cap area log file old between r → OnShelf (HandsSigners key links) between reserved (Ok signers)
      → HasHouse old reserved (record { opening = r.opening; plan = plan_of role r.hello limits; signers = signers })
  house_of old between reserved r signers has s =
      let shelf : between.shelf ≡ old.shelf = ap (λ (w : World). w.shelf) has.same in
      let bay : reserved.bay ≡ between.bay = ap (λ (w : World). w.bay) s.others in
      record {
        hello = r.hello;
        prepared = between;
        front = has;
        plan_is = refl;
        reserved = subst (λ (h : ShelfFacts). AreSignersOf key links h reserved.shelf signers.items) shelf s.does;
        counted = s.write_faults ∙ ap (λ (h : ShelfFacts). h.write_faults) shelf;
        bay_is = bay;
        others = s.others ∙ ap (λ (w : World). record w { shelf = reserved.shelf }) has.same ∙ ap (λ (b : BayFacts). record old { shelf = reserved.shelf; bay = b }) (sym bay);
      }

  pub has_house : (old new : World) (s : house.House) → OpensHouse role image cap key links area limits log file old new (Ok s) → HasHouse old new s
  has_house old new s p =
      let q = p.rest in
      let begun = house_of old p.between q.between p.value q.value (has_prepared image cap area log file old p.between p.value p.given) q.given in
      subst (λ (w : World). HasHouse old w s) (sym q.rest.1) (subst (λ (x : house.House). HasHouse old q.between x) (sym q.rest.0) begun)

  -- ---- where it stopped

  pub opening_keeps : (old new : World) (e : Stop) → OpensHouse role image cap key links area limits log file old new (Err e) → KeepsButKeys key links old.shelf new.shelf
  opening_keeps old new e (inl s) = keeps_all key links old.shelf new.shelf (preparing_keeps image cap area log file old new e s)
  opening_keeps old new e (inr p) =
      let same = ap (λ (w : World). w.shelf) (has_prepared image cap area log file old p.between p.value p.given).same in
      elim p.rest [
        | inl s ↦ subst (λ (h : ShelfFacts). KeepsButKeys key links h new.shelf) same (reserving_keeps key links p.between.shelf new.shelf e s.does)
        | inr q ↦ absurd q.rest.0
      ]

  -- nothing is refused as what was to be made
  pub opening_never : (refusal : RowRefusal) → Never (OpensHouse role image cap key links area limits log file) (stop.Refused refusal)
  opening_never refusal =
      then_never _ _ (stop.Refused refusal) (never_prepared refusal image cap area log file) (λ r.
      then_never _ _ (stop.Refused refusal) (record { never = λ old new s. no_refusal key links old.shelf new.shelf refusal s.does }) (λ signers. record { never = λ old new s. s.0 }))

-- behind a reservation the shelf was left as that left it
pub reserved_keeps : (key : SignerWord) (links : ℕ) (h reserved h' : ShelfFacts) (signers : List KeySigner) → AreSignersOf key links h reserved signers → h' ≡ reserved → KeepsButKeys key links h h'
reserved_keeps key links h reserved h' signers is same = signers_keep key links h h' signers (subst (λ (x : ShelfFacts). AreSignersOf key links h x signers) (sym same) is)
