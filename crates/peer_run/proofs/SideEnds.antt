-- A side that is ready gets what it brings.
use Rattle.std.proofs.Common.{◌≡◌, ◌∙◌, ℕ, List, ◌++◌, map, Option, None, Some, inl, inr, refl, sym, subst, ap, append-nil}
use Rattle.std.specs.Prelude.{Ok, Err, IfSome}
use Rattle.std.specs.String.{string_bytes}
use Rattle.std.specs.declared.string.String.{String}
use Rattle.std.specs.declared.alloc.Global.{Global}
use Rattle.willow_outside.specs.Bays.{bytes_under}
use Rattle.willow_outside.specs.Facts.{Names, BayFacts, ShelfFacts}
use Rattle.willow_outside.specs.Names.{GetsName}
use Rattle.cap_codec.specs.Rows.{IsRawRow, RawValue, row_of}
use Rattle.log_keeper.specs.BadLogs.{IsBadFile}
use Rattle.mc_cap.specs.declared.capability.Capability.{Capability}
use Rattle.peer_image.specs.ImageReading.{IsImage}
use Rattle.peer_image.specs.declared.read.Image.{Image}
use Rattle.peer_image.proofs.Stops.{one_image}
use Rattle.peer_make.specs.Reading.{IsSpelled, ReadsCapabilityFrom}
use Rattle.peer_make.proofs.Deeds.{same_capability}
use Rattle.peer_make.proofs.Signers.{given}
use Rattle.peer_rows.specs.Images.{ReadsImageFrom}
use Rattle.peer_rows.specs.Logged.{PassesLog}
use Rattle.peer_stage.specs.Shelves.{GetsBytes}
use Rattle.peer_stage.specs.World.{World}
use Rattle.peer_stage.specs.declared.outcome.Origin.TheVariants as origin
use Rattle.peer_stage.specs.declared.outcome.Stop.{Stop}
use Rattle.peer_stage.specs.declared.outcome.Stop.TheVariants as stop
use Rattle.peer_stage.proofs.Ends.{IsCondition}
use Rattle.peer_words.specs.declared.command.AreaWords.{AreaWords}
use Rattle.peer_run.specs.Getting.{GetsImage, GetsCapability}
use Rattle.peer_run.specs.Greeting.{Greets, own_hello, own_refusal}
use Rattle.peer_run.specs.HostDeed.{CanOpen}
use Rattle.peer_run.specs.LogFiles.{FileState}
use Rattle.peer_run.specs.LogOpening.{HeldRows, IsBadAt, OpensFile}
use Rattle.peer_run.specs.Opening.{OpensLog}
use Rattle.peer_run.specs.Preparing.{Prepares, no_nonce}
use Rattle.peer_run.specs.SideGiven.{SideGiven, AreSideGiven}
use Rattle.peer_run.specs.declared.preparing.Prepared.{Prepared}
use Rattle.peer_run.proofs.PairDeeds.{IsRead, image_fits, image_reads, capability_fits}
use Rattle.peer_run.proofs.SideBegun.{FiledBy, HasPrepared, filed_by, image_same}

-- what a name holds that is told is what is got of it
same_bytes : (told : Option Names) (names : Names) (name a b : List ℕ) → told ≡ Some names → names name ≡ Some a → GetsName told name (Some b) → b ≡ a
same_bytes told names name a b is held gets =
    let some : Some b ≡ Some a = sym (given told names name (Some b) is gets) ∙ held in
    cc

get_free : (name : String Global) (names : Names) (bytes : List ℕ) (h h' : ShelfFacts) (e : Stop) → h.names ≡ Some names → names (string_bytes name) ≡ Some bytes → IsCondition e → GetsBytes name h h' (Err e) → ⊥
get_free name names bytes h h' (stop.Missing other) told held condition s =
    let none : Some bytes ≡ None = sym held ∙ given h.names names (string_bytes name) None told s.1.0 in
    absurd cc
get_free name names bytes h h' stop.ReadFault told held condition s = condition
get_free name names bytes h h' stop.NoMemory told held condition s = condition
get_free name names bytes h h' e told held condition s = s

-- the log file of a bay that tells that nothing is bad in it is not refused
opening_free : (log : Option (String Global)) (file : Option FileState) (n : List ℕ) (rows : List RawValue) (bay : BayFacts) (v w : World) (e : Stop) → CanOpen log n rows bay → IsCondition e → v.bay ≡ bay → OpensFile log file n v w (Err e) → ⊥
opening_free None None n rows bay v w stop.NoMemory can condition at s = condition
opening_free None None n rows bay v w e can condition at s = s.0
opening_free None (Some f) n rows bay v w e can condition at s = s
opening_free (Some name) (Some f) n rows bay v w e can condition at s = s.does
opening_free (Some name) None n rows bay v w stop.ReadFault can condition at s = condition
opening_free (Some name) None n rows bay v w stop.WriteFault can condition at s = condition
opening_free (Some name) None n rows bay v w stop.NoMemory can condition at s = condition
opening_free (Some name) None n rows bay v w (stop.BadInput from place) can condition at s =
    can.sound place
    (subst (λ (told : Option Names). IfSome told (λ names. IsBadFile IsRawRow n place (bytes_under names (string_bytes name)))) can.are_told
    (subst (λ (b : BayFacts). IsBadAt (string_bytes name) n b place) at s.does.2))
opening_free (Some name) None n rows bay v w e can condition at s = s.does

-- and its rows have room behind those of the image
room_for : (log : Option (String Global)) (file : Option FileState) (n : List ℕ) (rows : List RawValue) (bay bay' : BayFacts) (filed : List RawValue) → CanOpen log n rows bay → FiledBy log file n bay bay' filed → PassesLog n (rows ++ filed) → ⊥
room_for None None n rows bay bay' filed can by passes = can (subst (λ (all : List RawValue). PassesLog n all) (ap (λ (more : List RawValue). rows ++ more) by.0 ∙ append-nil rows) passes)
room_for None (Some f) n rows bay bay' filed can by passes = by
room_for (Some name) None n rows bay bay' filed can by passes = by
room_for (Some name) (Some f) n rows bay bay' filed can by passes =
    can.room filed by.read_out (subst (λ (told : Option Names). IfSome told (λ names. HeldRows n (bytes_under names (string_bytes name)) (map row_of filed))) can.are_told by.held) passes

-- `old`: the objects that tell these names; `g`: what a side goes by, as the names hold it
module _ (old : World) (names : Names) (g : SideGiven) (image cap : String Global) (area : AreaWords) (are_told : old.shelf.names ≡ Some names) (are_given : AreSideGiven (string_bytes image) (string_bytes cap) area (Some names) g) (log : Option (String Global)) (file : Option FileState) where
  image_bytes : (b : List ℕ) → GetsName old.shelf.names (string_bytes image) (Some b) → b ≡ are_given.image.bytes
  image_bytes b gets = same_bytes old.shelf.names names (string_bytes image) are_given.image.bytes b are_told are_given.image.held gets

  cap_bytes : (v : World) (b : List ℕ) → v.shelf ≡ old.shelf → GetsName v.shelf.names (string_bytes cap) (Some b) → b ≡ are_given.cap.bytes
  cap_bytes v b at gets = same_bytes v.shelf.names names (string_bytes cap) are_given.cap.bytes b (ap (λ (h : ShelfFacts). h.names) at ∙ are_told) are_given.cap.held gets

  -- ---- what was got is what is given

  pub given_is : (new : World) (r : Prepared) (prepared : HasPrepared image cap area log file old new r)
      → ◌≡◌ {A = SideGiven} (record { namespace = prepared.given.namespace; rows = prepared.given.rows.items; cap = prepared.capability }) g
  given_is new r prepared =
      let n = prepared.given.namespace in
      let rows = prepared.given.rows.items in
      let c = prepared.capability in
      let bytes = image_bytes prepared.has_image.bytes prepared.has_image.held in
      let is_image = subst (λ (b : List ℕ). IsImage b n rows) bytes prepared.has_image.is_image.is_image in
      let image_is = one_image are_given.image.bytes n g.namespace rows g.rows is_image are_given.image.is_image.is_image in
      let spelled = cap_bytes old prepared.has_capability.bytes refl prepared.has_capability.held in
      let cap_is = same_capability are_given.cap.bytes c g.cap (subst (λ (b : List ℕ). IsSpelled b c) spelled prepared.has_capability.spelled) are_given.cap.spelled in
      ap (λ (m : List ℕ). record { namespace = m; rows = rows; cap = c }) image_is.0
      ∙ ap (λ (rs : List RawValue). record { namespace = g.namespace; rows = rs; cap = c }) image_is.1
      ∙ ap (λ (d : Capability). record { namespace = g.namespace; rows = g.rows; cap = d }) cap_is

  -- ---- nothing keeps a side from it

  image_free : (w : World) (e : Stop) → IsCondition e → GetsImage image old w (Err e) → ⊥
  image_free w e condition (inl s) = get_free image names are_given.image.bytes old.shelf w.shelf e are_told are_given.image.held condition s.does
  image_free w e condition (inr p) =
      image_fits (origin.Name p.value.0) are_given.image.bytes g.namespace g.rows e are_given.image.is_image condition
      (subst (λ (b : List ℕ). ReadsImageFrom (origin.Name p.value.0) b (Err e)) (image_bytes p.value.1.items p.given.does.1.0) p.rest.0)

  image_got : (w : World) (i : Image) → GetsImage image old w (Ok i) → IsRead g.namespace g.rows i
  image_got w i p =
      image_reads (origin.Name p.value.0) are_given.image.bytes g.namespace g.rows i are_given.image.is_image
      (subst (λ (b : List ℕ). ReadsImageFrom (origin.Name p.value.0) b (Ok i)) (image_bytes p.value.1.items p.given.does.1.0) p.rest.0)

  capability_free : (v w : World) (e : Stop) → v.shelf ≡ old.shelf → IsCondition e → GetsCapability cap v w (Err e) → ⊥
  capability_free v w e at condition (inl s) = get_free cap names are_given.cap.bytes v.shelf w.shelf e (ap (λ (h : ShelfFacts). h.names) at ∙ are_told) are_given.cap.held condition s.does
  capability_free v w e at condition (inr p) =
      capability_fits (origin.Name p.value.0) are_given.cap.bytes g.cap e are_given.cap.spelled condition
      (subst (λ (b : List ℕ). ReadsCapabilityFrom (origin.Name p.value.0) b (Err e)) (cap_bytes v p.value.1.items at p.given.does.1.0) p.rest.0)

  capability_got : (v w : World) (c : Capability) → v.shelf ≡ old.shelf → GetsCapability cap v w (Ok c) → c ≡ g.cap
  capability_got v w c at p = same_capability are_given.cap.bytes c g.cap (subst (λ (b : List ℕ). IsSpelled b c) (cap_bytes v p.value.1.items at p.given.does.1.0) p.rest.0) are_given.cap.spelled

  greets_free : (i : Image) (c : Capability) (e : Stop) → IsRead g.namespace g.rows i → c ≡ g.cap → IsCondition e → Greets i.namespace area c no_nonce (Err e) → ⊥
  greets_free i c (stop.SessionRefused refusal) is cap_is condition s =
      let none : None ≡ Some refusal =
      sym are_given.passes ∙ ap (λ (n : List ℕ). own_refusal n (own_hello area g.cap no_nonce)) (sym is.of_namespace) ∙ ap (λ (x : Capability). own_refusal i.namespace (own_hello area x no_nonce)) (sym cap_is) ∙ s in
      absurd cc
  greets_free i c stop.NoMemory is cap_is condition s = condition
  greets_free i c e is cap_is condition s = s

  module _ (can : CanOpen log g.namespace g.rows old.bay) where
    -- what a log file is refused for
    file_free : (i : Image) (v w : World) (e : Stop) → IsRead g.namespace g.rows i → v.bay ≡ old.bay → IsCondition e → OpensFile log file i.namespace v w (Err e) → ⊥
    file_free i v w e is at condition s =
        opening_free log file g.namespace g.rows old.bay v w e can condition at
        (subst (λ (n : List ℕ). OpensFile log file n v w (Err e)) is.of_namespace s)

    opens_free : (i : Image) (filed : List RawValue) (b : BayFacts) (e : Stop) → IsRead g.namespace g.rows i → FiledBy log file i.namespace old.bay b filed → IsCondition e → OpensLog i.namespace (i.rows.items ++ filed) (Err e) → ⊥
    opens_free i filed b stop.LogFull is by condition s =
        room_for log file g.namespace g.rows old.bay b filed can (subst (λ (n : List ℕ). FiledBy log file n old.bay b filed) is.of_namespace by)
        (subst (λ (n : List ℕ). PassesLog n (g.rows ++ filed)) is.of_namespace (subst (λ (rows : List RawValue). PassesLog i.namespace (rows ++ filed)) is.of_rows s))
    opens_free i filed b stop.NoMemory is by condition s = condition
    opens_free i filed b e is by condition s = s

    pub prepares_free : (w : World) (e : Stop) → IsCondition e → Prepares image cap area log file old w (Err e) → ⊥
    prepares_free w e condition prepares =
        elim prepares [
          | inl s ↦ image_free w e condition s
          | inr p ↦
              let is = image_got p.between p.value p.given in
              let one = image_same image old p.between p.value p.given in
              elim p.rest [
                | inl s ↦ file_free p.value p.between w e is (ap (λ (u : World). u.bay) one) condition s
                | inr f ↦
                    let by = filed_by log file p.value.namespace p.between f.between f.value f.given in
                    let here = subst (λ (b : BayFacts). FiledBy log file p.value.namespace b f.between.bay f.value.items) (ap (λ (u : World). u.bay) one) by.0 in
                    let two : f.between.shelf ≡ old.shelf = ap (λ (u : World). u.shelf) by.1 ∙ ap (λ (u : World). u.shelf) one in
                    elim f.rest [
                      | inl s ↦ opens_free p.value f.value.items f.between.bay e is here condition s.0
                      | inr q ↦
                          let three = ap (λ (u : World). u.shelf) q.given.1 ∙ two in
                          elim q.rest [
                            | inl s ↦ capability_free q.between w e three condition s
                            | inr c ↦ elim c.rest [ inl s ↦ greets_free p.value c.value e is (capability_got q.between c.between c.value three c.given) condition s.0 | inr h ↦ h.rest.0 ]
                          ]
                    ]
              ]
        ]
