-- What a side got before it reserved what signs, and what it left where it stopped before.
use Rattle.std.proofs.Common.{◌≡◌, ◌∙◌, ℕ, List, [], ◌++◌, Option, Some, None, inl, inr, sym, subst, ap}
use Rattle.std.specs.Prelude.{Ok, Err}
use Rattle.std.specs.Global.{Vec}
use Rattle.std.specs.String.{string_bytes}
use Rattle.std.specs.declared.string.String.{String}
use Rattle.std.specs.declared.alloc.Global.{Global}
use Rattle.willow_outside.specs.Facts.{Names, BayFacts, ShelfFacts}
use Rattle.cap_codec.specs.Rows.{RawValue}
use Rattle.lms_core.specs.Reserve.{KeepsNames}
use Rattle.mc_cap.specs.declared.capability.Capability.{Capability}
use Rattle.sync_hello.specs.declared.hello.Hello.{Hello}
use Rattle.peer_image.specs.declared.read.Image.{Image}
use Rattle.peer_stage.specs.Shelves.{GetsBytes}
use Rattle.peer_stage.specs.Steps.{OnShelf}
use Rattle.peer_stage.specs.World.{World}
use Rattle.peer_stage.specs.declared.outcome.Stop.{Stop}
use Rattle.peer_stage.specs.declared.outcome.Stop.TheVariants as stop
use Rattle.peer_words.specs.declared.command.AreaWords.{AreaWords}
use Rattle.peer_run.specs.Getting.{GetsImage, GetsCapability}
use Rattle.peer_run.specs.Greeting.{own_hello, own_refusal}
use Rattle.peer_run.specs.LogFiles.{FileState}
use Rattle.peer_run.specs.LogOpening.{HasOpened, OpensFile}
use Rattle.peer_run.specs.Opening.{IsOpened}
use Rattle.peer_run.specs.PairDeeds.{HasImage, HoldsCapability}
use Rattle.peer_run.specs.Preparing.{Prepares, no_nonce}
use Rattle.peer_run.specs.declared.opening.Opening.{Opening}
use Rattle.peer_run.specs.declared.preparing.Prepared.{Prepared}

-- ---- what is got leaves all as it was

same_shelf : (h h' : ShelfFacts) → h'.names ≡ h.names → h'.read_faults ≡ h.read_faults → h'.write_faults ≡ h.write_faults → h' ≡ h
same_shelf h h' names reads writes =
    ap (λ (n : Option Names). record { names = n; read_faults = h'.read_faults; write_faults = h'.write_faults }) names
    ∙ ap (λ (n : ℕ). record { names = h.names; read_faults = n; write_faults = h'.write_faults }) reads
    ∙ ap (λ (n : ℕ). record { names = h.names; read_faults = h.read_faults; write_faults = n }) writes

got_same : (name : String Global) (old new : World) (got : String Global × Vec ℕ) → OnShelf (GetsBytes name) old new (Ok got) → new ≡ old
got_same name old new got s = s.others ∙ ap (λ (h : ShelfFacts). record old { shelf = h }) (same_shelf old.shelf new.shelf s.does.1.1 s.read_faults s.write_faults)

pub image_same : (name : String Global) (old new : World) (image : Image) → GetsImage name old new (Ok image) → new ≡ old
image_same name old new image p = p.rest.1 ∙ got_same name old p.between p.value p.given

pub capability_same : (name : String Global) (old new : World) (c : Capability) → GetsCapability name old new (Ok c) → new ≡ old
capability_same name old new c p = p.rest.1 ∙ got_same name old p.between p.value p.given

had_image : (name : String Global) (old new : World) (image : Image) → GetsImage name old new (Ok image) → HasImage old.shelf.names (string_bytes name) image.namespace image.rows.items
had_image name old new image p = record { bytes = p.value.1.items; held = p.given.does.1.0; is_image = p.rest.0 }

had_capability : (name : String Global) (old new : World) (c : Capability) → GetsCapability name old new (Ok c) → HoldsCapability old.shelf.names (string_bytes name) c
had_capability name old new c p = record { bytes = p.value.1.items; held = p.given.does.1.0; spelled = p.rest.0 }

-- ---- where it stopped, the names are as they were

getting_keeps : (name : String Global) (h h' : ShelfFacts) (e : Stop) → GetsBytes name h h' (Err e) → KeepsNames h h'
getting_keeps name h h' stop.ReadFault s = s.1
getting_keeps name h h' (stop.Missing other) s = s.1.1
getting_keeps name h h' stop.NoMemory s = s.1
getting_keeps name h h' e s = absurd s

same_keeps : (old new : World) → new ≡ old → KeepsNames old.shelf new.shelf
same_keeps old new same = ap (λ (w : World). w.shelf.names) same

image_keeps : (name : String Global) (old new : World) (e : Stop) → GetsImage name old new (Err e) → KeepsNames old.shelf new.shelf
image_keeps name old new e (inl s) = getting_keeps name old.shelf new.shelf e s.does
image_keeps name old new e (inr p) = same_keeps old new (p.rest.1 ∙ got_same name old p.between p.value p.given)

capability_keeps : (name : String Global) (old new : World) (e : Stop) → GetsCapability name old new (Err e) → KeepsNames old.shelf new.shelf
capability_keeps name old new e (inl s) = getting_keeps name old.shelf new.shelf e s.does
capability_keeps name old new e (inr p) = same_keeps old new (p.rest.1 ∙ got_same name old p.between p.value p.given)

-- ---- the log file

-- it was opened so, with these rows; without one the bay is as it was, and there are no rows
abbrev pub FiledBy : Option (String Global) → Option FileState → List ℕ → BayFacts → BayFacts → List RawValue → Type 0
FiledBy None None n old new filed = (filed ≡ []) × (new ≡ old)
FiledBy (Some name) (Some f) n old new filed = HasOpened (string_bytes name) n old new f filed
FiledBy log file n old new filed = ⊥

pub filed_by : (log : Option (String Global)) (file : Option FileState) (n : List ℕ) (old new : World) (filed : Vec RawValue) → OpensFile log file n old new (Ok filed) → FiledBy log file n old.bay new.bay filed.items × (new ≡ record old { bay = new.bay })
filed_by None None n old new filed s = ((s.0, ap (λ (w : World). w.bay) s.1), s.1 ∙ ap (λ (b : BayFacts). record old { bay = b }) (sym (ap (λ (w : World). w.bay) s.1)))
filed_by None (Some f) n old new filed s = absurd s
filed_by (Some name) None n old new filed s = absurd s.does
filed_by (Some name) (Some f) n old new filed s = (s.does, s.others)

-- where it stopped there, the shelf is as it was
file_keeps : (log : Option (String Global)) (file : Option FileState) (n : List ℕ) (old new : World) (e : Stop) → OpensFile log file n old new (Err e) → new.shelf ≡ old.shelf
file_keeps None None n old new e s = ap (λ (w : World). w.shelf) s.1
file_keeps None (Some f) n old new e s = absurd s
file_keeps (Some name) file n old new e s = ap (λ (w : World). w.shelf) s.others

-- ---- all that a side brings but what signs

module _ (image cap : String Global) (area : AreaWords) (log : Option (String Global)) (file : Option FileState) where
  -- The names held an image and a capability, and nothing was against the own hello. The log is that of the image, and of the log
  -- file where there is one, and the hello asks what the words ask. But for the bay the objects are as they were.
  pub record HasPrepared (old new : World) (r : Prepared) : Type 0 where
    pub given : Image
    pub filed : List RawValue
    pub capability : Capability
    pub has_image : HasImage old.shelf.names (string_bytes image) given.namespace given.rows.items
    pub has_capability : HoldsCapability old.shelf.names (string_bytes cap) capability
    pub passes : own_refusal given.namespace (own_hello area capability no_nonce) ≡ None
    pub is_filed : FiledBy log file given.namespace old.bay new.bay filed
    pub opened : IsOpened given.namespace (given.rows.items ++ filed) r.opening
    pub hello_is : r.hello ≡ own_hello area capability no_nonce
    pub same : new ≡ record old { bay = new.bay }

  pub has_prepared : (old new : World) (r : Prepared) → Prepares image cap area log file old new (Ok r) → HasPrepared old new r
  has_prepared old new r p =
      let f = p.rest in
      let q = f.rest in
      let c = q.rest in
      let h = c.rest in
      let v = h.rest in
      let n = p.value.namespace in
      let one = image_same image old p.between p.value p.given in
      let by = filed_by log file n p.between f.between f.value f.given in
      let behind : new ≡ f.between = v.1 ∙ h.given.1 ∙ capability_same cap q.between c.between c.value c.given ∙ q.given.1 in
      let opened : f.between ≡ record old { bay = f.between.bay } = by.1 ∙ ap (λ (w : World). record w { bay = f.between.bay }) one in
      let bay : new.bay ≡ f.between.bay = ap (λ (w : World). w.bay) behind in
      let shelf : q.between.shelf ≡ old.shelf = ap (λ (w : World). w.shelf) (q.given.1 ∙ opened) in
      record {
        given = p.value;
        filed = f.value.items;
        capability = c.value;
        has_image = had_image image old p.between p.value p.given;
        has_capability = subst (λ (s : ShelfFacts). HoldsCapability s.names (string_bytes cap) c.value) shelf (had_capability cap q.between c.between c.value c.given);
        passes = subst (λ (hello : Hello). own_refusal n hello ≡ None) h.given.0.0 h.given.0.1;
        is_filed =
            subst (λ (b : BayFacts). FiledBy log file n old.bay b f.value.items) (sym bay)
            (subst (λ (b : BayFacts). FiledBy log file n b f.between.bay f.value.items) (ap (λ (w : World). w.bay) one) by.0);
        opened = subst (λ (x : Opening). IsOpened n (p.value.rows.items ++ f.value.items) x) (sym (ap (λ (x : Prepared). x.opening) v.0)) q.given.0;
        hello_is = ap (λ (x : Prepared). x.hello) v.0 ∙ h.given.0.0;
        same = behind ∙ opened ∙ ap (λ (b : BayFacts). record old { bay = b }) (sym bay);
      }

  pub preparing_keeps : (old new : World) (e : Stop) → Prepares image cap area log file old new (Err e) → KeepsNames old.shelf new.shelf
  preparing_keeps old new e prepares =
      elim prepares [
        | inl s ↦ image_keeps image old new e s
        | inr p ↦
            let one = ap (λ (w : World). w.shelf) (image_same image old p.between p.value p.given) in
            elim p.rest [
              | inl s ↦ ap (λ (h : ShelfFacts). h.names) (file_keeps log file p.value.namespace p.between new e s ∙ one)
              | inr f ↦
                  let two = ap (λ (w : World). w.shelf) (filed_by log file p.value.namespace p.between f.between f.value f.given).1 ∙ one in
                  elim f.rest [
                    | inl s ↦ ap (λ (h : ShelfFacts). h.names) (ap (λ (w : World). w.shelf) s.1 ∙ two)
                    | inr q ↦
                        let three = ap (λ (w : World). w.shelf) q.given.1 ∙ two in
                        elim q.rest [
                          | inl s ↦ subst (λ (h : ShelfFacts). KeepsNames h new.shelf) three (capability_keeps cap q.between new e s)
                          | inr c ↦
                              let four = ap (λ (w : World). w.shelf) (capability_same cap q.between c.between c.value c.given) ∙ three in
                              elim c.rest [ inl s ↦ ap (λ (h : ShelfFacts). h.names) (ap (λ (w : World). w.shelf) s.1 ∙ four) | inr h ↦ absurd h.rest.0 ]
                        ]
                  ]
            ]
      ]
