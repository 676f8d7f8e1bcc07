-- The laws of the commands in which two stores meet.
use Rattle.std.proofs.Common.{◌≡◌, ◌∙◌, ℕ, ◌⊎◌, inl, inr, List, Option, Some, None, sym, ap, subst}
use Rattle.std.specs.Prelude.{Result, Ok, Err}
use Rattle.std.specs.Global.{Vec}
use Rattle.std.specs.String.{string_bytes}
use Rattle.std.specs.declared.string.String.{String}
use Rattle.std.specs.declared.alloc.Global.{Global}
use Rattle.willow_outside.specs.Counts.{Rose}
use Rattle.willow_outside.specs.Facts.{Names, ShelfFacts}
use Rattle.willow_area.specs.declared.area.Area.{Area}
use Rattle.cap_codec.specs.Rows.{RawValue}
use Rattle.mc_cap.specs.declared.capability.Capability.{Capability}
use Rattle.peer_image.specs.ImageReading.{IsMisordered, raw_rows}
use Rattle.peer_image.specs.Order.{order_refusal}
use Rattle.peer_image.specs.declared.read.Image.{Image}
use Rattle.peer_image.specs.declared.refusal.ImageRefusal.{ImageRefusal}
use Rattle.peer_image.specs.declared.refusal.ImageRefusal.TheVariants as refusal
use Rattle.peer_image.proofs.Stops.{one_image}
use Rattle.peer_image.proofs.Stops as images
use Rattle.peer_make.specs.Reading.{IsSpelled, ReadsCapabilityFrom}
use Rattle.peer_make.proofs.Deeds.{same_capability}
use Rattle.peer_make.proofs.Signers.{given}
use Rattle.peer_rows.specs.Images.{IsImageInOrder, ReadsImageFrom}
use Rattle.peer_stage.specs.World.{World}
use Rattle.peer_stage.specs.Deed.{IsLawful}
use Rattle.peer_stage.specs.Shelves.{GetsBytes, PutsBytes}
use Rattle.peer_stage.specs.Steps.{Then, Inside, OnShelf}
use Rattle.peer_stage.specs.declared.outcome.Done.TheVariants as done
use Rattle.peer_stage.specs.declared.outcome.Origin.{Origin}
use Rattle.peer_stage.specs.declared.outcome.Origin.TheVariants as origin
use Rattle.peer_stage.specs.declared.outcome.Stop.{Stop}
use Rattle.peer_stage.specs.declared.outcome.Stop.TheVariants as stop
use Rattle.peer_stage.proofs.Ends.{IsCondition}
use Rattle.peer_stage.proofs.Owing.{Owes, IsLasting, then_owes, writes_owe, inside_counts, shelf_counts, inside_unfailed, shelf_unfailed, rose_behind, then_local, writes_local, lawful}
use Rattle.peer_run.specs.Drill.{drill_text}
use Rattle.peer_run.specs.Getting.{GetsImage, GetsCapability}
use Rattle.peer_run.specs.ImagesMet.{MeetFullLog, MeetsImages}
use Rattle.peer_run.specs.Meet.{Agrees, Gathers, Yields, Puts, agreed_area, meeting_refusal}
use Rattle.peer_run.specs.PairDeeds.{CanMeet, drill_deed, meet_deed}
use Rattle.peer_run.specs.declared.images_met.Met.{Met}
use Rattle.peer_run.specs.declared.meeting.MeetWords.{MeetWords}
use Rattle.peer_run.specs.declared.meeting.Sides.{Sides}
use Rattle.peer_run.proofs.BothPass.{none_against}

-- ---- drill

pub drill_is_lawful : (rows : ℕ) → IsLawful (drill_deed rows)
drill_is_lawful rows =
    lawful (drill_deed rows) (λ old. Unit {0}) (λ d new. Unit {0}) (λ unbuilt. unbuilt) (λ old new ready. ready)
    (writes_local (drill_text rows) done.Made tt)
    (writes_owe (λ old new. ⊥) (λ old new. Rose old.output.faults new.output.faults) (λ old. Unit {0}) (drill_text rows) done.Made (λ old new rose. rose))

-- ---- what is got

abbrev Reads : World → World → Type 0
Reads old new = Rose old.shelf.read_faults new.shelf.read_faults

abbrev Wrote : World → World → Type 0
Wrote old new = Rose old.shelf.write_faults new.shelf.write_faults ⊎ Rose old.output.faults new.output.faults

reads_last : IsLasting Reads
reads_last old between new counts rose = rose_behind _ _ _ counts.shelf_reads rose

writes_last : IsLasting Wrote
writes_last old between new counts (inl rose) = inl (rose_behind _ _ _ counts.shelf_writes rose)
writes_last old between new counts (inr rose) = inr (rose_behind _ _ _ counts.output_faults rose)

-- the shelf tells that the name holds these bytes
abbrev TellsBytes : Option Names → List ℕ → List ℕ → Type 0
TellsBytes told name bytes = (names : Names) × (told ≡ Some names) × (names name ≡ Some bytes)

-- of names that tell some fact, one holds the bytes that the fact says
module _ {Q : Option Names → Type 0} (name : String Global) (bytes_of : (told : Option Names) → Q told → List ℕ) (tells : (told : Option Names) (q : Q told) → TellsBytes told (string_bytes name) (bytes_of told q)) where
  -- these are the bytes
  abbrev AreBytes : List ℕ → Option Names → Type 0
  AreBytes bytes told = (q : Q told) × (bytes ≡ bytes_of told q)

  -- names that are as they were tell the same
  kept : (old new : Option Names) (bytes : List ℕ) → new ≡ old → AreBytes bytes old → AreBytes bytes new
  kept old new bytes same known = subst (λ (told : Option Names). AreBytes bytes told) (sym same) known

  found_bytes : (h h' : ShelfFacts) (got : String Global × Vec ℕ) → Q h.names → GetsBytes name h h' (Ok got) → AreBytes got.1.items h'.names
  found_bytes h h' got q gets =
      let told = tells h.names q in
      let some : Some (bytes_of h.names q) ≡ Some got.1.items = sym told.2 ∙ given h.names told.0 (string_bytes name) (Some got.1.items) told.1 gets.1.0 in
      kept h.names h'.names got.1.items gets.1.1 (q, cc)

  get_stops : (h h' : ShelfFacts) (e : Stop) → Q h.names → IsCondition e → GetsBytes name h h' (Err e) → ⊥
  get_stops h h' (stop.Missing other) q condition gets =
      let told = tells h.names q in
      let some : Some (bytes_of h.names q) ≡ None = sym told.2 ∙ given h.names told.0 (string_bytes name) None told.1 gets.1.0 in
      absurd cc
  get_stops h h' stop.ReadFault q condition gets = condition
  get_stops h h' stop.NoMemory q condition gets = condition
  get_stops h h' e q condition gets = gets

  getting_owes : Owes Reads Wrote (λ w. Q w.shelf.names) (λ got w. AreBytes got.1.items w.shelf.names) (OnShelf (GetsBytes name))
  getting_owes =
      record {
        counts = shelf_counts (GetsBytes name);
        unfailed = shelf_unfailed (GetsBytes name);
        read_fault = λ old new s. s.does.0;
        write_fault = λ old new s. absurd s.does;
        usage = λ old new s. s.does;
        stops = λ old new e q condition s. get_stops old.shelf new.shelf e q condition s.does;
        goes_on = λ old new got q s. found_bytes old.shelf new.shelf got q s.does;
      }

  -- and these bytes are read as just one value
  module _ {A : Type 0} (Parses : Origin → List ℕ → Result A Stop → Type 0) (Is : A → Option Names → Type 0)
      (no_read : (from : Origin) (bytes : List ℕ) → Parses from bytes (Err stop.ReadFault) → ⊥) (no_write : (from : Origin) (bytes : List ℕ) → Parses from bytes (Err stop.WriteFault) → ⊥)
      (no_usage : (from : Origin) (bytes : List ℕ) → Parses from bytes (Err stop.Usage) → ⊥)
      (fits : (from : Origin) (told : Option Names) (q : Q told) (e : Stop) → IsCondition e → Parses from (bytes_of told q) (Err e) → ⊥)
      (reads : (from : Origin) (told : Option Names) (q : Q told) (a : A) → Parses from (bytes_of told q) (Ok a) → Is a told) where
    parsing_owes : (got : String Global × Vec ℕ) → Owes Reads Wrote (λ w. AreBytes got.1.items w.shelf.names) (λ a w. Is a w.shelf.names) (Inside (Parses (origin.Name got.0) got.1.items))
    parsing_owes got =
        record {
          counts = inside_counts (Parses (origin.Name got.0) got.1.items);
          unfailed = inside_unfailed (Parses (origin.Name got.0) got.1.items);
          read_fault = λ old new s. absurd (no_read (origin.Name got.0) got.1.items s.0);
          write_fault = λ old new s. absurd (no_write (origin.Name got.0) got.1.items s.0);
          usage = λ old new s. no_usage (origin.Name got.0) got.1.items s.0;
          stops = λ old new e known condition s. fits (origin.Name got.0) old.shelf.names known.0 e condition (subst (λ (bytes : List ℕ). Parses (origin.Name got.0) bytes (Err e)) known.1 s.0);
          goes_on = λ old new a known s.
              subst (λ (w : World). Is a w.shelf.names) (sym s.1) (reads (origin.Name got.0) old.shelf.names known.0 a (subst (λ (bytes : List ℕ). Parses (origin.Name got.0) bytes (Ok a)) known.1 s.0));
        }

    pub reading_owes : Owes Reads Wrote (λ w. Q w.shelf.names) (λ a w. Is a w.shelf.names) (Then (OnShelf (GetsBytes name)) (λ got. Inside (Parses (origin.Name got.0) got.1.items)))
    reading_owes =
        then_owes Reads Wrote (λ w. Q w.shelf.names) (λ got w. AreBytes got.1.items w.shelf.names) (λ a w. Is a w.shelf.names) (OnShelf (GetsBytes name)) (λ got. Inside (Parses (origin.Name got.0) got.1.items)) reads_last writes_last
        getting_owes parsing_owes

-- rows in order are not refused for it
misordered : (bytes n : List ℕ) (rows : List RawValue) (refused : ImageRefusal) → IsImageInOrder bytes n rows → IsMisordered bytes refused → ⊥
misordered bytes n rows refused is wrong =
    let same = (one_image bytes n wrong.namespace rows wrong.rows is.is_image wrong.is_image).1 in
    let none : None ≡ Some refused = sym is.in_order ∙ ap (λ (rs : List RawValue). order_refusal (raw_rows rs)) same ∙ wrong.refused in
    absurd cc

-- an image in order is read as itself
pub image_fits : (from : Origin) (bytes n : List ℕ) (rows : List RawValue) (e : Stop) → IsImageInOrder bytes n rows → IsCondition e → ReadsImageFrom from bytes (Err e) → ⊥
image_fits from bytes n rows (stop.BadInput other at) is condition h = images.never_both bytes n rows at is.is_image h.0
image_fits from bytes n rows (stop.NotRising other row) is condition h = misordered bytes n rows (refusal.NotRising row) is h.0
image_fits from bytes n rows (stop.Pruned other row by) is condition h = misordered bytes n rows (refusal.Pruned row by) is h.0
image_fits from bytes n rows stop.NoMemory is condition h = condition
image_fits from bytes n rows e is condition h = h

-- the image was read of this namespace and these rows
pub record IsRead (n : List ℕ) (rows : List RawValue) (image : Image) : Type 0 where
  pub of_namespace : image.namespace ≡ n
  pub of_rows : image.rows.items ≡ rows

pub image_reads : (from : Origin) (bytes n : List ℕ) (rows : List RawValue) (image : Image) → IsImageInOrder bytes n rows → ReadsImageFrom from bytes (Ok image) → IsRead n rows image
image_reads from bytes n rows image is h =
    let same = one_image bytes image.namespace n image.rows.items rows h.is_image is.is_image in
    record { of_namespace = same.0; of_rows = same.1 }

-- a capability is read as itself
pub capability_fits : (from : Origin) (bytes : List ℕ) (c : Capability) (e : Stop) → IsSpelled bytes c → IsCondition e → ReadsCapabilityFrom from bytes (Err e) → ⊥
capability_fits from bytes c (stop.BadInput other at) is condition h = h.2 c is
capability_fits from bytes c stop.NoMemory is condition h = condition
capability_fits from bytes c e is condition h = h

-- ---- what the shelf tells, as one thing after the other is got

module _ (words : MeetWords) where
  pub record HasLeft (a : Image) (told : Option Names) : Type 0 where
    pub can : CanMeet words told
    pub left : IsRead can.given.namespace can.given.left a

  pub record HasRight (a b : Image) (told : Option Names) : Type 0 where
    pub so_far : HasLeft a told
    pub right : IsRead so_far.can.given.namespace so_far.can.given.right b

  pub record HasLeftCap (a b : Image) (c : Capability) (told : Option Names) : Type 0 where
    pub so_far : HasRight a b told
    pub left_cap : c ≡ so_far.so_far.can.given.left_cap

  pub record HasAll (a b : Image) (c d : Capability) (told : Option Names) : Type 0 where
    pub so_far : HasLeftCap a b c told
    pub right_cap : d ≡ so_far.so_far.so_far.can.given.right_cap

  -- nothing is against the meeting, and the logs have room
  pub record CanGoOn (s : Sides) : Type 0 where
    pub agreed : meeting_refusal words.area s.left.namespace s.right.namespace s.left_cap s.right_cap ≡ None
    pub room : MeetFullLog s.left.namespace s.left.rows.items s.right.rows.items (agreed_area words.area s.left_cap s.right_cap) words.limits → ⊥

  got_left : Owes Reads Wrote (λ w. CanMeet words w.shelf.names) (λ a w. HasLeft a w.shelf.names) (GetsImage words.left)
  got_left =
      reading_owes {Q = CanMeet words} words.left (λ told can. can.are_given.left.bytes) (λ told can. (can.names, can.are_told, can.are_given.left.held)) ReadsImageFrom HasLeft (λ from bytes h. h) (λ from bytes h. h) (λ from bytes h. h)
      (λ from told can e condition h. image_fits from can.are_given.left.bytes can.given.namespace can.given.left e can.are_given.left.is_image condition h)
      (λ from told can a h. record { can = can; left = image_reads from can.are_given.left.bytes can.given.namespace can.given.left a can.are_given.left.is_image h })

  got_right : (a : Image) → Owes Reads Wrote (λ w. HasLeft a w.shelf.names) (λ b w. HasRight a b w.shelf.names) (GetsImage words.right)
  got_right a =
      reading_owes {Q = HasLeft a} words.right (λ told has. has.can.are_given.right.bytes) (λ told has. (has.can.names, has.can.are_told, has.can.are_given.right.held)) ReadsImageFrom (HasRight a) (λ from bytes h. h) (λ from bytes h. h) (λ from bytes h. h)
      (λ from told has e condition h. image_fits from has.can.are_given.right.bytes has.can.given.namespace has.can.given.right e has.can.are_given.right.is_image condition h)
      (λ from told has b h. record { so_far = has; right = image_reads from has.can.are_given.right.bytes has.can.given.namespace has.can.given.right b has.can.are_given.right.is_image h })

  got_left_cap : (a b : Image) → Owes Reads Wrote (λ w. HasRight a b w.shelf.names) (λ c w. HasLeftCap a b c w.shelf.names) (GetsCapability words.left_cap)
  got_left_cap a b =
      reading_owes {Q = HasRight a b} words.left_cap (λ told has. has.so_far.can.are_given.left_cap.bytes) (λ told has. (has.so_far.can.names, has.so_far.can.are_told, has.so_far.can.are_given.left_cap.held)) ReadsCapabilityFrom (HasLeftCap a b)
      (λ from bytes h. h) (λ from bytes h. h) (λ from bytes h. h)
      (λ from told has e condition h. capability_fits from has.so_far.can.are_given.left_cap.bytes has.so_far.can.given.left_cap e has.so_far.can.are_given.left_cap.spelled condition h)
      (λ from told has c h. record { so_far = has; left_cap = same_capability has.so_far.can.are_given.left_cap.bytes c has.so_far.can.given.left_cap h has.so_far.can.are_given.left_cap.spelled })

  got_right_cap : (a b : Image) (c : Capability) → Owes Reads Wrote (λ w. HasLeftCap a b c w.shelf.names) (λ d w. HasAll a b c d w.shelf.names) (GetsCapability words.right_cap)
  got_right_cap a b c =
      reading_owes {Q = HasLeftCap a b c} words.right_cap (λ told has. has.so_far.so_far.can.are_given.right_cap.bytes)
      (λ told has. (has.so_far.so_far.can.names, has.so_far.so_far.can.are_told, has.so_far.so_far.can.are_given.right_cap.held)) ReadsCapabilityFrom (HasAll a b c)
      (λ from bytes h. h) (λ from bytes h. h) (λ from bytes h. h)
      (λ from told has e condition h. capability_fits from has.so_far.so_far.can.are_given.right_cap.bytes has.so_far.so_far.can.given.right_cap e has.so_far.so_far.can.are_given.right_cap.spelled condition h)
      (λ from told has d h. record { so_far = has; right_cap = same_capability has.so_far.so_far.can.are_given.right_cap.bytes d has.so_far.so_far.can.given.right_cap h has.so_far.so_far.can.are_given.right_cap.spelled })

  -- what was got is what can meet
  goes_on : (a b : Image) (c d : Capability) (told : Option Names) → HasAll a b c d told → CanGoOn (record { left = a; right = b; left_cap = c; right_cap = d })
  goes_on a b c d told has =
      let can = has.so_far.so_far.so_far.can in
      let left = has.so_far.so_far.so_far.left in
      let right = has.so_far.so_far.right in
      let left_cap = has.so_far.left_cap in
      record {
        agreed = rw (left.of_namespace, right.of_namespace, left_cap, has.right_cap) (
            none_against words.area can.given.namespace can.given.left_cap can.given.right_cap can.are_given.left_passes can.are_given.right_passes
            );
        room = rw (left.of_namespace, left.of_rows, right.of_rows, left_cap, has.right_cap) can.room;
      }

  giving_owes : (a b : Image) (c d : Capability) → Owes Reads Wrote (λ w. HasAll a b c d w.shelf.names) (λ s w. CanGoOn s) (Inside (Yields (record { left = a; right = b; left_cap = c; right_cap = d })))
  giving_owes a b c d =
      record {
        counts = inside_counts (Yields (record { left = a; right = b; left_cap = c; right_cap = d }));
        unfailed = inside_unfailed (Yields (record { left = a; right = b; left_cap = c; right_cap = d }));
        read_fault = λ old new s. absurd s.0;
        write_fault = λ old new s. absurd s.0;
        usage = λ old new s. s.0;
        stops = λ old new e has condition s. s.0;
        goes_on = λ old new s has is. subst CanGoOn (sym is.0) (goes_on a b c d old.shelf.names has);
      }

  gathering_owes : Owes Reads Wrote (λ w. CanMeet words w.shelf.names) (λ s w. CanGoOn s) (Gathers words.left words.right words.left_cap words.right_cap)
  gathering_owes =
      then_owes Reads Wrote (λ w. CanMeet words w.shelf.names) (λ a w. HasLeft a w.shelf.names) (λ s w. CanGoOn s) _ _ reads_last writes_last got_left
      (λ a. then_owes Reads Wrote (λ w. HasLeft a w.shelf.names) (λ b w. HasRight a b w.shelf.names) (λ s w. CanGoOn s) _ _ reads_last writes_last (got_right a)
      (λ b. then_owes Reads Wrote (λ w. HasRight a b w.shelf.names) (λ c w. HasLeftCap a b c w.shelf.names) (λ s w. CanGoOn s) _ _ reads_last writes_last (got_left_cap a b)
      (λ c. then_owes Reads Wrote (λ w. HasLeftCap a b c w.shelf.names) (λ d w. HasAll a b c d w.shelf.names) (λ s w. CanGoOn s) _ _ reads_last writes_last (got_right_cap a b c)
      (λ d. giving_owes a b c d))))

  -- ---- what is agreed, and what comes of it

  agree_stops : (s : Sides) (e : Stop) → CanGoOn s → IsCondition e → Agrees words.area s.left.namespace s.right.namespace s.left_cap s.right_cap (Err e) → ⊥
  agree_stops s (stop.SessionRefused refused) can condition h =
      let none : None ≡ Some refused = sym can.agreed ∙ h in
      absurd cc
  agree_stops s stop.NoMemory can condition h = condition
  agree_stops s e can condition h = h

  agreeing_owes : (s : Sides) → Owes Reads Wrote (λ w. CanGoOn s) (λ area w. MeetFullLog s.left.namespace s.left.rows.items s.right.rows.items area words.limits → ⊥)
      (Inside (Agrees words.area s.left.namespace s.right.namespace s.left_cap s.right_cap))
  agreeing_owes s =
      record {
        counts = inside_counts (Agrees words.area s.left.namespace s.right.namespace s.left_cap s.right_cap);
        unfailed = inside_unfailed (Agrees words.area s.left.namespace s.right.namespace s.left_cap s.right_cap);
        read_fault = λ old new h. absurd h.0;
        write_fault = λ old new h. absurd h.0;
        usage = λ old new h. h.0;
        stops = λ old new e can condition h. agree_stops s e can condition h.0;
        goes_on = λ old new area can h. subst (λ (x : Option Area). MeetFullLog s.left.namespace s.left.rows.items s.right.rows.items x words.limits → ⊥) (sym h.0.1) can.room;
      }

  meet_stops : (n : List ℕ) (left right : List RawValue) (area : Option Area) (e : Stop) → (MeetFullLog n left right area words.limits → ⊥) → IsCondition e → MeetsImages n left right area words.limits (Err e) → ⊥
  meet_stops n left right area stop.LogFull room condition h = room h
  meet_stops n left right area stop.NoMemory room condition h = condition
  meet_stops n left right area e room condition h = h

  meeting_owes : (n : List ℕ) (left right : List RawValue) (area : Option Area) → Owes Reads Wrote (λ w. MeetFullLog n left right area words.limits → ⊥) (λ met w. Unit {0}) (Inside (MeetsImages n left right area words.limits))
  meeting_owes n left right area =
      record {
        counts = inside_counts (MeetsImages n left right area words.limits);
        unfailed = inside_unfailed (MeetsImages n left right area words.limits);
        read_fault = λ old new h. absurd h.0;
        write_fault = λ old new h. absurd h.0;
        usage = λ old new h. h.0;
        stops = λ old new e room condition h. meet_stops n left right area e room condition h.0;
        goes_on = λ old new met room h. tt;
      }

  put_stops : (name bytes : List ℕ) (h h' : ShelfFacts) (e : Stop) → IsCondition e → PutsBytes name bytes h h' (Err e) → ⊥
  put_stops name bytes h h' stop.WriteFault condition puts = condition
  put_stops name bytes h h' stop.NoMemory condition puts = condition
  put_stops name bytes h h' e condition puts = puts

  putting_owes : (name bytes : List ℕ) → Owes Reads Wrote (λ w. Unit {0}) (λ put w. Unit {0}) (OnShelf (PutsBytes name bytes))
  putting_owes name bytes =
      record {
        counts = shelf_counts (PutsBytes name bytes);
        unfailed = shelf_unfailed (PutsBytes name bytes);
        read_fault = λ old new s. absurd s.does;
        write_fault = λ old new s. inl s.does.0;
        usage = λ old new s. s.does;
        stops = λ old new e need condition s. put_stops name bytes old.shelf new.shelf e condition s.does;
        goes_on = λ old new put need s. tt;
      }

  puts_owe : (met : Met) → Owes Reads Wrote (λ w. Unit {0}) (λ d w. Unit {0}) (Puts words.left_out words.right_out met)
  puts_owe met =
      then_owes Reads Wrote (λ w. Unit {0}) (λ put w. Unit {0}) (λ d w. Unit {0}) _ _ reads_last writes_last (putting_owes (string_bytes words.left_out) met.left.items)
      (λ left. then_owes Reads Wrote (λ w. Unit {0}) (λ put w. Unit {0}) (λ d w. Unit {0}) _ _ reads_last writes_last (putting_owes (string_bytes words.right_out) met.right.items)
      (λ right. writes_owe Reads Wrote (λ w. Unit {0}) met.transcript.items (done.Met met.counts) (λ old new rose. inr rose)))

  pub meet_is_lawful : IsLawful (meet_deed words)
  meet_is_lawful =
      lawful (meet_deed words) (λ old. CanMeet words old.shelf.names) (λ d new. Unit {0}) (λ unbuilt. unbuilt) (λ old new ready. ready)
      (then_local _ _ (λ s. then_local _ _ (λ area. then_local _ _ (λ met. then_local _ _ (λ left. then_local _ _ (λ right. writes_local met.transcript.items (done.Met met.counts) tt))))))
      (then_owes Reads Wrote (λ w. CanMeet words w.shelf.names) (λ s w. CanGoOn s) (λ d w. Unit {0}) _ _ reads_last writes_last gathering_owes
      (λ s. then_owes Reads Wrote (λ w. CanGoOn s) (λ area w. MeetFullLog s.left.namespace s.left.rows.items s.right.rows.items area words.limits → ⊥) (λ d w. Unit {0}) _ _ reads_last writes_last (agreeing_owes s)
      (λ area. then_owes Reads Wrote (λ w. MeetFullLog s.left.namespace s.left.rows.items s.right.rows.items area words.limits → ⊥) (λ met w. Unit {0}) (λ d w. Unit {0}) _ _ reads_last writes_last
      (meeting_owes s.left.namespace s.left.rows.items s.right.rows.items area) (λ met. puts_owe met))))
