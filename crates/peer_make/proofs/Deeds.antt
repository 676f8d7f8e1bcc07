-- The laws of the commands that make things.
use Rattle.std.proofs.Common.{◌≡◌, ℕ, ◌⊎◌, inl, inr, true, false, List, [], ◌++◌, Option, Some, None, sym, ap, ◌∙◌, subst}
use Rattle.std.specs.Prelude.{Err}
use Rattle.std.specs.String.{string_bytes}
use Rattle.std.specs.declared.string.String.{String}
use Rattle.std.specs.declared.alloc.Global.{Global}
use Rattle.willow_outside.specs.Counts.{Rose}
use Rattle.willow_outside.specs.Facts.{ShelfFacts, SourceFacts, NoiseFacts}
use Rattle.lms_core.specs.Key.{Key}
use Rattle.lms_core.specs.declared.height.Height.{Height}
use Rattle.mc_cap.specs.Forms.{capability_spelling}
use Rattle.mc_cap.specs.Grant.{extended}
use Rattle.mc_cap.specs.Messages.{handover, initial_message}
use Rattle.mc_cap.specs.declared.capability.Capability.{Capability}
use Rattle.mc_cap.specs.declared.capability.Mode.{Mode}
use Rattle.cap_codec.specs.Rows.{RawValue, frame}
use Rattle.cap_codec.proofs.CapReads.{capability-reads}
use Rattle.willow_entry.specs.Message.{entry_message}
use Rattle.spelling.proofs.Joining.{one_spelling}
use Rattle.peer_listing.specs.Listing.{key_line}
use Rattle.peer_stage.specs.World.{World}
use Rattle.peer_stage.specs.Deed.{IsLawful}
use Rattle.peer_stage.specs.Steps.{Inside, OnInput, OnShelf, OnNoise}
use Rattle.peer_stage.specs.declared.outcome.Done.TheVariants as done
use Rattle.peer_stage.specs.declared.outcome.Stop.{Stop}
use Rattle.peer_stage.specs.declared.outcome.Stop.TheVariants as stop
use Rattle.peer_stage.proofs.Ends.{IsCondition}
use Rattle.peer_stage.proofs.Inputs.{not_too_far, is_all}
use Rattle.peer_stage.proofs.Owing.{Owes, IsLasting, then_owes, writes_owe, inside_counts, input_counts, shelf_counts, noise_counts, inside_unfailed, input_unfailed, shelf_unfailed, noise_unfailed, rose_behind, then_local, writes_local, lawful}
use Rattle.peer_words.specs.declared.command.SignerWord.{SignerWord}
use Rattle.peer_words.specs.declared.command.SignerWord.TheVariants.{OpenKey, LmsFile}
use Rattle.peer_words.specs.declared.command.AreaWords.{AreaWords}
use Rattle.peer_make.specs.Signing.{Signs, StopsSigning}
use Rattle.peer_make.specs.Reading.{IsSpelled, IsRead, IsUnfit, ReadsOne}
use Rattle.peer_make.specs.Making.{FindsFree, DrawsKey, PutsFile, own_user_key}
use Rattle.peer_make.specs.Granting.{BeginsBy, Checks, Tells, first_capability}
use Rattle.peer_words.specs.Areas.{is_empty}
use Rattle.peer_make.specs.Delegating.{Asks, asked}
use Rattle.peer_make.specs.Writing.{EntryWords, entry_under, row_under, Authorises, TellsRow}
use Rattle.peer_make.specs.Deeds.{HasCapability, CanSign, CanBegin, CanDelegate, CanWrite, IsFree, SignerRose, BeginningRose, key_deed, grant_deed, delegate_deed, write_deed}
use Rattle.peer_make.proofs.Signers.{given, signer_ready, signer_rose, signer_wrote}

-- ---- key

-- a count of the shelf's or the noise's reading rose
abbrev MakerReads : World → World → Type 0
MakerReads old new = Rose old.shelf.read_faults new.shelf.read_faults ⊎ Rose old.noise.faults new.noise.faults

-- a count of the shelf's or the output's writing rose
abbrev MakerWrote : World → World → Type 0
MakerWrote old new = Rose old.shelf.write_faults new.shelf.write_faults ⊎ Rose old.output.faults new.output.faults

maker_reads_last : IsLasting MakerReads
maker_reads_last old between new counts (inl rose) = inl (rose_behind _ _ _ counts.shelf_reads rose)
maker_reads_last old between new counts (inr rose) = inr (rose_behind _ _ _ counts.noise_faults rose)

maker_writes_last : IsLasting MakerWrote
maker_writes_last old between new counts (inl rose) = inl (rose_behind _ _ _ counts.shelf_writes rose)
maker_writes_last old between new counts (inr rose) = inr (rose_behind _ _ _ counts.output_faults rose)

free_stops : (name : String Global) (h h' : ShelfFacts) (e : Stop) → IsFree h (string_bytes name) → IsCondition e → FindsFree name h h' (Err e) → ⊥
free_stops name h h' (stop.Taken taken) can condition s =
    let some : Some s.1.bytes ≡ None = sym (given h.names can.names (string_bytes name) (Some s.1.bytes) can.told s.1.held) ∙ can.nothing in
    absurd cc
free_stops name h h' stop.ReadFault can condition s = condition
free_stops name h h' stop.NoMemory can condition s = condition
free_stops name h h' e can condition s = s

draw_stops : (height : Height) (n n' : NoiseFacts) (e : Stop) → IsCondition e → DrawsKey height n n' (Err e) → ⊥
draw_stops height n n' stop.ReadFault condition s = condition
draw_stops height n n' stop.NoMemory condition s = condition
draw_stops height n n' e condition s = s

put_stops : (name : List ℕ) (k : Key) (h h' : ShelfFacts) (e : Stop) → IsCondition e → PutsFile name k h h' (Err e) → ⊥
put_stops name k h h' stop.WriteFault condition s = condition
put_stops name k h h' stop.NoMemory condition s = condition
put_stops name k h h' e condition s = s

finding_owes : (name : String Global) → Owes MakerReads MakerWrote (λ old. IsFree old.shelf (string_bytes name)) (λ free new. Unit {0}) (OnShelf (FindsFree name))
finding_owes name =
    record {
      counts = shelf_counts (FindsFree name);
      unfailed = shelf_unfailed (FindsFree name);
      read_fault = λ old new s. inl s.does.0;
      write_fault = λ old new s. absurd s.does;
      usage = λ old new s. s.does;
      stops = λ old new e can condition s. free_stops name old.shelf new.shelf e can condition s.does;
      goes_on = λ old new free can s. tt;
    }

drawing_owes : (height : Height) → Owes MakerReads MakerWrote (λ old. Unit {0}) (λ k new. Unit {0}) (OnNoise (DrawsKey height))
drawing_owes height =
    record {
      counts = noise_counts (DrawsKey height);
      unfailed = noise_unfailed (DrawsKey height);
      read_fault = λ old new s. inr s.does.1;
      write_fault = λ old new s. absurd s.does;
      usage = λ old new s. s.does;
      stops = λ old new e can condition s. draw_stops height old.noise new.noise e condition s.does;
      goes_on = λ old new k can s. tt;
    }

putting_owes : (name : List ℕ) (k : Key) → Owes MakerReads MakerWrote (λ old. Unit {0}) (λ put new. Unit {0}) (OnShelf (PutsFile name k))
putting_owes name k =
    record {
      counts = shelf_counts (PutsFile name k);
      unfailed = shelf_unfailed (PutsFile name k);
      read_fault = λ old new s. absurd s.does;
      write_fault = λ old new s. inl s.does.0;
      usage = λ old new s. s.does;
      stops = λ old new e can condition s. put_stops name k old.shelf new.shelf e condition s.does;
      goes_on = λ old new put can s. tt;
    }

pub key_is_lawful : (name : String Global) (height : Height) → IsLawful (key_deed name height)
key_is_lawful name height =
    lawful (key_deed name height) (λ old. IsFree old.shelf (string_bytes name)) (λ d new. Unit {0}) (λ unbuilt. unbuilt) (λ old new ready. ready)
    (then_local _ _ (λ free. then_local _ _ (λ k. then_local _ _ (λ put. writes_local (key_line (own_user_key k)) done.Made tt))))
    (then_owes MakerReads MakerWrote _ (λ free new. Unit {0}) _ _ _ maker_reads_last maker_writes_last (finding_owes name)
    (λ free. then_owes MakerReads MakerWrote _ (λ k new. Unit {0}) _ _ _ maker_reads_last maker_writes_last (drawing_owes height)
    (λ k. then_owes MakerReads MakerWrote _ (λ put new. Unit {0}) _ _ _ maker_reads_last maker_writes_last (putting_owes (string_bytes free) k)
    (λ put. writes_owe MakerReads MakerWrote (λ old. Unit {0}) (key_line (own_user_key k)) done.Made (λ old new rose. inr rose)))))

-- ---- what is made and told

check_stops : (c : Capability) (e : Stop) → IsCondition e → Checks c (Err e) → ⊥
check_stops c (stop.Refused refusal) condition s = condition
check_stops c stop.NoMemory condition s = condition
check_stops c e condition s = s

authorise_stops : (r : RawValue) (e : Stop) → IsCondition e → Authorises r (Err e) → ⊥
authorise_stops r (stop.Refused refusal) condition s = condition
authorise_stops r stop.NoMemory condition s = condition
authorise_stops r e condition s = s

module _ (reads writes : World → World → Type 0) (reads_last : IsLasting reads) (writes_last : IsLasting writes) (rose : (old new : World) → Rose old.output.faults new.output.faults → writes old new) where
  checking_owes : (c : Capability) → Owes reads writes (λ old. Unit {0}) (λ valid new. Unit {0}) (Inside (Checks c))
  checking_owes c =
      record {
        counts = inside_counts (Checks c);
        unfailed = inside_unfailed (Checks c);
        read_fault = λ old new s. absurd s.0;
        write_fault = λ old new s. absurd s.0;
        usage = λ old new s. s.0;
        stops = λ old new e can condition s. check_stops c e condition s.0;
        goes_on = λ old new valid can s. tt;
      }

  telling_owes : (c : Capability) → Owes reads writes (λ old. Unit {0}) (λ d new. Unit {0}) (Tells c)
  telling_owes c =
      then_owes reads writes _ (λ valid new. Unit {0}) _ _ _ reads_last writes_last (checking_owes c) (λ valid. writes_owe reads writes (λ old. Unit {0}) (capability_spelling c) done.Made rose)

  authorising_owes : (r : RawValue) → Owes reads writes (λ old. Unit {0}) (λ fine new. Unit {0}) (Inside (Authorises r))
  authorising_owes r =
      record {
        counts = inside_counts (Authorises r);
        unfailed = inside_unfailed (Authorises r);
        read_fault = λ old new s. absurd s.0;
        write_fault = λ old new s. absurd s.0;
        usage = λ old new s. s.0;
        stops = λ old new e can condition s. authorise_stops r e condition s.0;
        goes_on = λ old new fine can s. tt;
      }

  telling_row_owes : (r : RawValue) → Owes reads writes (λ old. Unit {0}) (λ d new. Unit {0}) (TellsRow r)
  telling_row_owes r =
      then_owes reads writes _ (λ fine new. Unit {0}) _ _ _ reads_last writes_last (authorising_owes r) (λ fine. writes_owe reads writes (λ old. Unit {0}) (frame r) done.Made rose)

-- ---- grant

abbrev BeginningReads : Option SignerWord → World → World → Type 0
BeginningReads key old new = BeginningRose key old.shelf.read_faults new.shelf.read_faults

abbrev BeginningWrote : Option SignerWord → World → World → Type 0
BeginningWrote key old new = BeginningRose key old.shelf.write_faults new.shelf.write_faults ⊎ Rose old.output.faults new.output.faults

beginning_reads_last : (key : Option SignerWord) → IsLasting (BeginningReads key)
beginning_reads_last None old between new counts rose = rose
beginning_reads_last (Some (OpenKey key)) old between new counts rose = rose
beginning_reads_last (Some (LmsFile name)) old between new counts rose = rose_behind _ _ _ counts.shelf_reads rose

beginning_writes_last : (key : Option SignerWord) → IsLasting (BeginningWrote key)
beginning_writes_last key old between new counts (inr rose) = inr (rose_behind _ _ _ counts.output_faults rose)
beginning_writes_last None old between new counts (inl rose) = absurd rose
beginning_writes_last (Some (OpenKey key)) old between new counts (inl rose) = absurd rose
beginning_writes_last (Some (LmsFile name)) old between new counts (inl rose) = inl (rose_behind _ _ _ counts.shelf_writes rose)

no_usage : (key : SignerWord) (h h' : ShelfFacts) → StopsSigning key h h' stop.Usage → ⊥
no_usage (OpenKey key) h h' s = s
no_usage (LmsFile name) h h' s = s

begin_read : (key : Option SignerWord) (message : List ℕ) (h h' : ShelfFacts) → BeginsBy key message h h' (Err stop.ReadFault) → BeginningRose key h.read_faults h'.read_faults
begin_read None message h h' s = s
begin_read (Some key) message h h' s = signer_rose key h h' s

begin_wrote : (key : Option SignerWord) (message : List ℕ) (h h' : ShelfFacts) → BeginsBy key message h h' (Err stop.WriteFault) → BeginningRose key h.write_faults h'.write_faults
begin_wrote None message h h' s = s
begin_wrote (Some key) message h h' s = signer_wrote key h h' s

begin_usage : (key : Option SignerWord) (message : List ℕ) (h h' : ShelfFacts) → BeginsBy key message h h' (Err stop.Usage) → ⊥
begin_usage None message h h' s = s
begin_usage (Some key) message h h' s = no_usage key h h' s

begin_stops : (key : Option SignerWord) (message : List ℕ) (h h' : ShelfFacts) (e : Stop) → CanBegin key h → IsCondition e → BeginsBy key message h h' (Err e) → ⊥
begin_stops None message h h' e can condition s = s
begin_stops (Some key) message h h' e can condition s = signer_ready key h h' e can condition s

beginning_owes : (key : Option SignerWord) (message : List ℕ) → Owes (BeginningReads key) (BeginningWrote key) (λ old. CanBegin key old.shelf) (λ initial new. Unit {0}) (OnShelf (BeginsBy key message))
beginning_owes key message =
    record {
      counts = shelf_counts (BeginsBy key message);
      unfailed = shelf_unfailed (BeginsBy key message);
      read_fault = λ old new s. begin_read key message old.shelf new.shelf s.does;
      write_fault = λ old new s. inl (begin_wrote key message old.shelf new.shelf s.does);
      usage = λ old new s. begin_usage key message old.shelf new.shelf s.does;
      stops = λ old new e can condition s. begin_stops key message old.shelf new.shelf e can condition s.does;
      goes_on = λ old new initial can s. tt;
    }

pub grant_is_lawful : (n : List ℕ) (mode : Mode) (user : List ℕ) (key : Option SignerWord) → IsLawful (grant_deed n mode user key)
grant_is_lawful n mode user key =
    lawful (grant_deed n mode user key) (λ old. CanBegin key old.shelf) (λ d new. Unit {0}) (λ unbuilt. unbuilt) (λ old new ready. ready)
    (then_local _ _ (λ initial. then_local _ _ (λ valid. writes_local _ done.Made tt)))
    (then_owes (BeginningReads key) (BeginningWrote key) _ (λ initial new. Unit {0}) _ _ _ (beginning_reads_last key) (beginning_writes_last key) (beginning_owes key (initial_message mode user))
    (λ initial. telling_owes (BeginningReads key) (BeginningWrote key) (beginning_reads_last key) (beginning_writes_last key) (λ old new rose. inr rose) (first_capability mode n user initial)))

-- ---- capabilities that are read, and signers

abbrev SignedReads : SignerWord → World → World → Type 0
SignedReads key old new = SignerRose key old.shelf.read_faults new.shelf.read_faults ⊎ Rose old.input.faults new.input.faults

abbrev SignedWrote : SignerWord → World → World → Type 0
SignedWrote key old new = SignerRose key old.shelf.write_faults new.shelf.write_faults ⊎ Rose old.output.faults new.output.faults

signed_reads_last : (key : SignerWord) → IsLasting (SignedReads key)
signed_reads_last key old between new counts (inr rose) = inr (rose_behind _ _ _ counts.input_faults rose)
signed_reads_last (OpenKey key) old between new counts (inl rose) = absurd rose
signed_reads_last (LmsFile name) old between new counts (inl rose) = inl (rose_behind _ _ _ counts.shelf_reads rose)

signed_writes_last : (key : SignerWord) → IsLasting (SignedWrote key)
signed_writes_last key old between new counts (inr rose) = inr (rose_behind _ _ _ counts.output_faults rose)
signed_writes_last (OpenKey key) old between new counts (inl rose) = absurd rose
signed_writes_last (LmsFile name) old between new counts (inl rose) = inl (rose_behind _ _ _ counts.shelf_writes rose)

-- bytes spell one capability
pub same_capability : (bytes : List ℕ) (c d : Capability) → IsSpelled bytes c → IsSpelled bytes d → c ≡ d
same_capability bytes c d one other = (one_spelling capability-reads c d [] [] one.fits other.fits (ap (λ (b : List ℕ). b ++ []) (sym one.spelled ∙ other.spelled))).0

pub no_unfit : (i i' : SourceFacts) (at : ℕ) (c : Capability) → HasCapability i c → IsUnfit i i' at → ⊥
no_unfit i i' at c has (inl far) = not_too_far i i' has.had far.bytes has.input far.read
no_unfit i i' at c has (inr other) = other.no_capability c (subst (λ (b : List ℕ). IsSpelled b c) (sym (is_all i i' has.had other.bytes has.input other.read)) has.spelled)

pub same_read : (i i' : SourceFacts) (c d : Capability) → HasCapability i c → IsRead i i' d → c ≡ d
same_read i i' c d has read = same_capability has.had c d has.spelled (subst (λ (b : List ℕ). IsSpelled b d) (is_all i i' has.had read.bytes has.input read.read) read.spelled)

read_stops : (i i' : SourceFacts) (c : Capability) (e : Stop) → HasCapability i c → IsCondition e → ReadsOne i i' (Err e) → ⊥
read_stops i i' c (stop.BadInput from at) has condition s = no_unfit i i' at c has s.1
read_stops i i' c stop.ReadFault has condition s = condition
read_stops i i' c stop.NoMemory has condition s = condition
read_stops i i' c e has condition s = s

signing_owes : (key : SignerWord) (message : List ℕ) → Owes (SignedReads key) (SignedWrote key) (λ old. CanSign key old.shelf) (λ signature new. Unit {0}) (OnShelf (Signs key message))
signing_owes key message =
    record {
      counts = shelf_counts (Signs key message);
      unfailed = shelf_unfailed (Signs key message);
      read_fault = λ old new s. inl (signer_rose key old.shelf new.shelf s.does);
      write_fault = λ old new s. inl (signer_wrote key old.shelf new.shelf s.does);
      usage = λ old new s. no_usage key old.shelf new.shelf s.does;
      stops = λ old new e can condition s. signer_ready key old.shelf new.shelf e can condition s.does;
      goes_on = λ old new signature can s. tt;
    }

-- ---- delegate

-- the signer can sign, unless the area asked for has no times
abbrev CanHandOn : SignerWord → AreaWords → Capability → World → Type 0
CanHandOn key words c w = (is_empty (asked words c) ≡ true) ⊎ CanSign key w.shelf

delegate_reading_owes : (key : SignerWord) (words : AreaWords) → Owes (SignedReads key) (SignedWrote key) (λ old. CanDelegate key words old.shelf old.input) (CanHandOn key words) (OnInput ReadsOne)
delegate_reading_owes key words =
    record {
      counts = input_counts ReadsOne;
      unfailed = input_unfailed ReadsOne;
      read_fault = λ old new s. inr s.does.1.fault;
      write_fault = λ old new s. absurd s.does;
      usage = λ old new s. s.does;
      stops = λ old new e can condition s. read_stops old.input new.input can.0 e can.1 condition s.does;
      goes_on = λ old new c can s.
          subst (λ (w : World). CanHandOn key words c w) (sym s.others) (subst (λ (d : Capability). CanHandOn key words d old) (same_read old.input new.input can.0 c can.1 s.does) can.2);
    }

ask_stops : (words : AreaWords) (c : Capability) (e : Stop) → IsCondition e → Asks words c (Err e) → ⊥
ask_stops words c (stop.Refused refusal) condition s = condition
ask_stops words c stop.NoMemory condition s = condition
ask_stops words c e condition s = s

-- an area that was asked for has times
not_empty : (key : SignerWord) (words : AreaWords) (c : Capability) (w : World) → is_empty (asked words c) ≡ false → CanHandOn key words c w → CanSign key w.shelf
not_empty key words c w has_times (inl empty) = let both : false ≡ true = sym has_times ∙ empty in absurd cc
not_empty key words c w has_times (inr can) = can

asking_owes : (key : SignerWord) (words : AreaWords) (c : Capability) → Owes (SignedReads key) (SignedWrote key) (CanHandOn key words c) (λ area new. CanSign key new.shelf) (Inside (Asks words c))
asking_owes key words c =
    record {
      counts = inside_counts (Asks words c);
      unfailed = inside_unfailed (Asks words c);
      read_fault = λ old new s. absurd s.0;
      write_fault = λ old new s. absurd s.0;
      usage = λ old new s. s.0;
      stops = λ old new e can condition s. ask_stops words c e condition s.0;
      goes_on = λ old new area can s. subst (λ (w : World). CanSign key w.shelf) (sym s.1) (not_empty key words c old s.0.1 can);
    }

pub delegate_is_lawful : (key : SignerWord) (to : List ℕ) (words : AreaWords) → IsLawful (delegate_deed key to words)
delegate_is_lawful key to words =
    lawful (delegate_deed key to words) (λ old. CanDelegate key words old.shelf old.input) (λ d new. Unit {0}) (λ unbuilt. unbuilt) (λ old new ready. ready)
    (then_local _ _ (λ c. then_local _ _ (λ area. then_local _ _ (λ signature. then_local _ _ (λ valid. writes_local _ done.Made tt)))))
    (then_owes (SignedReads key) (SignedWrote key) _ (CanHandOn key words) _ _ _ (signed_reads_last key) (signed_writes_last key) (delegate_reading_owes key words)
    (λ c. then_owes (SignedReads key) (SignedWrote key) _ (λ area new. CanSign key new.shelf) _ _ _ (signed_reads_last key) (signed_writes_last key) (asking_owes key words c)
    (λ area. then_owes (SignedReads key) (SignedWrote key) _ (λ signature new. Unit {0}) _ _ _ (signed_reads_last key) (signed_writes_last key) (signing_owes key (handover c area to))
    (λ signature. telling_owes (SignedReads key) (SignedWrote key) (signed_reads_last key) (signed_writes_last key) (λ old new rose. inr rose) (extended c area to signature)))))

-- ---- write

write_reading_owes : (key : SignerWord) → Owes (SignedReads key) (SignedWrote key) (λ old. CanWrite key old.shelf old.input) (λ c new. CanSign key new.shelf) (OnInput ReadsOne)
write_reading_owes key =
    record {
      counts = input_counts ReadsOne;
      unfailed = input_unfailed ReadsOne;
      read_fault = λ old new s. inr s.does.1.fault;
      write_fault = λ old new s. absurd s.does;
      usage = λ old new s. s.does;
      stops = λ old new e can condition s. read_stops old.input new.input can.0.0 e can.0.1 condition s.does;
      goes_on = λ old new c can s. subst (λ (w : World). CanSign key w.shelf) (sym s.others) can.1;
    }

pub write_is_lawful : (key : SignerWord) (words : EntryWords) → IsLawful (write_deed key words)
write_is_lawful key words =
    lawful (write_deed key words) (λ old. CanWrite key old.shelf old.input) (λ d new. Unit {0}) (λ unbuilt. unbuilt) (λ old new ready. ready)
    (then_local _ _ (λ c. then_local _ _ (λ signature. then_local _ _ (λ fine. writes_local _ done.Made tt))))
    (then_owes (SignedReads key) (SignedWrote key) _ (λ c new. CanSign key new.shelf) _ _ _ (signed_reads_last key) (signed_writes_last key) (write_reading_owes key)
    (λ c. then_owes (SignedReads key) (SignedWrote key) _ (λ signature new. Unit {0}) _ _ _ (signed_reads_last key) (signed_writes_last key) (signing_owes key (entry_message (entry_under words c)))
    (λ signature. telling_row_owes (SignedReads key) (SignedWrote key) (signed_reads_last key) (signed_writes_last key) (λ old new rose. inr rose) (row_under words c signature))))
